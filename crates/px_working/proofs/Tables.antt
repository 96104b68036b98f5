-- A write that is answered is one of a table that the store has.
use Rattle.std.proofs.Common.{◌≡◌, ℕ, Bool, true, false, not, cond, Option, Some, option_map, refl, subst}
use Rattle.std.specs.Prelude.{nat_le}
use Rattle.std.proofs.lemmas.Bool.{and_parts, leb-true, not-false, true≢false}
use Rattle.std.proofs.lemmas.Option.{none-some, same_Some}
use Rattle.px_calls.specs.declared.call.Call.{Call}
use Rattle.px_calls.specs.declared.call.Call.TheVariants.{Begin, Get, Hold, Fetch, Find, Scan, Insert, Update, Delete as DeleteCall, Commit, Rollback}
use Rattle.px_calls.specs.declared.reply.Reply.{Reply}
use Rattle.px_calls.specs.declared.reply.Reply.TheVariants.{NoTable, LimitKey, LimitBody, LimitWrites, Conflict}
use Rattle.px_calls.specs.Steps.{has_table, is_refusal, open_of, reply_of, unless_refused, write_refusal}
use Rattle.px_cells.specs.declared.slot.Slot.{Slot}
use Rattle.px_cells.specs.declared.slot.SlotState.{SlotState}
use Rattle.px_cells.specs.declared.slot.SlotState.TheVariants as state
use Rattle.px_chain_laws.specs.Writing.{write_of as write_by}
use Rattle.px_chain_laws.proofs.Moving.{answered, opened}
use Rattle.px_history.specs.Fitting.{IsTable}
use Rattle.px_model.specs.Machine.{Machine}
use Rattle.px_model.specs.Rows.{key_written}
use Rattle.px_model.specs.declared.write.Write.{Write}
use Rattle.px_model.specs.declared.write.Write.TheVariants.{Put, Delete}
use Rattle.px_shown.specs.Parts.{Parts}
use Rattle.px_shown.specs.Shown.{write_in, write_of}

abbrev TableOf : Machine → Write → Type 0
TableOf m w = IsTable m.tables (key_written w).0

is_there : (a b c d : Bool) (o : Option ℕ) (r : Reply)
    → is_refusal (unless_refused (cond a (Some NoTable) (cond b (Some LimitKey) (cond c (Some LimitBody) (cond d (Some LimitWrites) (option_map Conflict o))))) r) ≡ false
    → a ≡ false
is_there true b c d o r h = absurd (true≢false h)
is_there false b c d o r h = refl

its_table : (m : Machine) (table : ℕ) → not (has_table m table) ≡ false → IsTable m.tables table
unfolding has_table
its_table m table there =
    let parts = and_parts (nat_le 1 table) (nat_le table m.tables) (not-false (has_table m table) there) in
    (leb-true 1 table parts.0, leb-true table m.tables parts.1)

answered_table : (m : Machine) (s : ℕ) (call : Call) (w : Write) → write_by call ≡ Some w → is_refusal (reply_of m s call) ≡ false → TableOf m w
unfolding reply_of write_refusal
answered_table m s Begin w writes done = absurd (none-some w writes)
answered_table m s (Get table key) w writes done = absurd (none-some w writes)
answered_table m s (Hold table key) w writes done = absurd (none-some w writes)
answered_table m s (Fetch ticket) w writes done = absurd (none-some w writes)
answered_table m s (Find table tag) w writes done = absurd (none-some w writes)
answered_table m s (Scan table) w writes done = absurd (none-some w writes)
answered_table m s (Insert table key tag body) w writes done =
    let put : Write = Put (record { table = table; key = key; tag = tag; body = body }) in
    let p = opened (open_of m s) _ done in
    subst (TableOf m) (same_Some put w writes) (its_table m table (is_there _ _ _ _ _ _ (answered _ _ p.0 p.1 done)))
answered_table m s (Update table key tag body) w writes done =
    let put : Write = Put (record { table = table; key = key; tag = tag; body = body }) in
    let p = opened (open_of m s) _ done in
    subst (TableOf m) (same_Some put w writes) (its_table m table (is_there _ _ _ _ _ _ (answered _ _ p.0 p.1 done)))
answered_table m s (DeleteCall table key) w writes done =
    let p = opened (open_of m s) _ done in
    subst (TableOf m) (same_Some (Delete table key) w writes) (its_table m table (is_there _ _ false _ _ _ (answered _ _ p.0 p.1 done)))
answered_table m s Commit w writes done = absurd (none-some w writes)
answered_table m s Rollback w writes done = absurd (none-some w writes)

table_written : (parts : Parts) (t : ℕ) (slot : Slot) → (key_written (write_of parts t slot)).0 ≡ t
table_written parts t slot = by_state slot.state
  where
    by_state : (s : SlotState) → (key_written (write_in parts s t slot)).0 ≡ t
    by_state state.Row = refl
    by_state state.Deletion = refl
    by_state state.Free = refl

pub written_table : (parts : Parts) (m : Machine) (s : ℕ) (call : Call) (t : ℕ) (slot : Slot) → write_by call ≡ Some (write_of parts t slot)
    → is_refusal (reply_of m s call) ≡ false → IsTable m.tables t
written_table parts m s call t slot writes done = subst (IsTable m.tables) (table_written parts t slot) (answered_table m s call (write_of parts t slot) writes done)
