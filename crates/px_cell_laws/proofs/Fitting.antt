-- A write that is answered fits a slot.
use Rattle.std.proofs.Common.{◌≡◌, ℕ, ◌≤◌, Bool, true, false, not, cond, List, length, Option, Some, option_map, refl, subst}
use Rattle.std.specs.Prelude.{nat_le}
use Rattle.std.proofs.lemmas.Bool.{and_parts, leb-true, not-false, true≢false}
use Rattle.std.proofs.lemmas.Option.{none-some, same_Some}
use Rattle.px_calls.specs.declared.call.Call.{Call}
use Rattle.px_calls.specs.declared.call.Call.TheVariants.{Begin, Get, Hold, Fetch, Find, Scan, Insert, Update, Delete as DeleteCall, Commit, Rollback}
use Rattle.px_calls.specs.declared.reply.Reply.{Reply}
use Rattle.px_calls.specs.declared.reply.Reply.TheVariants.{NoTable, LimitKey, LimitBody, LimitWrites, Conflict}
use Rattle.px_calls.specs.Steps.{fits_body, fits_key, is_refusal, longest_body, open_of, reply_of, unless_refused, write_refusal}
use Rattle.px_chain_laws.specs.Writing.{write_of}
use Rattle.px_chain_laws.proofs.Moving.{answered, opened}
use Rattle.px_model.specs.Machine.{Machine}
use Rattle.px_model.specs.declared.limits.TheConstants.{LONGEST_KEY}
use Rattle.px_model.specs.declared.write.Write.{Write}
use Rattle.px_model.specs.declared.write.Write.TheVariants.{Put, Delete}
use Rattle.px_tables.specs.Linking.{FitsSlot, IsKey}

within_limits : (a b c d : Bool) (o : Option ℕ) (r : Reply)
    → is_refusal (unless_refused (cond a (Some NoTable) (cond b (Some LimitKey) (cond c (Some LimitBody) (cond d (Some LimitWrites) (option_map Conflict o))))) r) ≡ false
    → (b ≡ false) × (c ≡ false)
within_limits true b c d o r h = absurd (true≢false h)
within_limits false true c d o r h = absurd (true≢false h)
within_limits false false true d o r h = absurd (true≢false h)
within_limits false false false d o r h = (refl, refl)

its_key : (key : List ℕ) → not (fits_key key) ≡ false → IsKey key
unfolding fits_key
its_key key fits =
    let parts = and_parts (nat_le 1 (length key)) (nat_le (length key) LONGEST_KEY) (not-false (fits_key key) fits) in
    (leb-true 1 (length key) parts.0, leb-true (length key) LONGEST_KEY parts.1)

its_body : (m : Machine) (body : List ℕ) → not (fits_body m body) ≡ false → length body ≤ m.short
unfolding fits_body longest_body
its_body m body fits = leb-true (length body) m.short (not-false (fits_body m body) fits)

pub answered_fits : (m : Machine) (s : ℕ) (call : Call) (w : Write) → write_of call ≡ Some w → is_refusal (reply_of m s call) ≡ false → FitsSlot m.short w
unfolding reply_of write_refusal
answered_fits m s Begin w writes done = absurd (none-some w writes)
answered_fits m s (Get table key) w writes done = absurd (none-some w writes)
answered_fits m s (Hold table key) w writes done = absurd (none-some w writes)
answered_fits m s (Fetch ticket) w writes done = absurd (none-some w writes)
answered_fits m s (Find table tag) w writes done = absurd (none-some w writes)
answered_fits m s (Scan table) w writes done = absurd (none-some w writes)
answered_fits m s (Insert table key tag body) w writes done =
    let put : Write = Put (record { table = table; key = key; tag = tag; body = body }) in
    let p = opened (open_of m s) _ done in
    let fits = within_limits _ _ _ _ _ _ (answered _ _ p.0 p.1 done) in
    subst (λ (u : Write). FitsSlot m.short u) (same_Some put w writes) (its_key key fits.0, its_body m body fits.1)
answered_fits m s (Update table key tag body) w writes done =
    let put : Write = Put (record { table = table; key = key; tag = tag; body = body }) in
    let p = opened (open_of m s) _ done in
    let fits = within_limits _ _ _ _ _ _ (answered _ _ p.0 p.1 done) in
    subst (λ (u : Write). FitsSlot m.short u) (same_Some put w writes) (its_key key fits.0, its_body m body fits.1)
answered_fits m s (DeleteCall table key) w writes done =
    let p = opened (open_of m s) _ done in
    let fits = within_limits _ _ false _ _ _ (answered _ _ p.0 p.1 done) in
    subst (λ (u : Write). FitsSlot m.short u) (same_Some (Delete table key) w writes) (its_key key fits.0)
answered_fits m s Commit w writes done = absurd (none-some w writes)
answered_fits m s Rollback w writes done = absurd (none-some w writes)
