-- The holders of keys over each call.
use Rattle.std.proofs.Common.{◌≡◌, ◌≢◌, ◌⊎◌, ℕ, ◌+◌, Bool, true, false, cond, eqb, inl, inr, List, get_or, set, Option, Some, None, is_some, option_map, refl, sym, ap, subst, ◌∙◌}
use Rattle.std.proofs.lemmas.Bool.{true≢false, false≢true, eqb-true, cases_eq}
use Rattle.std.proofs.lemmas.Option.{none-some, same_Some}
use Rattle.std.proofs.lemmas.List.{set-get_or}
use Rattle.px_calls.specs.declared.call.Call.{Call}
use Rattle.px_calls.specs.declared.call.Call.TheVariants.{Begin, Get, Hold, Fetch, Find, Scan, Insert, Update, Delete as DeleteCall, Commit, Rollback}
use Rattle.px_calls.specs.declared.reply.Reply.TheVariants.{Began, LimitBegins, OpenAlready}
use Rattle.px_calls.specs.Steps.{begins_spent, closed, conflict_of, is_refusal, new_transaction, open_of, plus_kept, plus_write, reply_of, state_after, state_when_done, with_slot, with_write, write_refusal}
use Rattle.px_chain_laws.specs.Kept.{IsKept}
use Rattle.px_chain_laws.specs.Writing.{write_of}
use Rattle.px_chain_laws.proofs.Moving.{answered, free, no_conflict}
use Rattle.px_locks.specs.Holders.{Holders, holder_of, unless_held_by}
use Rattle.px_model.specs.Machine.{Machine, fresh, view}
use Rattle.px_model.specs.Rows.{Key, has_write_of, key_written, row_at, same_key}
use Rattle.px_model.specs.declared.machine.Open.{Open}
use Rattle.px_model.specs.declared.row.Row.{Row}
use Rattle.px_model.specs.declared.write.Write.{Write}
use Rattle.px_model.specs.declared.write.Write.TheVariants.{Put, Delete}
use Rattle.px_locks_laws.specs.Keys.{HoldsKeys, Releases, Takes, WriteApart}
use Rattle.px_locks_laws.proofs.Writers.{apart-same, now_there, writer-begun, writer-is, writer-same, writer-without, writer-written}

pub apart_in : (m : Machine) → IsKept m → WriteApart m.active
apart_in m k = record {
  alone = λ one other x y key at bt h g. elim (cases_eq other one) [
    | inl same ↦ sym same
    | inr apart ↦ absurd (k.own_keys.apart one other x y key apart at bt h g)
  ];
}

-- ---- calls that take and release none

unless : (b : Bool) (m o : Machine) (h : Holders) → HoldsKeys m h → (b ≡ false → HoldsKeys o h) → HoldsKeys (cond b m o) h
unless true m o h is go = is
unless false m o h is go = go refl

pub refused : (m : Machine) (h : Holders) (session : ℕ) (call : Call) → HoldsKeys m h → is_refusal (reply_of m session call) ≡ true
    → HoldsKeys (state_after m session call) h
unfolding state_after
refused m h session call is refusal = subst (λ (b : Bool). HoldsKeys (cond b m (state_when_done m session call)) h) (sym refusal) is

-- the session's transaction becomes one of the same number with the same writes
same_writes : (m : Machine) (h : Holders) (session : ℕ) (x y : Open) → IsKept m → HoldsKeys m h → open_of m session ≡ Some x → y.number ≡ x.number
    → y.writes ≡ x.writes → HoldsKeys (with_slot m session (Some y)) h
same_writes m h session x y k is at number writes key =
    let apart : WriteApart (set m.active session (Some y)) =
    apart-same m.active session x y (apart_in m k) at (λ q has. ap (has_write_of q) (sym writes) ∙ has) in
    is key ∙ sym (writer-same m.active session x y key apart at (now_there m.active session x y at) number (ap (has_write_of key) writes))

held_in : (m : Machine) (h : Holders) (session : ℕ) (f : Open → Option Row) (slot : Option Open) → open_of m session ≡ slot → IsKept m → HoldsKeys m h
    → HoldsKeys (with_slot m session (option_map (λ x. plus_kept (f x) x) slot)) h
held_in m h session f None at k is =
    subst (λ (active : List (Option Open)). HoldsKeys (record m { active = active }) h)
    (sym (ap (set m.active session) (sym at) ∙ set-get_or m.active session None)) is
held_in m h session f (Some x) at k is = same_writes m h session x (plus_kept (f x) x) k is at refl refl

not_open : (o : Option Open) (b : Bool) (number : ℕ) → is_refusal (cond (is_some o) OpenAlready (cond b LimitBegins (Began number))) ≡ false → o ≡ None
not_open None b number h = refl
not_open (Some x) b number h = absurd (true≢false h)

begun_in : (m : Machine) (h : Holders) (session : ℕ) → open_of m session ≡ None → IsKept m → HoldsKeys m h
    → HoldsKeys (record m { begun = m.begun + 1; active = set m.active session (Some (new_transaction m)) }) h
begun_in m h session none k is key = is key ∙ sym (writer-begun m.active session (new_transaction m) key (apart_in m k) none refl)

pub others : (m : Machine) (h : Holders) (session : ℕ) (call : Call) → IsKept m → HoldsKeys m h → write_of call ≡ None → call ≢ Commit → call ≢ Rollback
    → HoldsKeys (state_after m session call) h
unfolding state_after state_when_done reply_of
others m h session Begin k is none c r = unless (is_refusal (reply_of m session Begin)) m (state_when_done m session Begin) h is (λ done. begun_in m h session (not_open (open_of m session) (begins_spent m) (m.begun + 1) done) k is)
others m h session (Get table key) k is none c r = unless (is_refusal (reply_of m session (Get table key))) m m h is (λ _. is)
others m h session (Hold table key) k is none c r = unless (is_refusal (reply_of m session (Hold table key))) m (state_when_done m session (Hold table key)) h is (λ _. held_in m h session (λ x. row_at (table, key) (view m x)) (open_of m session) refl k is)
others m h session (Fetch ticket) k is none c r = unless (is_refusal (reply_of m session (Fetch ticket))) m m h is (λ _. is)
others m h session (Find table tag) k is none c r = unless (is_refusal (reply_of m session (Find table tag))) m m h is (λ _. is)
others m h session (Scan table) k is none c r = unless (is_refusal (reply_of m session (Scan table))) m m h is (λ _. is)
others m h session (Insert table key tag body) k is none c r = absurd (none-some (Put (record { table = table; key = key; tag = tag; body = body })) (sym none))
others m h session (Update table key tag body) k is none c r = absurd (none-some (Put (record { table = table; key = key; tag = tag; body = body })) (sym none))
others m h session (DeleteCall table key) k is none c r = absurd (none-some (Delete table key) (sym none))
others m h session Commit k is none c r = absurd (c refl)
others m h session Rollback k is none c r = absurd (r refl)

-- ---- a write

-- what an answered write brings: nobody keeps its transaction from the key, and that is added to its writes
pub record Written (m : Machine) (session : ℕ) (call : Call) (x : Open) (w : Write) : Type 0 where
  pub alone : conflict_of m session x (key_written w) ≡ None
  pub leaves : state_after m session call ≡ with_write m session w

leaves_done : (m : Machine) (session : ℕ) (call : Call) (w : Write) → is_refusal (reply_of m session call) ≡ false → state_when_done m session call ≡ with_write m session w
    → state_after m session call ≡ with_write m session w
unfolding state_after
leaves_done m session call w done is = ap (λ (b : Bool). cond b m (state_when_done m session call)) done ∙ is

pub written : (m : Machine) (session : ℕ) (call : Call) (x : Open) (w : Write) → open_of m session ≡ Some x → write_of call ≡ Some w
    → is_refusal (reply_of m session call) ≡ false → Written m session call x w
unfolding state_when_done reply_of write_refusal
written m session Begin x w at writes done = absurd (none-some w writes)
written m session (Get table key) x w at writes done = absurd (none-some w writes)
written m session (Hold table key) x w at writes done = absurd (none-some w writes)
written m session (Fetch ticket) x w at writes done = absurd (none-some w writes)
written m session (Find table tag) x w at writes done = absurd (none-some w writes)
written m session (Scan table) x w at writes done = absurd (none-some w writes)
written m session (Insert table key tag body) x w at writes done =
    let put : Write = Put (record { table = table; key = key; tag = tag; body = body }) in
    subst (Written m session (Insert table key tag body) x) (same_Some put w writes) (record {
      alone = no_conflict _ _ _ _ _ _ (answered _ _ x at done);
      leaves = leaves_done m session (Insert table key tag body) put done refl;
    })
written m session (Update table key tag body) x w at writes done =
    let put : Write = Put (record { table = table; key = key; tag = tag; body = body }) in
    subst (Written m session (Update table key tag body) x) (same_Some put w writes) (record {
      alone = no_conflict _ _ _ _ _ _ (answered _ _ x at done);
      leaves = leaves_done m session (Update table key tag body) put done refl;
    })
written m session (DeleteCall table key) x w at writes done =
    subst (Written m session (DeleteCall table key) x) (same_Some (Delete table key) w writes) (record {
      alone = no_conflict _ _ false _ _ _ (answered _ _ x at done);
      leaves = leaves_done m session (DeleteCall table key) (Delete table key) done refl;
    })
written m session Commit x w at writes done = absurd (none-some w writes)
written m session Rollback x w at writes done = absurd (none-some w writes)

pub taken : (m : Machine) (old new : Holders) (session : ℕ) (call : Call) (x : Open) (w : Write) → IsKept m → HoldsKeys m old
    → open_of m session ≡ Some x → write_of call ≡ Some w → is_refusal (reply_of m session call) ≡ false
    → Takes w x.number old new → HoldsKeys (state_after m session call) new
taken m old new session call x w k is at writes done takes =
    let by : Written m session call x w = written m session call x w at writes done in
    subst (λ (n : Machine). HoldsKeys n new) (sym by.leaves)
    (subst (λ slot. HoldsKeys (with_slot m session (option_map (plus_write w) slot)) new) (sym at)
    (λ key. takes key ∙ ap (λ o. cond (same_key key (key_written w)) (Some x.number) o) (is key)
    ∙ sym (writer-written m.active session x w key (apart_in m k) at (free m session x (key_written w) by.alone))))

none_or_own : (n : ℕ) (o : Option ℕ) → unless_held_by n o ≡ None → (o ≡ None) ⊎ (o ≡ Some n)
none_or_own n None h = inl refl
none_or_own n (Some k) h =
    (elim (eqb k n) as (λ b. eqb k n ≡ b → cond b None (Some k) ≡ None → (Some k ≡ None) ⊎ (Some k ≡ Some n)) [
      | true ↦ λ e _. inr (ap (λ (i : ℕ). Some i) (eqb-true k n e))
      | false ↦ λ _ g. inl g
    ]) refl h

pub may_take : (m : Machine) (h : Holders) (session : ℕ) (call : Call) (x : Open) (w : Write) → IsKept m → HoldsKeys m h
    → open_of m session ≡ Some x → write_of call ≡ Some w → is_refusal (reply_of m session call) ≡ false
    → (holder_of (key_written w) h ≡ None) ⊎ (holder_of (key_written w) h ≡ Some x.number)
may_take m h session call x w k is at writes done =
    let by : Written m session call x w = written m session call x w at writes done in
    none_or_own x.number (holder_of (key_written w) h)
    (ap (unless_held_by x.number) (is (key_written w))
    ∙ sym (writer-without m.begun m.active session x (key_written w) k.numbered.open_ones (apart_in m k) at)
    ∙ free m session x (key_written w) by.alone)

-- ---- an end

unless_other : (n : ℕ) (o : Option ℕ) → (o ≡ Some n → ⊥) → o ≡ unless_held_by n o
unless_other n None other = refl
unless_other n (Some k) other =
    (elim (eqb k n) as (λ b. eqb k n ≡ b → Some k ≡ cond b None (Some k)) [
      | true ↦ λ e. absurd (other (ap (λ (i : ℕ). Some i) (eqb-true k n e)))
      | false ↦ λ _. refl
    ]) refl

-- a transaction holds only keys that it wrote
not_holder : (m : Machine) (h : Holders) (session : ℕ) (x : Open) (key : Key) → IsKept m → HoldsKeys m h → open_of m session ≡ Some x
    → has_write_of key x.writes ≡ false → holder_of key h ≡ Some x.number → ⊥
not_holder m h session x key k is at none own =
    let w = writer-is key m.active x.number (sym (is key) ∙ own) in
    let here : w.place ≡ session = k.numbered.open_ones.apart w.place session w.xact x w.at at w.is in
    let same : w.xact ≡ x = same_Some w.xact x (sym w.at ∙ ap (λ p. get_or m.active p None) here ∙ at) in
    false≢true (sym none ∙ ap (λ (o : Open). has_write_of key o.writes) (sym same) ∙ w.has)

pub ended : (m : Machine) (old new : Holders) (session : ℕ) (x : Open) (committed : Bool) → IsKept m → HoldsKeys m old → open_of m session ≡ Some x
    → Releases x.writes x.number old new → HoldsKeys (closed m session committed) new
ended m old new session x committed k is at released key =
    released key
    ∙ (elim (has_write_of key x.writes) as (λ b. has_write_of key x.writes ≡ b
    → cond b (unless_held_by x.number (holder_of key old)) (holder_of key old) ≡ unless_held_by x.number (holder_of key old)) [
      | true ↦ λ _. refl
      | false ↦ λ none. unless_other x.number (holder_of key old) (not_holder m old session x key k is at none)
    ]) refl
    ∙ ap (unless_held_by x.number) (is key)
    ∙ sym (writer-without m.begun m.active session x key k.numbered.open_ones (apart_in m k) at)

-- ---- at an opening

pub at_first : (tables short : ℕ) (opening : List Row) (before base : ℕ) (h : Holders) → ((key : Key) → holder_of key h ≡ None) → HoldsKeys (fresh tables short opening before base) h
unfolding fresh
at_first tables short opening before base h none key = none key
