-- The numbers of the transactions that may still write, after each call.
use Rattle.std.proofs.Common.{◌≡◌, ◌≢◌, ◌⊎◌, ℕ, ◌+◌, ◌<◌, ◌≤◌, ◌==◌, Bool, true, false, cond, List, Option, Some, None, set, option_map, is_some, refl, sym, ap, ◌∙◌, inl, inr, arith}
use Rattle.std.proofs.lemmas.Bool.{eqb-false, or_parts, true≢false}
use Rattle.std.proofs.lemmas.Option.{same_Some}
use Rattle.px_calls.specs.declared.call.Call.{Call}
use Rattle.px_calls.specs.declared.call.Call.TheVariants.{Begin, Hold, Insert, Update, Delete, Commit, Rollback}
use Rattle.px_calls.specs.declared.reply.Reply.TheVariants.{Began, LimitBegins, OpenAlready}
use Rattle.px_calls.specs.Steps.{begins_spent, is_refusal, new_transaction, open_of, plus_kept, plus_write, reply_of, state_after, state_when_done}
use Rattle.px_logged.proofs.Slots.{IsNow, IsStill, slot_is}
use Rattle.px_model.specs.Machine.{Machine, view}
use Rattle.px_model.specs.Rows.{row_at}
use Rattle.px_model.specs.declared.limits.TheConstants.{MOST_BEGINS, STORED_NUMBERS_END}
use Rattle.px_model.specs.declared.machine.Ended.{Ended}
use Rattle.px_model.specs.declared.machine.Open.{Open}
use Rattle.px_model.specs.declared.write.Write.TheVariants.{Put as PutRow, Delete as DeleteRow}

-- the next number is a stored one, and it and those of the open transactions are no lower than this
pub record HasNumbers (low : ℕ) (m : Machine) : Type 0 where
  pub stored : m.base + m.begun < STORED_NUMBERS_END
  pub next : low ≤ m.base + m.begun + 1
  pub open_ones : (session : ℕ) (xact : Open) → open_of m session ≡ Some xact → low ≤ m.base + xact.number

moved : (low : ℕ) (m : Machine) (ended : List Ended) (session : ℕ) (slot : Option Open) (begun : ℕ) → HasNumbers low m → m.begun ≤ begun → m.base + begun < STORED_NUMBERS_END
    → ((x : Open) → slot ≡ Some x → low ≤ m.base + x.number) → HasNumbers low (record m { ended = ended; active = set m.active session slot; begun = begun })
moved low m ended session slot begun old rose stored new = record {
  stored = stored;
  next = omega (arith, old.next, rose);
  open_ones = λ s x is. by_slot s x (slot_is m.active session s slot x is);
}
  where
    by_slot : (s : ℕ) (x : Open) → IsNow session s slot x ⊎ IsStill m.active session s x → low ≤ m.base + x.number
    by_slot s x (inl now) = new x now.is
    by_slot s x (inr still) = old.open_ones s x still.is

-- the session's transaction stays, with its number
same_number : (low : ℕ) (m : Machine) (session : ℕ) (change : Open → Open) → ((x : Open) → (change x).number ≡ x.number) → HasNumbers low m
    → HasNumbers low (record m { active = set m.active session (option_map change (open_of m session)) })
same_number low m session change same old =
    moved low m m.ended session (option_map change (open_of m session)) m.begun old (omega arith) old.stored (numbered (open_of m session) refl)
  where
    numbered : (slot : Option Open) → open_of m session ≡ slot → (x : Open) → option_map change slot ≡ Some x → low ≤ m.base + x.number
    numbered None is x new = absurd cc
    numbered (Some y) is x new =
        let number : x.number ≡ y.number = ap (λ (o : Open). o.number) (sym (same_Some (change y) x new)) ∙ same y in
        omega (arith, old.open_ones session y is, number)

begins : (low : ℕ) (m : Machine) (session : ℕ) → is_refusal (reply_of m session Begin) ≡ false → HasNumbers low m → HasNumbers low (state_when_done m session Begin)
unfolding reply_of state_when_done begins_spent
begins low m session done old =
    moved low m m.ended session (Some (new_transaction m)) (m.begun + 1) old (omega arith) (omega (arith, old.stored, unspent))
    (λ x is. let number : m.begun + 1 ≡ x.number = ap (λ (o : Open). o.number) (same_Some (new_transaction m) x is) in omega (arith, number, old.next))
  where
    not_spent : (some spent : Bool) → is_refusal (cond some OpenAlready (cond spent LimitBegins (Began (m.begun + 1)))) ≡ false → spent ≡ false
    not_spent true spent h = absurd (true≢false h)
    not_spent false true h = absurd (true≢false h)
    not_spent false false h = refl

    unspent : m.base + m.begun + 1 ≢ STORED_NUMBERS_END
    unspent = eqb-false (m.base + m.begun + 1) STORED_NUMBERS_END (or_parts (m.begun == MOST_BEGINS) (m.base + m.begun + 1 == STORED_NUMBERS_END) (not_spent (is_some (open_of m session)) _ done)).1

when_done : (low : ℕ) (m : Machine) (session : ℕ) (call : Call) → is_refusal (reply_of m session call) ≡ false → HasNumbers low m → HasNumbers low (state_when_done m session call)
unfolding state_when_done
when_done low m session Begin done old = begins low m session done old
when_done low m session (Hold table key) done old = same_number low m session (λ x. plus_kept (row_at (table, key) (view m x)) x) (λ x. refl) old
when_done low m session (Insert table key tag body) done old = same_number low m session (plus_write (PutRow (record { table = table; key = key; tag = tag; body = body }))) (λ x. refl) old
when_done low m session (Update table key tag body) done old = same_number low m session (plus_write (PutRow (record { table = table; key = key; tag = tag; body = body }))) (λ x. refl) old
when_done low m session (Delete table key) done old = same_number low m session (plus_write (DeleteRow table key)) (λ x. refl) old
when_done low m session Commit done old = moved low m _ session None m.begun old (omega arith) old.stored (λ x is. absurd cc)
when_done low m session Rollback done old = moved low m _ session None m.begun old (omega arith) old.stored (λ x is. absurd cc)
when_done low m session _ done old = old

unless_refused : (low : ℕ) (m done : Machine) (refused : Bool) → HasNumbers low m → (refused ≡ false → HasNumbers low done) → HasNumbers low (cond refused m done)
unless_refused low m done true old new = old
unless_refused low m done false old new = new refl

pub numbers_go_on : (low : ℕ) (m : Machine) (session : ℕ) (call : Call) → HasNumbers low m → HasNumbers low (state_after m session call)
unfolding state_after
numbers_go_on low m session call old =
    unless_refused low m (state_when_done m session call) (is_refusal (reply_of m session call)) old (λ done. when_done low m session call done old)
