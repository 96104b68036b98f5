-- A write that is noted, and one that is taken back.
use Rattle.std.proofs.Common.{◌≡◌, ℕ, ◌-◌, ◌<◌, ◌⊎◌, ◌&&◌, inl, inr, Bool, true, false, cond, [], ◌∷◌, ◌++◌, length, Option, Some, None, is_none, option_map, refl, sym, ap, subst, ◌∙◌, arith, length-append}
use Rattle.std.specs.Prelude.{IsSomeAnd, slice_get}
use Rattle.std.proofs.lemmas.Bool.{cases_lt}
use Rattle.std.proofs.lemmas.List.{get_or-set_same, get_or_past, length-set}
use Rattle.std.proofs.lemmas.Option.{none-some}
use Rattle.px_active.specs.declared.active.Active.{Active}
use Rattle.px_active.specs.Active.{IsActiveOf, IsGivenBack, IsTaken, MayTake, Noted, last_of}
use Rattle.px_active.proofs.Calls.{commits_none}
use Rattle.px_answers.specs.Keeping.{Kept, KeepsTickets, is_hold}
use Rattle.px_answers.proofs.KeptByTickets.{call_keeps}
use Rattle.px_calls.specs.declared.call.Call.{Call}
use Rattle.px_calls.specs.declared.call.Call.TheVariants.{Begin, Commit, Delete as DeleteCall, Fetch, Find, Get, Hold, Insert, Rollback, Scan, Update}
use Rattle.px_calls.specs.Steps.{is_refusal, open_of, reply_of, state_after, with_write as with_write_in}
use Rattle.px_cell_laws.specs.Writing.{is_end}
use Rattle.px_chain_laws.specs.Kept.{IsKept}
use Rattle.px_chain_laws.specs.Writing.{write_of}
use Rattle.px_locks.specs.Holders.{Holders, holder_of}
use Rattle.px_locks.proofs.Holders.{holders_are}
use Rattle.px_locks_laws.proofs.Calls.{taken, written}
use Rattle.px_machine_laws.proofs.Overlap.{same_key-is}
use Rattle.px_model.specs.declared.machine.Open.{Open}
use Rattle.px_model.specs.declared.write.Write.{Write}
use Rattle.px_model.specs.Machine.{Machine}
use Rattle.px_model.specs.Rows.{Key, key_written, same_key}
use Rattle.px_xacts.specs.declared.transaction.Transaction.{Transaction}
use Rattle.px_xacts.specs.declared.write.WriteAt.{WriteAt}
use Rattle.px_xacts.specs.Transactions as transactions
use Rattle.px_xacts.specs.Transactions.{Transactions, plus_write, with_write}
use Rattle.px_xacts.proofs.Lists.{slice_get-push}
use Rattle.px_xacts_laws.specs.Mirrors.{Mirrors, key_at}
use Rattle.px_xacts_laws.proofs.Mirroring.{write_mirrors}

-- ---- the transaction that writes

open_after : (all : Transactions) (session : ℕ) (at : WriteAt) (x : Transaction) → transactions.open_of all session ≡ Some x
    → transactions.open_of (with_write all session at) session ≡ Some (plus_write at x)
open_after all session at x is = elim (cases_lt session (length all.active)) [
  | inl lt ↦ get_or-set_same all.active session (option_map (plus_write at) (transactions.open_of all session)) None lt ∙ ap (option_map (plus_write at)) is
  | inr le ↦ absurd (none-some x (sym (get_or_past all.active session None le) ∙ is))
]

some_of : (slot : Option Transaction) (P : Transaction → Type 0) → IsSomeAnd slot P → (x : Transaction) × (slot ≡ Some x)
some_of None P h = absurd h
some_of (Some x) P h = (x, refl)

last_of_more : (x : Transaction) (at : WriteAt) → last_of (Some (plus_write at x)) ≡ Some at
last_of_more x at =
    let place : length (x.writes ++ at ∷ []) - 1 ≡ length x.writes = omega (arith, length-append x.writes (at ∷ [])) in
    ap (slice_get (x.writes ++ at ∷ [])) place ∙ slice_get-push x.writes at

longer : (x : Transaction) (at : WriteAt) → 0 < length (plus_write at x).writes
longer x at = omega (arith, length-append x.writes (at ∷ []))

-- the transaction has a write then
pub one_written : (all new : Transactions) (session : ℕ) (at : WriteAt) (P : Transaction → Type 0) → IsSomeAnd (transactions.open_of all session) P
    → new ≡ with_write all session at → IsSomeAnd (transactions.open_of new session) (λ t. 0 < length t.writes)
one_written all new session at P room is =
    let x = some_of (transactions.open_of all session) P room in
    subst (λ (slot : Option Transaction). IsSomeAnd slot (λ t. 0 < length t.writes))
    (sym (ap (λ (z : Transactions). transactions.open_of z session) is ∙ open_after all session at x.0 x.1)) (longer x.0 at)

-- a transaction whose last write was just added was open before
was_open : (all : Transactions) (session : ℕ) (at : WriteAt) (P : Transaction → Type 0) → IsSomeAnd (transactions.open_of (with_write all session at) session) P
    → (x : Transaction) × (transactions.open_of all session ≡ Some x)
was_open all session at P now = by_slot (transactions.open_of all session) refl
  where
    by_slot : (slot : Option Transaction) → transactions.open_of all session ≡ slot → (x : Transaction) × (transactions.open_of all session ≡ Some x)
    by_slot (Some x) is = (x, is)
    by_slot None is = absurd (elim (cases_lt session (length all.active)) [
      | inl lt ↦ subst (λ (o : Option Transaction). IsSomeAnd o P)
          (get_or-set_same all.active session (option_map (plus_write at) (transactions.open_of all session)) None lt ∙ ap (option_map (plus_write at)) is) now
      | inr le ↦ subst (λ (o : Option Transaction). IsSomeAnd o P)
          (get_or_past (with_write all session at).active session None (omega (arith, le, length-set all.active session (option_map (plus_write at) (transactions.open_of all session))))) now
    ])

-- ---- what a write leaves

takes_nothing_else : (call : Call) (write : Write) → write_of call ≡ Some write → (is_hold call ≡ false) × (is_end call ≡ false)
takes_nothing_else (Insert table key tag body) write is = (refl, refl)
takes_nothing_else (Update table key tag body) write is = (refl, refl)
takes_nothing_else (DeleteCall table key) write is = (refl, refl)
takes_nothing_else Begin write is = (refl, refl)
takes_nothing_else (Get table key) write is = (refl, refl)
takes_nothing_else (Hold table key) write is = absurd (none-some write is)
takes_nothing_else (Fetch ticket) write is = (refl, refl)
takes_nothing_else (Find table tag) write is = (refl, refl)
takes_nothing_else (Scan table) write is = (refl, refl)
takes_nothing_else Commit write is = absurd (none-some write is)
takes_nothing_else Rollback write is = absurd (none-some write is)

pub write_leaves : (m : Machine) (old new : Active) (session number : ℕ) (call : Call) (xact : Open) (write : Write) (at : WriteAt) → IsKept m → IsActiveOf m old
    → open_of m session ≡ Some xact → number ≡ xact.number → write_of call ≡ Some write → key_at at ≡ key_written write
    → is_refusal (reply_of m session call) ≡ false → Noted session number at (is_none (holder_of (key_at at) old.locks)) old new
    → IsActiveOf (state_after m session call) new
write_leaves m old new session number call xact write at kept is is_open own writes same answered noted =
    let by = written m session call xact write is_open writes answered in
    let other = takes_nothing_else call write writes in
    record {
      mirrors =
          subst (λ (o : Machine). Mirrors o new.xacts) (sym by.leaves)
          (subst (λ (all : Transactions). Mirrors (with_write_in m session write) all) (sym noted.xacts) (write_mirrors m old.xacts session write at is.mirrors same));
      holders = taken m old.locks new.locks session call xact write kept is.holders is_open writes answered
          (λ key. noted.holders key
          ∙ ap (λ k. cond (same_key key k) (Some number) (holder_of key old.locks)) same
          ∙ ap (λ n. cond (same_key key (key_written write)) (Some n) (holder_of key old.locks)) own);
      kept = subst (λ (t : Kept). KeepsTickets t (state_after m session call)) (sym noted.tickets) (call_keeps old.tickets m session call other.0 other.1 is.kept);
      commits = noted.commits ∙ is.commits ∙ sym (commits_none m session call other.1);
    }

-- ---- a write that is taken back

pub same_active : (one other : Active) → one.xacts ≡ other.xacts → one.locks ≡ other.locks → one.tickets ≡ other.tickets → one.commits ≡ other.commits → one ≡ other
same_active one other xacts locks tickets commits =
    ap (λ (x : Transactions). record { xacts = x; locks = one.locks; tickets = one.tickets; commits = one.commits }) xacts
    ∙ ap (λ (l : Holders). record { xacts = other.xacts; locks = l; tickets = one.tickets; commits = one.commits }) locks
    ∙ ap (λ (t : Kept). record { xacts = other.xacts; locks = other.locks; tickets = t; commits = one.commits }) tickets
    ∙ ap (λ (n : ℕ). record { xacts = other.xacts; locks = other.locks; tickets = other.tickets; commits = n }) commits

-- who held a key before, by whether nobody did
held_before : (o : Option ℕ) (number : ℕ) → (o ≡ None) ⊎ (o ≡ Some number) → o ≡ cond (is_none o) None (Some number)
held_before o number (inl none) = ap (λ (z : Option ℕ). z) none ∙ ap (λ (z : Option ℕ). cond (is_none z) None (Some number)) (sym none)
held_before o number (inr own) = own ∙ ap (λ (z : Option ℕ). cond (is_none z) None (Some number)) (sym own)

one_key : (free same : Bool) (number : ℕ) (was : Option ℕ) → (same ≡ true → was ≡ cond free None (Some number))
    → cond (free && same) None (cond same (Some number) was) ≡ was
one_key true true number was before = sym (before refl)
one_key true false number was before = refl
one_key false true number was before = sym (before refl)
one_key false false number was before = refl

-- a key that was taken and is given back is held as before
pub given_back : (taken : Key) (number : ℕ) (free : Bool) (before held new : Holders) → MayTake taken number before → free ≡ is_none (holder_of taken before)
    → IsTaken taken number before held → IsGivenBack taken free held new → new ≡ before
given_back taken number free before held new may free_is is given =
    holders_are new before (λ key.
    given key
    ∙ ap (λ o. cond (free && same_key key taken) None o) (is key)
    ∙ one_key free (same_key key taken) number (holder_of key before) (λ same.
    ap (λ k. holder_of k before) (same_key-is key taken same)
    ∙ held_before (holder_of taken before) number may
    ∙ ap (λ b. cond b None (Some number)) (sym free_is)))

-- the key of the last write
pub last_noted : (before old : Active) (session number : ℕ) (at : WriteAt) (free : Bool) (P : Transaction → Type 0) → Noted session number at free before old
    → IsSomeAnd (transactions.open_of old.xacts session) P → last_of (transactions.open_of old.xacts session) ≡ Some at
last_noted before old session number at free P noted now =
    let x = was_open before.xacts session at P (subst (λ (all : Transactions). IsSomeAnd (transactions.open_of all session) P) noted.xacts now) in
    ap (λ (z : Transactions). last_of (transactions.open_of z session)) noted.xacts
    ∙ ap last_of (open_after before.xacts session at x.0 x.1)
    ∙ last_of_more x.0 at

pub taken_back : (before old new : Active) (session number : ℕ) (at : WriteAt) (free : Bool) → Noted session number at free before old
    → new.xacts ≡ before.xacts → IsGivenBack (key_at at) free old.locks new.locks → new.tickets ≡ old.tickets → new.commits ≡ old.commits
    → new ≡ before
taken_back before old new session number at free noted xacts given tickets commits =
    same_active new before xacts (given_back (key_at at) number free before.locks old.locks new.locks noted.may_take noted.free_is noted.holders given)
    (tickets ∙ noted.tickets) (commits ∙ noted.commits)
