-- What is swept next, and the stored numbers of unswept writes.
use Rattle.std.proofs.Common.{◌≡◌, ℕ, ◌+◌, Bool, cond, true, false, All, List, [], ◌∷◌, length, map, Some, None, sym, subst}
use Rattle.std.specs.Prelude.{IfSome, is_some, nat_lt}
use Rattle.std.proofs.lemmas.List.Elements.{All-append, All-cons, All-drop, All-head, All-nil}
use Rattle.px_active.specs.Active.{AreStored, IsActiveOf}
use Rattle.px_active.specs.declared.active.Active.{Active}
use Rattle.px_calls.specs.Sweeps.{swept_state}
use Rattle.px_cell_laws.specs.Locating.{without_first}
use Rattle.px_history.specs.Fitting.{IsStoredNumber}
use Rattle.px_model.specs.Machine.{Machine, commits}
use Rattle.px_xacts.specs.Transactions as transactions
use Rattle.px_xacts.specs.Transactions.{Transactions}
use Rattle.px_xacts.specs.declared.answers.Begun.{Begun}
use Rattle.px_xacts.specs.declared.answers.Begun.TheVariants as begun
use Rattle.px_xacts.specs.declared.answers.Due.{Due}
use Rattle.px_xacts.specs.declared.transaction.Transaction.{Transaction}
use Rattle.px_xacts.specs.declared.transaction.Unswept.{Unswept}
use Rattle.px_xacts.specs.declared.write.WriteAt.{WriteAt}
use Rattle.px_xacts_laws.proofs.Marking.{swept_mirrors}

pub sweep_leaves : (m : Machine) (active : Active) → IsActiveOf m active → is_some (transactions.due active.xacts) ≡ true
    → IsActiveOf (swept_state m) (record active { xacts = without_first active.xacts })
unfolding swept_state commits
sweep_leaves m active is due = record {
  mirrors = swept_mirrors m active.xacts is.mirrors due;
  holders = is.holders;
  kept = is.kept;
  commits = is.commits;
}

-- ---- stored numbers

abbrev Stored : ℕ → Unswept → Type 0
Stored base entry = IsStoredNumber (base + entry.number)

stored_below : (base end : ℕ) (queue : List Unswept) → All (Stored base) queue
    → IfSome (transactions.due_below end queue) (λ (due : Due). IsStoredNumber (base + due.number))
stored_below base end [] all = tt
stored_below base end (entry ∷ queue) all =
    elim (nat_lt entry.place end) as (λ b. IfSome (cond b (Some (transactions.due_from entry)) None) (λ (due : Due). IsStoredNumber (base + due.number))) [
      | true ↦ All-head (Stored base) entry queue all
      | false ↦ tt
    ]

pub due_stored : (all : Transactions) → AreStored all → IfSome (transactions.due all) (λ (due : Due). IsStoredNumber (all.base + due.number))
unfolding transactions.due
due_stored all stored = stored_below all.base (transactions.horizon all) all.queue stored

pub sweep_stored : (all : Transactions) → AreStored all → AreStored (without_first all)
sweep_stored all stored = All-drop (Stored all.base) 1 all.queue stored

by_answer : (answer : Begun) (all next : Transactions) → AreStored all → AreStored next → AreStored (transactions.when_answered answer all next)
by_answer (begun.Number number) all next was is = is
by_answer begun.OpenAlready all next was is = was
by_answer begun.LimitBegins all next was is = was

pub begin_stored : (all : Transactions) (session frames : ℕ) → AreStored all → AreStored (transactions.after_begin all session frames)
begin_stored all session frames stored = by_answer (transactions.begin_answer all session) all (transactions.opened all session frames) stored stored

of_writes : (base place : ℕ) (committed : Bool) (t : Transaction) (writes : List WriteAt) → IsStoredNumber (base + t.number)
    → All (Stored base) (map (transactions.unswept place committed t) writes)
of_writes base place committed t [] stored = All-nil (Stored base)
of_writes base place committed t (write ∷ writes) stored =
    All-cons (Stored base) (transactions.unswept place committed t write) (map (transactions.unswept place committed t) writes) stored
    (of_writes base place committed t writes stored)

pub end_stored : (all : Transactions) (session : ℕ) (committed : Bool) (t : Transaction) → transactions.open_of all session ≡ Some t
    → IsStoredNumber (all.base + t.number) → AreStored all → AreStored (transactions.ended all session committed)
end_stored all session committed t at number stored =
    let place = length all.outcomes in
    All-append (Stored all.base) all.queue (transactions.unswept_of place committed (transactions.open_of all session)) stored
    (subst (λ slot. All (Stored all.base) (transactions.unswept_of place committed slot)) (sym at) (of_writes all.base place committed t t.writes number))
