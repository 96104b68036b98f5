-- What holds of the transactions of a store at every time: their numbers are their own.
use Rattle.std.specs.Prelude.{◌≡◌, ◌<◌, ◌≤◌, ℕ, ◌+◌, List, All, length, count_by, sum_by, Option, Some, None, is_some, slice_get, slice_index_or}
use Rattle.px_model.specs.declared.limits.TheConstants.{MOST_BEGINS, MOST_WRITES, SESSIONS, STORED_NUMBERS_END}
use Rattle.px_model.specs.declared.standing.Standing.{Standing}
use Rattle.px_model.specs.declared.standing.Standing.TheVariants.{Open}
use Rattle.px_xacts.specs.declared.transaction.Transaction.{Transaction}
use Rattle.px_xacts.specs.declared.transaction.Outcome.{Outcome}
use Rattle.px_xacts.specs.declared.transaction.Unswept.{Unswept}
use Rattle.px_xacts.specs.Transactions.{standing_at, standing_from}

-- what is kept for each begin is what became of it
abbrev pub AreStandings : List Standing → List Outcome → Type 0
AreStandings standings outcomes =
    (k : ℕ) → slice_index_or standings k Open ≡ standing_from 0 outcomes (k + 1)

-- an open transaction was begun, and has no outcome
pub record IsOpen (begun : ℕ) (outcomes : List Outcome) (transaction : Transaction) : Type 0 where
  pub from_one : 1 ≤ transaction.number
  pub given : transaction.number ≤ begun
  pub snap : transaction.snap ≤ length outcomes
  pub open_yet : standing_from 0 outcomes transaction.number ≡ Open
  pub writes : length transaction.writes ≤ MOST_WRITES

-- each open transaction is one, and no two sessions have the same
pub record AreOpen (begun : ℕ) (outcomes : List Outcome) (active : List (Option Transaction)) : Type 0 where
  pub each : (session : ℕ) (transaction : Transaction) → slice_index_or active session None ≡ Some transaction
      → IsOpen begun outcomes transaction
  pub apart : (one other : ℕ) (x y : Transaction) → slice_index_or active one None ≡ Some x → slice_index_or active other None ≡ Some y
      → x.number ≡ y.number → one ≡ other

-- each outcome is the one of its number
pub record AreOutcomes (outcomes : List Outcome) : Type 0 where
  pub from_one : (place : ℕ) (outcome : Outcome) → slice_get outcomes place ≡ Some outcome → 1 ≤ outcome.number
  pub own : (place : ℕ) (outcome : Outcome) → slice_get outcomes place ≡ Some outcome
      → standing_from 0 outcomes outcome.number ≡ standing_at place outcome.committed

-- an unswept write is one of the outcome at its place
abbrev pub IsOf : List Outcome → Unswept → Type 0
IsOf outcomes entry =
    slice_get outcomes entry.place ≡ Some (record { number = entry.number; committed = entry.committed })

pub record IsSound (begun : ℕ) (outcomes : List Outcome) (standings : List Standing) (queue : List Unswept) (active : List (Option Transaction)) : Type 0 where
  pub standings_are : AreStandings standings outcomes
  pub as_many : length standings ≡ begun
  pub are_open : AreOpen begun outcomes active
  pub are_outcomes : AreOutcomes outcomes
  pub unswept_are : All (IsOf outcomes) queue

-- how many writes the session's open transaction has
abbrev pub writes_in : Option Transaction → ℕ
writes_in None = 0
writes_in (Some transaction) = length transaction.writes

-- the transactions are sound, their counts are in bounds, and there is room for the end of each open one
pub record IsKept (base begun : ℕ) (outcomes : List Outcome) (standings : List Standing) (queue : List Unswept) (active : List (Option Transaction)) (open_writes outcomes_capacity queue_capacity : ℕ) : Type 0 where
  pub sound : IsSound begun outcomes standings queue active
  pub sessions : length active ≡ SESSIONS
  pub begins : begun ≤ MOST_BEGINS
  pub stored : base + begun < STORED_NUMBERS_END
  pub outcome_room : length outcomes + count_by is_some active ≤ outcomes_capacity
  pub writes : open_writes ≡ sum_by writes_in active
  pub queue_room : length queue + open_writes ≤ queue_capacity
