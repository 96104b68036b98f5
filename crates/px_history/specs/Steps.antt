-- The changes of a log as steps of a store: which may follow, and what they leave.
use Rattle.std.specs.Prelude.{◌≡◌, ◌≢◌, ◌⊎◌, ℕ, ◌+◌, ◌≤◌, ◌==◌, Bool, not, false, ◌&&◌, ◌||◌, List, [], ◌∷◌, length, fold, if◌then◌else◌}
use Rattle.std.specs.List.{list_any}
use Rattle.px_cells.specs.declared.header.Header.{Header}
use Rattle.px_cells.specs.declared.slot.Slot.{Slot}
use Rattle.px_chain.specs.Links.{BeginsRow, VariesRow, IsStored, linked, row_taken, slot_taken}
use Rattle.px_chain.specs.Sound.{IsUsedRow, Layout}
use Rattle.px_chain.specs.Table.{Table}
use Rattle.px_shown.specs.Changes.{layouts_unlinked, left_of, taken_slot, with_link, with_unlink}
use Rattle.px_shown.specs.Moves.{MayMove, moved_slot, with_move}
use Rattle.px_shown.specs.Parts.{AgreeAt, Parts}
use Rattle.px_shown.specs.Shown.{done_with, slot_shown}
use Rattle.px_shown.specs.Tables.{with_layout}
use Rattle.px_shown.specs.Writes.{AreInFront, HasNoneOf}
use Rattle.px_history.specs.Store.{Store, IsOpen, versions_of, versions_from}

pub data Step : Type 0 where
  -- a version is linked in this table, whose header is then this one
  put : (t : ℕ) → Header → Slot → Step
  commit : (xn number : ℕ) → Step
  rollback : (xn : ℕ) → Step
  -- of a row's chain so many versions go, from a place on
  unlink : (t row from count : ℕ) → Step
  -- the part of this slot's body lies at another place, in this log
  move : (t number log place : ℕ) → Step

-- ---- what may follow

-- a transaction that may still commit wrote a version: the first of a row, or another one
pub record MayPut (short : ℕ) (store : Store) (t : ℕ) (header : Header) (slot : Slot) : Type 0 where
  pub stored : IsStored short slot
  pub writer : IsOpen store slot.xn
  pub link : BeginsRow (store.tables t) header slot ⊎ VariesRow (store.tables t) header slot

-- what the transaction wrote stands in front of all that is done
pub record MayCommit (store : Store) (xn : ℕ) : Type 0 where
  pub writer : IsOpen store xn
  pub in_front : AreInFront store.done xn store.tables store.layouts

-- what is left of the chain shows the slot that the whole of it showed
pub record MayUnlink (store : Store) (t row from count : ℕ) : Type 0 where
  pub used : IsUsedRow (store.tables t) row
  pub some : 1 ≤ count
  pub within : from + count ≤ length ((store.layouts t).chain row)
  pub same : slot_shown store.done (left_of (versions_of store t row) from count) ≡ slot_shown store.done (versions_of store t row)

-- the step may follow; of what lies in the data logs a move alone asks
abbrev pub IsStep : Parts → (short : ℕ) → Store → Step → Type 0
IsStep parts short store (put t header slot) = MayPut short store t header slot
IsStep parts short store (commit xn number) = MayCommit store xn
IsStep parts short store (rollback xn) = store.done xn ≡ false
IsStep parts short store (unlink t row from count) = MayUnlink store t row from count
IsStep parts short store (move t number log place) = MayMove parts short store.tables store.layouts t number log place

-- ---- what it leaves

-- a version that leads to no older one begins a row
abbrev pub layout_linked : Table → Layout → Slot → Layout
layout_linked table layout slot =
    linked (if slot.next == 0 then row_taken (slot_taken layout) else slot_taken layout) (taken_slot table) slot.row

abbrev pub after_put : Store → (t : ℕ) → Header → Slot → Store
after_put store t header slot = record store {
  tables = with_link store.tables t header slot;
  layouts = with_layout store.layouts t (layout_linked (store.tables t) (store.layouts t) slot);
}

abbrev pub after_commit : Store → (xn : ℕ) → Store
after_commit store xn = record store { done = done_with xn store.done }

abbrev pub after_rollback : Store → (xn : ℕ) → Store
after_rollback store xn = record store { over = λ number. (number == xn) || store.over number }

-- a version of it is among these
abbrev pub has_one_of : (xn : ℕ) → List Slot → Bool
has_one_of xn slots = list_any (λ slot. slot.xn == xn) slots

-- who isn't done and loses a version is over
abbrev pub over_without : Store → (gone : List Slot) → ℕ → Bool
over_without store gone = λ number. store.over number || (not (store.done number) && has_one_of number gone)

abbrev pub after_unlink : Store → (t row from count : ℕ) → Store
after_unlink store t row from count = record store {
  tables = with_unlink store.tables store.layouts t row from count;
  layouts = layouts_unlinked store.layouts t row from count;
  over = over_without store (versions_from store t row from count);
}

abbrev pub after_move : Store → (t number log place : ℕ) → Store
after_move store t number log place = record store { tables = with_move store.tables t number log place }

abbrev pub after_step : Store → Step → Store
after_step store (put t header slot) = after_put store t header slot
after_step store (commit xn number) = after_commit store xn
after_step store (rollback xn) = after_rollback store xn
after_step store (unlink t row from count) = after_unlink store t row from count
after_step store (move t number log place) = after_move store t number log place

abbrev pub IsUnlink : Step → Type 0
IsUnlink (put t header slot) = ⊥
IsUnlink (commit xn number) = ⊥
IsUnlink (rollback xn) = ⊥
IsUnlink (unlink t row from count) = Unit {0}
IsUnlink (move t number log place) = ⊥

-- the step doesn't end the transaction, nor takes a version from it
abbrev pub LeavesOpen : (xn : ℕ) → Store → Step → Type 0
LeavesOpen xn store (put t header slot) = Unit {0}
LeavesOpen xn store (commit by number) = by ≢ xn
LeavesOpen xn store (rollback by) = by ≢ xn
LeavesOpen xn store (unlink t row from count) = HasNoneOf xn (versions_from store t row from count)
LeavesOpen xn store (move t number log place) = Unit {0}

-- ---- steps in a row

abbrev pub after_steps : Store → List Step → Store
after_steps store steps = fold after_step store steps

-- each may follow those before it
abbrev pub AreSteps : Parts → (short : ℕ) → Store → List Step → Type 0
AreSteps parts short store [] = Unit {0}
AreSteps parts short store (step ∷ steps) = IsStep parts short store step × AreSteps parts short (after_step store step) steps

-- the steps lead from the one store to the other
pub record History (parts : Parts) (short : ℕ) (base : Store) (steps : List Step) (store : Store) : Type 0 where
  pub follow : AreSteps parts short base steps
  pub lead : store ≡ after_steps base steps

-- ---- what is asked of the data logs

-- the same bytes at the references of the step: that of the version that is put, and those that a move has before and after it
abbrev pub AgreeOnStep : (parts others : Parts) → Store → Step → Type 0
AgreeOnStep parts others store (put t header slot) = AgreeAt parts others slot
AgreeOnStep parts others store (commit xn number) = Unit {0}
AgreeOnStep parts others store (rollback xn) = Unit {0}
AgreeOnStep parts others store (unlink t row from count) = Unit {0}
AgreeOnStep parts others store (move t number log place) =
    AgreeAt parts others ((store.tables t).slot number) × AgreeAt parts others (moved_slot ((store.tables t).slot number) log place)

-- and so at those of each step
abbrev pub AgreeOnSteps : (parts others : Parts) → Store → List Step → Type 0
AgreeOnSteps parts others store [] = Unit {0}
AgreeOnSteps parts others store (step ∷ steps) = AgreeOnStep parts others store step × AgreeOnSteps parts others (after_step store step) steps
