-- Which versions go with the sweep of a write that is due.
use Rattle.std.specs.Prelude.{◌≡◌, ℕ, ◌+◌, ◌≤◌, ◌==◌, Bool, not, ◌&&◌, List, [], ◌∷◌, length, Option, Some, None, MatchOption, if◌then◌else◌}
use Rattle.px_cell_laws.specs.Sweeping.{IsSweptAt, sweep_count, sweep_count_of, sweep_from, sweep_of}
use Rattle.px_cells.specs.declared.slot.Slot.{Slot}
use Rattle.px_chain.specs.Places.{IsRun, StandsAt}
use Rattle.px_chain.specs.Sound.{IsUsedRow}
use Rattle.px_history.specs.Steps.{Step}
use Rattle.px_history.specs.Store.{Store}
use Rattle.px_model.specs.Machine.{Machine}
use Rattle.px_model.specs.declared.machine.Flat.{Flat}
use Rattle.px_tidy.specs.Kept.{is_row}
use Rattle.px_xacts.specs.declared.answers.Due.{Due}
use Rattle.px_held.specs.declared.run.Run.{Run}

-- the number in front of the first that is this slot, where `newer` is in front of them all
abbrev pub newer_in : (newer slot : ℕ) → List ℕ → Option ℕ
newer_in newer slot [] = None
newer_in newer slot (number ∷ chain) = if number == slot then Some newer else newer_in number slot chain

-- the version of what is due stands at this place of its row's chain, and at most one behind it
pub record IsDueAt (store : Store) (due : Due) (place : ℕ) : Type 0 where
  pub used : IsUsedRow (store.tables due.table) due.row
  pub stands : StandsAt ((store.layouts due.table).chain due.row) place due.slot
  pub last : length ((store.layouts due.table).chain due.row) ≤ place + 2

-- it is a row, and no deletion
abbrev pub is_put_at : Store → Due → Bool
is_put_at store due = is_row ((store.tables due.table).slot due.slot).state

-- from where on versions of its row go with it, and how many
abbrev pub gone_from : Store → Due → (place : ℕ) → ℕ
gone_from store due place = sweep_from due.committed (is_put_at store due) place

abbrev pub gone_count : Store → Due → (place : ℕ) → ℕ
gone_count store due place = sweep_count due.committed (is_put_at store due) place (length ((store.layouts due.table).chain due.row))

abbrev pub gone_step : Store → Due → (place : ℕ) → Step
gone_step store due place = Step.unlink due.table due.row (gone_from store due place) (gone_count store due place)

-- The write that the machine sweeps next is what is due: it stands at this place of its row, and its sweep is the unlink of these.
pub record IsSweepOf (m : Machine) (store : Store) (due : Due) (w : Flat) (place : ℕ) : Type 0 where
  pub at : IsDueAt store due place
  pub swept : IsSweptAt m store w due.table due.row place
  pub number : w.number ≡ due.number
  pub count : sweep_count_of store w due.table due.row place ≡ gone_count store due place
  pub unlink : sweep_of store w due.table due.row place ≡ gone_step store due place

-- a run of so many versions stands in the chain from this place on
pub record IsRunOf (chain : List ℕ) (from count : ℕ) (run : Run) : Type 0 where
  pub stands : IsRun chain from run.newer run.first run.count
  pub many : run.count ≡ count

-- these versions go, or none does
abbrev pub GoesWith : Store → Due → (place : ℕ) → Option Run → Type 0
GoesWith store due place found =
    MatchOption found (gone_count store due place ≡ 0)
    (IsRunOf ((store.layouts due.table).chain due.row) (gone_from store due place) (gone_count store due place))

-- ---- one write

-- the version in the slot is a row of the write's row pointer
abbrev pub is_row_in : Due → Slot → Bool
is_row_in due version = not (due.slot == 0) && ((version.row == due.row) && is_row version.state)

-- behind a row that committed goes the base, if there is one
abbrev pub base_run : (slot next : ℕ) → Option Run
base_run slot next = if next == 0 then None else Some (record { newer = slot; first = next; count = 1 })

-- what was rolled back goes alone, a deletion that committed with the base behind it
abbrev pub own_run : (committed : Bool) → (newer slot next : ℕ) → Run
own_run committed newer slot next = record { newer = newer; first = slot; count = if committed then (if next == 0 then 1 else 2) else 1 }
