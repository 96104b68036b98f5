-- That the numbers of a step fit their fields, and its change a frame of the log.
use Rattle.std.specs.Prelude.{ℕ, ◌+◌, ◌^◌, ◌<◌, ◌≤◌, List}
use Rattle.std.specs.List.{AllByRecursion}
use Rattle.px_cells.specs.declared.header.Header.{Header}
use Rattle.px_cells.specs.declared.slot.Slot.{Slot}
use Rattle.px_change.specs.declared.limits.TheConstants.{MOST_CELLS}
use Rattle.px_model.specs.declared.limits.TheConstants.{STORED_NUMBERS_END}
use Rattle.px_recs.specs.Text.{SlotFits}
use Rattle.px_history.specs.Store.{Store}
use Rattle.px_history.specs.Steps.{Step}

-- ---- fields

-- a store with so many tables has this one
abbrev pub IsTable : (tables t : ℕ) → Type 0
IsTable tables t = (1 ≤ t) × (t ≤ tables)

-- the header's places have numbers that fit
pub record PlacesFit (header : Header) : Type 0 where
  pub slots : header.slots < 2 ^ 32
  pub rows : header.rows < 2 ^ 32

pub record PutFits (tables t : ℕ) (header : Header) (slot : Slot) : Type 0 where
  pub table : IsTable tables t
  pub places : PlacesFit header
  pub its_slot : SlotFits slot

pub record MoveFits (tables t number log place : ℕ) : Type 0 where
  pub table : IsTable tables t
  pub its_slot : number < 2 ^ 32
  pub its_log : log < 2 ^ 32
  pub its_place : place < 2 ^ 32

-- the step is one of a table that a store with so many has, and the numbers that it names fit their fields
abbrev pub IsWritten : (tables : ℕ) → Step → Type 0
IsWritten tables (Step.put t header slot) = PutFits tables t header slot
IsWritten tables (Step.commit xn number) = Unit {0}
IsWritten tables (Step.rollback xn) = Unit {0}
IsWritten tables (Step.unlink t row from count) = IsTable tables t
IsWritten tables (Step.move t number log place) = MoveFits tables t number log place

abbrev pub AreWritten : (tables : ℕ) → List Step → Type 0
AreWritten tables steps = AllByRecursion (IsWritten tables) steps

-- ---- frames

abbrev pub IsStoredNumber : (xn : ℕ) → Type 0
IsStoredNumber xn = (1 ≤ xn) × (xn < STORED_NUMBERS_END)

-- a header and a slot or a row pointer are changed beside the slots that go
abbrev pub HasRoomFor : (count : ℕ) → Type 0
HasRoomFor count = count + 2 ≤ MOST_CELLS

-- the number of a commit fits a frame of this number
pub record CommitFits (frame number : ℕ) : Type 0 where
  pub some : 1 ≤ number
  pub due : number ≤ frame + 1
  pub small : number < 2 ^ 64

-- the step, whose numbers fit their fields, fits a frame of this number too
abbrev pub FitsFrame : (frame : ℕ) → Store → Step → Type 0
FitsFrame frame store (Step.put t header slot) = Unit {0}
FitsFrame frame store (Step.commit xn number) = CommitFits frame number
FitsFrame frame store (Step.rollback xn) = Unit {0}
FitsFrame frame store (Step.unlink t row from count) = PlacesFit (store.tables t).header × HasRoomFor count
FitsFrame frame store (Step.move t number log place) = Unit {0}
