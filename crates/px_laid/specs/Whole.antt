-- What all cells of a table are, and which of them is the first that the table can't have.
use Rattle.std.specs.Prelude.{◌≡◌, ℕ, suc, ◌≤◌, List, [], ◌∷◌, length, IsSomeAnd}
use Rattle.px_cells.specs.declared.cell.CellKind.{CellKind}
use Rattle.px_cells.specs.declared.cell.CellKind.TheVariants.{Header as AHeader, Slot as ASlot, Pointer as APointer}
use Rattle.px_cells.specs.declared.header.Header.{Header}
use Rattle.px_cells.specs.declared.pointer.Pointer.{Pointer}
use Rattle.px_cells.specs.declared.slot.Slot.{Slot}
use Rattle.px_recs.specs.Text.{HeaderAt, PointerAt, SlotAt}
use Rattle.px_laid.specs.declared.table.TableCells.{TableCells}
use Rattle.px_laid.specs.declared.table.TableError.{TableError}
use Rattle.px_laid.specs.declared.table.TableError.TheVariants.{OutOfMemory, BadCell}
use Rattle.px_laid.specs.Places.{Places}
use Rattle.px_laid.specs.Reading.{header_bytes}

-- a cell was laid there, and it is this one
abbrev pub IsLaidPointer : Places → (table number : ℕ) → Pointer → Type 0
IsLaidPointer places table number pointer = IsSomeAnd (places APointer table number) (λ bytes. PointerAt bytes pointer)

abbrev pub IsLaidSlot : (short : ℕ) → Places → (table number : ℕ) → Slot → Type 0
IsLaidSlot short places table number slot = IsSomeAnd (places ASlot table number) (λ bytes. SlotAt short bytes slot)

-- each value is at its number, the first at this one and the others behind it
abbrev pub AllFrom : {X : Type 0} → (At : ℕ → X → Type 0) → (number : ℕ) → List X → Type 0
AllFrom At number [] = Unit {0}
AllFrom At number (value ∷ values) = At number value × AllFrom At (suc number) values

-- the values at the numbers from 1 to that count
pub record AreAll {X : Type 0} (At : ℕ → X → Type 0) (count : ℕ) (values : List X) : Type 0 where
  pub long : length values ≡ count
  pub each : AllFrom At 1 values

-- of the numbers from 1 to that count, this is the first without a value
pub record IsFirstWithout {X : Type 0} (At : ℕ → X → Type 0) (count number : ℕ) : Type 0 where
  pub front : List X
  pub each : AllFrom At 1 front
  pub behind : number ≡ suc (length front)
  pub within : number ≤ count
  pub without : (value : X) → ¬ At number value

-- there was no memory, or this is the first bad cell of a kind of which the table has that many
abbrev pub IsBadIn : {X : Type 0} → CellKind → (At : ℕ → X → Type 0) → (count : ℕ) → TableError → Type 0
IsBadIn what At count OutOfMemory = Unit {0}
IsBadIn what At count (BadCell kind number) = (kind ≡ what) × IsFirstWithout At count number

pub record AreCellsOf (short : ℕ) (places : Places) (table : ℕ) (cells : TableCells) : Type 0 where
  pub header : HeaderAt (header_bytes places table) cells.header
  pub pointers : AreAll (IsLaidPointer places table) cells.header.rows cells.pointers.items
  pub slots : AreAll (IsLaidSlot short places table) cells.header.slots cells.slots.items

-- the row pointer is the first bad cell
pub record IsBadPointer (places : Places) (table number : ℕ) : Type 0 where
  pub header : Header
  pub header_at : HeaderAt (header_bytes places table) header
  pub first : IsFirstWithout (IsLaidPointer places table) header.rows number

-- the slot is the first bad cell
pub record IsBadSlot (short : ℕ) (places : Places) (table number : ℕ) : Type 0 where
  pub header : Header
  pub header_at : HeaderAt (header_bytes places table) header
  pub pointers : List Pointer
  pub pointers_at : AreAll (IsLaidPointer places table) header.rows pointers
  pub first : IsFirstWithout (IsLaidSlot short places table) header.slots number

abbrev pub IsFirstBad : (short : ℕ) → Places → (table : ℕ) → CellKind → (number : ℕ) → Type 0
IsFirstBad short places table AHeader number = (number ≡ 0) × ((header : Header) → ¬ HeaderAt (header_bytes places table) header)
IsFirstBad short places table APointer number = IsBadPointer places table number
IsFirstBad short places table ASlot number = IsBadSlot short places table number

abbrev pub IsErrorOf : (short : ℕ) → Places → (table : ℕ) → TableError → Type 0
IsErrorOf short places table OutOfMemory = Unit {0}
IsErrorOf short places table (BadCell what number) = IsFirstBad short places table what number
