-- What the first damage of a store's tables is.
use Rattle.std.specs.Prelude.{◌≡◌, ◌⊎◌, ℕ, ◌≤◌, ◌<◌}
use Rattle.px_cells.specs.declared.cell.CellKind.{CellKind}
use Rattle.px_cells.specs.declared.cell.CellKind.TheVariants as kind
use Rattle.px_chain.specs.Sound.{Layout}
use Rattle.px_chain.specs.Table.{Table}
use Rattle.px_laid.specs.Places.{Places}
use Rattle.px_laid.specs.Whole.{AreCellsOf, IsFirstBad}
use Rattle.px_laid.specs.declared.table.TableCells.{TableCells}
use Rattle.px_recs.specs.Place.{place_of, table_file}
use Rattle.px_site.specs.declared.name.FileName.{FileName}
use Rattle.px_survey.specs.Cells.{table_of}
use Rattle.px_survey.specs.Flaws.{IsFirstFlaw}
use Rattle.px_survey.specs.declared.flaw.Flaw.{Flaw}
use Rattle.px_history.specs.Fitting.{IsTable}
use Rattle.px_opened.specs.Opened.{OpensTo}
use Rattle.px_opened.specs.declared.error.OpenedError.{OpenedError}
use Rattle.px_opened.specs.declared.error.OpenedError.TheVariants.{OutOfMemory, Damaged}

-- the cell that is flawed
abbrev pub flawed_kind : Flaw → CellKind
flawed_kind Flaw.Header = kind.Header
flawed_kind (Flaw.Pointer row) = kind.Pointer
flawed_kind (Flaw.Slot slot) = kind.Slot

abbrev pub flawed_number : Flaw → ℕ
flawed_number Flaw.Header = 0
flawed_number (Flaw.Pointer row) = row
flawed_number (Flaw.Slot slot) = slot

-- each cell of the table is read, and this one is the first flaw
pub record IsFlawedAt (short : ℕ) (places : Places) (number : ℕ) (what : CellKind) (cell : ℕ) : Type 0 where
  pub cells : TableCells
  pub read : AreCellsOf short places number cells
  pub flaw : Flaw
  pub first : IsFirstFlaw (table_of cells.header cells.pointers.items cells.slots.items) flaw
  pub its_kind : what ≡ flawed_kind flaw
  pub its_number : cell ≡ flawed_number flaw

-- in the table with that number this cell is the first that isn't read or, where each is, the first flaw
abbrev pub IsDamagedAt : (short : ℕ) → Places → (number : ℕ) → CellKind → (cell : ℕ) → Type 0
IsDamagedAt short places number what cell = IsFirstBad short places number what cell ⊎ IsFlawedAt short places number what cell

-- the table with that number is read, and sound
pub record IsIntact (short : ℕ) (places : Places) (number : ℕ) : Type 0 where
  pub table : Table
  pub layout : Layout
  pub opens : OpensTo short places number table layout

-- the damage of the table with that number is a cell at this place of this file
pub record IsDamageOf (short : ℕ) (places : Places) (number : ℕ) (file : FileName) (place : ℕ) : Type 0 where
  pub what : CellKind
  pub cell : ℕ
  pub damaged : IsDamagedAt short places number what cell
  pub its_file : file ≡ table_file what number
  pub its_place : place ≡ place_of short what cell

-- The first damage in a store with so many tables: those with lower numbers are intact.
pub record IsDamage (short tables : ℕ) (places : Places) (file : FileName) (place : ℕ) : Type 0 where
  pub number : ℕ
  pub within : IsTable tables number
  pub before : (t : ℕ) → 1 ≤ t → t < number → IsIntact short places t
  pub damage : IsDamageOf short places number file place

-- ---- why tables aren't opened

abbrev pub IsErrorOf : (short : ℕ) → Places → (number : ℕ) → OpenedError → Type 0
IsErrorOf short places number OutOfMemory = Unit {0}
IsErrorOf short places number (Damaged file place) = IsDamageOf short places number file place

abbrev pub IsErrorIn : (short tables : ℕ) → Places → OpenedError → Type 0
IsErrorIn short tables places OutOfMemory = Unit {0}
IsErrorIn short tables places (Damaged file place) = IsDamage short tables places file place
