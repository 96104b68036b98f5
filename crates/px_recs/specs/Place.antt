-- In which files cells stand, and where, and how long they are (docs/FORMATS.md, 'Cells').
use Rattle.std.specs.Prelude.{ℕ, ◌+◌, ◌-◌, ◌*◌, Bool, ◌==◌, nat_le}
use Rattle.px_site.specs.declared.name.FileName.{FileName}
use Rattle.px_site.specs.declared.name.FileName.TheVariants.{Rec, Row}
use Rattle.px_cells.specs.declared.limits.TheConstants.{HEADER_SIZE, SLOT_HEAD_SIZE, POINTER_SIZE}
use Rattle.px_cells.specs.declared.cell.CellKind.{CellKind}
use Rattle.px_cells.specs.declared.cell.CellKind.TheVariants.{Header, Slot, Pointer}

-- a cell's bytes
abbrev pub size_of : (short : ℕ) → CellKind → ℕ
size_of short Header = HEADER_SIZE
size_of short Slot = SLOT_HEAD_SIZE + short
size_of short Pointer = POINTER_SIZE

-- the numbers that cells of this kind have
abbrev pub is_number_of : CellKind → ℕ → Bool
is_number_of Header number = number == 0
is_number_of Slot number = nat_le 1 number
is_number_of Pointer number = nat_le 1 number

-- the place of a cell in its file: the record file for a header and a slot, the row file for a row pointer
abbrev pub place_of : (short : ℕ) → CellKind → (number : ℕ) → ℕ
place_of short Header number = 0
place_of short Slot number = HEADER_SIZE + (number - 1) * size_of short Slot
place_of short Pointer number = (number - 1) * POINTER_SIZE

-- the file in which a table has its cells of that kind
abbrev pub table_file : CellKind → (table : ℕ) → FileName
table_file Header table = Rec table
table_file Slot table = Rec table
table_file Pointer table = Row table
