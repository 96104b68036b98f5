-- The one text of a change (docs/FORMATS.md, 'Change').
use Rattle.std.specs.Prelude.{ℕ, List, [], ◌∷◌, ◌++◌, length}
use Rattle.std.specs.List.{flat_map}
use Rattle.std.specs.Int.{w16, w32, w64, to_be_bytes}
use Rattle.px_cells.specs.declared.cell.Cell.{Cell}
use Rattle.px_cells.specs.declared.cell.CellKind.{CellKind}
use Rattle.px_cells.specs.declared.cell.CellKind.TheVariants.{Header, Slot, Pointer}
use Rattle.px_change.specs.declared.change.Change.{Change}
use Rattle.px_change.specs.declared.change.ChangeKind.{ChangeKind}
use Rattle.px_change.specs.declared.change.ChangeKind.TheVariants.{Put, Commit, Rollback, Sweep, Move, Tidy}

-- ---- kinds

abbrev pub kind_code : ChangeKind → ℕ
kind_code Put = 1
kind_code Commit = 2
kind_code Rollback = 3
kind_code Sweep = 4
kind_code Move = 5
kind_code Tidy = 6

abbrev pub cell_code : CellKind → ℕ
cell_code Header = 1
cell_code Slot = 2
cell_code Pointer = 3

-- ---- texts

-- what stands before the bytes of a cell
unfoldable pub cell_head : (what table number size : ℕ) → List ℕ
cell_head what table number size = what ∷ table ∷ to_be_bytes w32 number ++ to_be_bytes w16 size

unfoldable pub cell_text : Cell → List ℕ
cell_text cell = cell_head (cell_code cell.what) cell.table cell.number (length cell.bytes) ++ cell.bytes

-- what stands before the cells of a change
unfoldable pub head : (kind xn commit count : ℕ) → List ℕ
head kind xn commit count = kind ∷ to_be_bytes w64 xn ++ (to_be_bytes w64 commit ++ count ∷ [])

unfoldable pub change_text : Change → List ℕ
change_text change = head (kind_code change.kind) change.xn change.commit (length change.cells) ++ flat_map cell_text change.cells
