-- The cells of changes, and the places at which they lie.
use Rattle.std.specs.Prelude.{ℕ, Bool, List, flat_map}
use Rattle.std.specs.List.{list_any}
use Rattle.px_cells.specs.declared.cell.Cell.{Cell}
use Rattle.px_cells.specs.declared.cell.CellKind.{CellKind}
use Rattle.px_change.specs.declared.change.Change.{Change}
use Rattle.px_laid.specs.Places.{is_at}

abbrev pub cells_by : List Change → List Cell
cells_by changes = flat_map (λ (change : Change). change.cells) changes

-- one of the cells lies at that place
abbrev pub is_laid_by : List Cell → CellKind → (table number : ℕ) → Bool
is_laid_by cells what table number = list_any (is_at what table number) cells
