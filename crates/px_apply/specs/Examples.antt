-- A small cell.
use Rattle.std.specs.Prelude.{[], ◌∷◌}
use Rattle.px_cells.specs.declared.cell.Cell.{Cell}
use Rattle.px_cells.specs.declared.cell.CellKind.TheVariants.{Pointer}

-- row pointer 3 of table 1, which heads the chain at slot 7
abbrev pub third_pointer : Cell
third_pointer = record { what = Pointer; table = 1; number = 3; bytes = 1 ∷ 0 ∷ 0 ∷ 0 ∷ 0 ∷ 0 ∷ 0 ∷ 7 ∷ [] }
