-- The writes of cells, and what they make of a site.
use Rattle.std.specs.Prelude.{◌≡◌, ℕ, List, ◌∷◌, ◌++◌, fold, Result}
use Rattle.px_site.specs.declared.name.FileName.{FileName}
use Rattle.px_site.specs.declared.error.SiteError.{SiteError}
use Rattle.px_site.specs.Disk.{Change as DiskChange, Wrote}
use Rattle.px_site.specs.State.{State, Changes, changed}
use Rattle.px_cells.specs.declared.cell.Cell.{Cell}
use Rattle.px_recs.specs.Place.{place_of, table_file}

abbrev pub file_of : Cell → FileName
file_of cell = table_file cell.what cell.table

-- all of a cell's bytes, at its place
abbrev pub write_of : (short : ℕ) → Cell → DiskChange
write_of short cell = Wrote (place_of short cell.what cell.number) cell.bytes

abbrev pub cell_written : (short : ℕ) → State → Cell → State
cell_written short s cell = changed (file_of cell) (write_of short cell) s

-- a site after one write for each of the cells, in their order, each of which succeeded
abbrev pub cells_written : (short : ℕ) → State → List Cell → State
cells_written short s cells = fold (cell_written short) s cells

-- The writes stopped at one of the cells: those before it are written, and of its write came what the result says.
pub record StopsAt {T : Type 0} (short : ℕ) (cells : List Cell) (old new : State) (result : Result T SiteError) : Type 0 where
  pub done : List Cell
  pub cell : Cell
  pub rest : List Cell
  pub in_order : cells ≡ done ++ cell ∷ rest
  pub moves : Changes (file_of cell) (write_of short cell) (cells_written short old done) new result
