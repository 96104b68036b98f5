-- What holds at each moment while cells are written.
use Rattle.std.specs.Prelude.{◌≡◌, ℕ, ◌≤◌, max, false, List, [], ◌∷◌, ◌++◌, fold}
use Rattle.px_site.specs.declared.name.FileName.{FileName}
use Rattle.px_site.specs.Disk.{FileState, least, most, touched}
use Rattle.px_site.specs.State.{Moment, begun}
use Rattle.px_cells.specs.declared.cell.Cell.{Cell}
use Rattle.px_apply.specs.Writes.{file_of, write_of}
use Rattle.px_apply.specs.Contents.{is_byte_of_some, is_file_of, reach}

abbrev pub cell_begun : (short : ℕ) → Moment → Cell → Moment
cell_begun short m cell = begun (file_of cell) (write_of short cell) m

-- a moment by which one write for each of the cells was begun, in their order
abbrev pub cells_begun : (short : ℕ) → Moment → List Cell → Moment
cells_begun short m cells = fold (cell_begun short) m cells

-- A moment within the write of one of the cells, or behind it: the writes up to this one were begun, and no other.
pub record IsWithin (short : ℕ) (cells : List Cell) (before m : Moment) : Type 0 where
  pub done : List Cell
  pub cell : Cell
  pub rest : List Cell
  pub in_order : cells ≡ done ++ cell ∷ rest
  pub begun : m ≡ cell_begun short (cells_begun short before done) cell

-- A file is as before, but for writes to these cells: what was synced stays so, a byte outside the cells is touched only
-- if it was, and a crash leaves the file no shorter, and no longer than it could before or than the cells in it reach.
pub record TouchesCells (short : ℕ) (cells : List Cell) (file : FileName) (before now : FileState) : Type 0 where
  pub synced : now.synced ≡ before.synced
  pub outside : (at : ℕ) → is_byte_of_some short cells file at ≡ false → touched now.pending at ≡ touched before.pending at
  pub no_shorter : (len : ℕ) → least len now.pending ≡ least len before.pending
  pub no_longer : (len : ℕ) → most len now.pending ≤ max (reach short cells file) (most len before.pending)
  pub unless : is_file_of cells file ≡ false → now ≡ before

-- A moment that differs from an earlier one by writes to these cells alone.
pub record TouchesOnly (short : ℕ) (cells : List Cell) (before m : Moment) : Type 0 where
  pub files : (file : FileName) → TouchesCells short cells file (before.files file) (m.files file)
  pub told : m.told ≡ before.told
  pub telling : m.telling ≡ []
