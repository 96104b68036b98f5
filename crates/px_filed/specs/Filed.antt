-- What the table files hold, and what a crash may leave of them.
use Rattle.std.specs.Prelude.{◌≡◌, ℕ, ◌<◌, ◌≤◌, max, nat_lt, false, List, [], ◌++◌, length, take, drop, replicate, Some, None, if◌then◌else◌}
use Rattle.px_site.specs.declared.name.FileName.{FileName}
use Rattle.px_site.specs.declared.name.FileName.TheVariants.{Rec, Row as RowFile}
use Rattle.px_site.specs.Disk.{FileState, at_rest, least, touched}
use Rattle.px_cells.specs.declared.cell.Cell.{Cell}
use Rattle.px_cells.specs.declared.cell.CellKind.{CellKind}
use Rattle.px_cells.specs.declared.cell.CellKind.TheVariants as kind
use Rattle.px_recs.specs.Place.{place_of, size_of, table_file}
use Rattle.px_apply.specs.Contents.{Contents, HasCell, end_of, is_file_of}
use Rattle.px_apply.specs.Writes.{file_of}
use Rattle.px_laid.specs.Places.{Places}
use Rattle.px_life.specs.Laid.{cells_by, is_laid_by}
use Rattle.px_life.specs.Life.{Life, between, places_at}

-- The cell at each place of the files, zero bytes past a file's end. A file without a byte there has no cell there.
abbrev pub file_places : (short : ℕ) → Contents → Places
file_places short contents what table number =
    let place = place_of short what number in
    let file = contents (table_file what table) in
    let size = size_of short what in
    if nat_lt place (length file) then Some (take size (drop place file ++ replicate size 0)) else None

-- The file has the cell on the disk, and nothing touches it.
pub record Rests (short : ℕ) (files : FileName → FileState) (cell : Cell) : Type 0 where
  pub size : length cell.bytes ≡ size_of short cell.what
  pub synced : HasCell short (λ file. (files file).synced) cell
  pub untouched : (at : ℕ) → place_of short cell.what cell.number ≤ at → at < end_of short cell → touched (files (file_of cell)).pending at ≡ false
  pub there : end_of short cell ≤ least (length (files (file_of cell)).synced) (files (file_of cell)).pending

-- Of the cells that these places have each one rests in its file that none of the later cells lies over; a table without a header
-- has no byte.
pub record KeepCells (short : ℕ) (below : Places) (later : List Cell) (files : FileName → FileState) : Type 0 where
  pub rest : (cell : Cell) → below cell.what cell.table cell.number ≡ Some cell.bytes
      → is_laid_by later cell.what cell.table cell.number ≡ false → Rests short files cell
  pub none : (table : ℕ) → below kind.Header table 0 ≡ None → is_laid_by later kind.Header table 0 ≡ false
      → (files (Rec table) ≡ at_rest []) × (files (RowFile table) ≡ at_rest [])

-- The files read as they were written: each cell that the places have stands in its file, unless one of the later cells lies over it.
pub record HaveCells (short : ℕ) (places : Places) (later : List Cell) (contents : Contents) : Type 0 where
  pub each : (cell : Cell) → places cell.what cell.table cell.number ≡ Some cell.bytes
      → is_laid_by later cell.what cell.table cell.number ≡ false → HasCell short contents cell

-- ---- a life in its files

-- In the files rests each cell of the store before the frame `redo`, unless a frame from there on has it that was applied since, or
-- that the opening read. Applied are the frames below `applied`.
abbrev pub KeepsFiles : (short : ℕ) → Life → (redo applied : ℕ) → (FileName → FileState) → Type 0
KeepsFiles short life redo applied files =
    KeepCells short (places_at life (max redo life.start)) (cells_by (between life redo (max applied life.start))) files

-- ---- one file of a life

-- Of the cells that these places have in the file each one rests there that none of the later cells lies over; in a table without
-- a header the file has no byte.
pub record KeepsItsCells (short : ℕ) (below : Places) (later : List Cell) (file : FileName) (files : FileName → FileState) : Type 0 where
  pub rest : (cell : Cell) → file_of cell ≡ file → below cell.what cell.table cell.number ≡ Some cell.bytes
      → is_laid_by later cell.what cell.table cell.number ≡ false → Rests short files cell
  pub none : (what : CellKind) (table : ℕ) → table_file what table ≡ file
      → below kind.Header table 0 ≡ None → is_laid_by later kind.Header table 0 ≡ false → files file ≡ at_rest []

-- The file rests up to a frame: what the store has in it before that frame rests there, unless a frame from there on has it that was
-- applied since, or that the opening read.
abbrev pub RestsUpTo : (short : ℕ) → Life → (upto applied : ℕ) → FileName → (FileName → FileState) → Type 0
RestsUpTo short life upto applied file files =
    KeepsItsCells short (places_at life (max upto life.start)) (cells_by (between life upto (max applied life.start))) file files

-- no frame from one on and below another has a cell in the file
abbrev pub IsSpared : Life → (from to : ℕ) → FileName → Type 0
IsSpared life from to file = is_file_of (cells_by (between life from to)) file ≡ false
