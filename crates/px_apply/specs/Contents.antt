-- Which bytes the files have once cells are written.
use Rattle.std.specs.Prelude.{◌≡◌, ℕ, ◌+◌, max, Bool, ◌&&◌, List, [], ◌∷◌, length, take, drop, fold, if◌then◌else◌}
use Rattle.std.specs.List.{list_any}
use Rattle.px_site.specs.declared.name.FileName.{FileName}
use Rattle.px_site.specs.Disk.{content_after, touches}
use Rattle.px_site.specs.Names.{same_file}
use Rattle.px_site.specs.State.{with_file}
use Rattle.px_cells.specs.declared.cell.Cell.{Cell}
use Rattle.px_recs.specs.Place.{place_of}
use Rattle.px_apply.specs.Writes.{file_of, write_of}

abbrev pub Contents : Type 0
Contents = FileName → List ℕ

abbrev pub with_cell : (short : ℕ) → Contents → Cell → Contents
with_cell short contents cell = with_file (file_of cell) (content_after (write_of short cell) (contents (file_of cell))) contents

-- contents with the cells' bytes at their places, one cell over the other in their order
abbrev pub with_cells : (short : ℕ) → Contents → List Cell → Contents
with_cells short contents cells = fold (with_cell short) contents cells

abbrev pub is_in : FileName → Cell → Bool
is_in file cell = same_file (file_of cell) file

-- some of the cells is in this file
abbrev pub is_file_of : List Cell → FileName → Bool
is_file_of cells file = list_any (is_in file) cells

-- this byte of the file is one of the cell's
abbrev pub is_byte_of : (short : ℕ) → FileName → (at : ℕ) → Cell → Bool
is_byte_of short file at cell = is_in file cell && touches (write_of short cell) at

-- this byte of the file is one of some cell's
abbrev pub is_byte_of_some : (short : ℕ) → List Cell → FileName → (at : ℕ) → Bool
is_byte_of_some short cells file at = list_any (is_byte_of short file at) cells

abbrev pub end_of : (short : ℕ) → Cell → ℕ
end_of short cell = place_of short cell.what cell.number + length cell.bytes

-- how far the cells in this file reach
abbrev pub reach : (short : ℕ) → List Cell → FileName → ℕ
reach short [] file = 0
reach short (cell ∷ cells) file =
    if is_in file cell then max (end_of short cell) (reach short cells file) else reach short cells file

-- the cell's bytes stand at its place
abbrev pub HasCell : (short : ℕ) → Contents → Cell → Type 0
HasCell short contents cell =
    take (length cell.bytes) (drop (place_of short cell.what cell.number) (contents (file_of cell))) ≡ cell.bytes
