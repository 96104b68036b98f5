-- What the bytes at a place are read as. A cell that isn't there reads as zero bytes (docs/FORMATS.md, 'Cells').
use Rattle.std.specs.Prelude.{ℕ, List, replicate, unwrap_or}
use Rattle.px_cells.specs.declared.cell.CellKind.TheVariants as kind
use Rattle.px_cells.specs.declared.limits.TheConstants.{HEADER_SIZE, POINTER_SIZE}
use Rattle.px_recs.specs.Place.{size_of}
use Rattle.px_laid.specs.Places.{Places}

abbrev pub header_bytes : Places → (table : ℕ) → List ℕ
header_bytes places table = unwrap_or (places kind.Header table 0) (replicate HEADER_SIZE 0)

abbrev pub pointer_bytes : Places → (table number : ℕ) → List ℕ
pointer_bytes places table number = unwrap_or (places kind.Pointer table number) (replicate POINTER_SIZE 0)

-- in a store with that short length
abbrev pub slot_bytes : (short : ℕ) → Places → (table number : ℕ) → List ℕ
slot_bytes short places table number = unwrap_or (places kind.Slot table number) (replicate (size_of short kind.Slot) 0)
