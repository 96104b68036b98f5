-- Which bytes lie at which place.
use Rattle.std.specs.Prelude.{ℕ, Bool, ◌&&◌, ◌==◌, List, fold, Option, Some, None, if◌then◌else◌}
use Rattle.px_cells.specs.declared.cell.Cell.{Cell}
use Rattle.px_cells.specs.declared.cell.CellKind.{CellKind}
use Rattle.px_cells.specs.declared.cell.CellKind.TheVariants.{Header, Slot, Pointer}
use Rattle.px_change.specs.Grammar.{is_what}
use Rattle.px_laid.specs.declared.laid.Laid.{Laid}
use Rattle.px_laid.specs.Numbered.{bytes_in}

-- the bytes of each cell that was laid
abbrev pub Places : Type 0
Places = CellKind → (table number : ℕ) → Option (List ℕ)

abbrev pub places : Laid → Places
places laid Header table number = bytes_in laid.headers.items table number
places laid Slot table number = bytes_in laid.slots.items table number
places laid Pointer table number = bytes_in laid.pointers.items table number

abbrev pub none_laid : Places
none_laid what table number = None

abbrev pub is_at : CellKind → (table number : ℕ) → Cell → Bool
is_at what table number cell = is_what what cell && ((table == cell.table) && (number == cell.number))

-- the cell lies over what was at its place
abbrev pub over : Places → Cell → Places
over below cell = λ what table number. if is_at what table number cell then Some cell.bytes else below what table number

-- each cell lies over those before it
abbrev pub laid_over : Places → List Cell → Places
laid_over below cells = fold over below cells
