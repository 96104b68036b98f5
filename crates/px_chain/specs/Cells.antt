-- The bytes of a table's cells.
use Rattle.std.specs.Prelude.{ℕ}
use Rattle.px_cells.specs.declared.cell.Cell.{Cell}
use Rattle.px_cells.specs.declared.cell.CellKind.TheVariants as kind
use Rattle.px_cells.specs.declared.header.Header.{Header}
use Rattle.px_cells.specs.declared.pointer.Pointer.{Pointer}
use Rattle.px_cells.specs.declared.slot.Slot.{Slot}
use Rattle.px_recs.specs.Text.{header_text, slot_text, pointer_text}
use Rattle.px_chain.specs.Table.{Content}

abbrev pub header_cell : (table : ℕ) → Header → Cell
header_cell table header = record { what = kind.Header; table = table; number = 0; bytes = header_text header }

-- the cell of a slot in a store with that short length
abbrev pub slot_cell : (table short number : ℕ) → Slot → Cell
slot_cell table short number slot = record { what = kind.Slot; table = table; number = number; bytes = slot_text short slot }

abbrev pub pointer_cell : (table number : ℕ) → Pointer → Cell
pointer_cell table number pointer = record { what = kind.Pointer; table = table; number = number; bytes = pointer_text pointer }

abbrev pub cell_of : (table short : ℕ) → Content → Cell
cell_of table short (Content.header_is header) = header_cell table header
cell_of table short (Content.slot_is number slot) = slot_cell table short number slot
cell_of table short (Content.pointer_is number pointer) = pointer_cell table number pointer
