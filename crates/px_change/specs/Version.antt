-- The change of a Put whose cells are a header, a slot and a row pointer.
use Rattle.std.specs.Prelude.{ℕ, true, [], ◌∷◌}
use Rattle.px_cells.specs.declared.cell.Cell.{Cell}
use Rattle.px_cells.specs.declared.cell.CellKind.TheVariants as kind
use Rattle.px_cells.specs.declared.header.Header.{Header}
use Rattle.px_cells.specs.declared.slot.Slot.{Slot}
use Rattle.px_recs.specs.Text.{header_text, pointer_text, slot_text}
use Rattle.px_change.specs.declared.change.Change.{Change}
use Rattle.px_change.specs.declared.change.ChangeKind.TheVariants.{Put}

abbrev pub header_cell : (table : ℕ) → Header → Cell
header_cell table header = record { what = kind.Header; table = table; number = 0; bytes = header_text header }

abbrev pub slot_cell : (table short number : ℕ) → Slot → Cell
slot_cell table short number slot = record { what = kind.Slot; table = table; number = number; bytes = slot_text short slot }

-- the row pointer of a row whose newest version stands in the slot with this number
abbrev pub pointer_cell : (table row head : ℕ) → Cell
pointer_cell table row head = record { what = kind.Pointer; table = table; number = row; bytes = pointer_text (record { used = true; head = head }) }

-- a transaction wrote the version in this slot, whose number and whose row pointer are taken in the header
abbrev pub version_change : (short table : ℕ) → Header → (number : ℕ) → Slot → Change
version_change short table header number slot = record {
  kind = Put;
  xn = slot.xn;
  commit = 0;
  cells = header_cell table header ∷ slot_cell table short number slot ∷ pointer_cell table slot.row number ∷ [];
}
