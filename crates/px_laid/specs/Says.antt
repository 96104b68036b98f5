-- Which table the places of cells say.
use Rattle.std.specs.Prelude.{◌≡◌, ℕ, ◌≤◌, ◌<◌, ◌^◌, IsSome, IsTrue}
use Rattle.px_cells.specs.Form.{is_slot}
use Rattle.px_cells.specs.declared.cell.CellKind.TheVariants as kind
use Rattle.px_cells.specs.declared.header.Header.{Header}
use Rattle.px_recs.specs.Text.{HeaderAt, HeaderFits, PointerAt, SlotAt, SlotFits}
use Rattle.px_chain.specs.Table.{Content, Table}
use Rattle.px_laid.specs.declared.table.TableCells.{TableCells}
use Rattle.px_laid.specs.Places.{Places}
use Rattle.px_laid.specs.Reading.{header_bytes, pointer_bytes, slot_bytes}
use Rattle.px_laid.specs.Whole.{AreAll}

-- In a store with that short length, the bytes at each place of the table with that number are the text of this table's cell,
-- and read as it.
pub record Says (short number : ℕ) (table : Table) (places : Places) : Type 0 where
  pub header : HeaderAt (header_bytes places number) table.header
  pub slot : (n : ℕ) → SlotAt short (slot_bytes short places number n) (table.slot n)
  pub pointer : (n : ℕ) → PointerAt (pointer_bytes places number n) (table.pointer n)

-- the content is read again where it was written
abbrev pub ContentFits : (short : ℕ) → Content → Type 0
ContentFits short (Content.header_is header) = HeaderFits header
ContentFits short (Content.slot_is number slot) = IsTrue (is_slot short slot) × SlotFits slot
ContentFits short (Content.pointer_is number pointer) = pointer.head < 2 ^ 32

-- a cell was laid at each place that the header counts
pub record CountsLaid (places : Places) (table : ℕ) (header : Header) : Type 0 where
  pub slots : (n : ℕ) → 1 ≤ n → n ≤ header.slots → IsSome (places kind.Slot table n)
  pub pointers : (n : ℕ) → 1 ≤ n → n ≤ header.rows → IsSome (places kind.Pointer table n)

-- the cells are those of this table
pub record AreSaid (table : Table) (cells : TableCells) : Type 0 where
  pub header : cells.header ≡ table.header
  pub pointers : AreAll (λ n pointer. pointer ≡ table.pointer n) table.header.rows cells.pointers.items
  pub slots : AreAll (λ n slot. slot ≡ table.slot n) table.header.slots cells.slots.items
