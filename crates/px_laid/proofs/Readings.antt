-- The cells that are read of places that say a table are this table's.
use Rattle.std.proofs.Common.{◌≡◌, ℕ, ◌≤◌, List, replicate, refl, ap, subst, ◌∙◌, arith}
use Rattle.px_cells.specs.declared.cell.CellKind.TheVariants.{Header as AHeader, Slot as ASlot, Pointer as APointer}
use Rattle.px_cells.specs.declared.header.Header.{Header}
use Rattle.px_cells.specs.declared.limits.TheConstants.{POINTER_SIZE}
use Rattle.px_cells.specs.declared.pointer.Pointer.{Pointer}
use Rattle.px_cells.specs.declared.slot.Slot.{Slot}
use Rattle.px_recs.specs.Place.{size_of}
use Rattle.px_recs.specs.Text.{HeaderAt, PointerAt, SlotAt}
use Rattle.px_chain.specs.Table.{Table}
use Rattle.px_laid.specs.declared.table.TableCells.{TableCells}
use Rattle.px_laid.specs.declared.table.TableError.{TableError}
use Rattle.px_laid.specs.declared.table.TableError.TheVariants.{OutOfMemory, BadCell}
use Rattle.px_laid.specs.Places.{Places}
use Rattle.px_laid.specs.Says.{AreSaid, CountsLaid, Says}
use Rattle.px_laid.specs.Whole.{AreCellsOf, IsErrorOf, IsLaidPointer, IsLaidSlot}
use Rattle.px_laid.proofs.Numbers.{AllFrom-weaker}
use Rattle.px_laid.proofs.Says.{both_hold, laid_holds}

-- bytes are read in one way
pub record OneReading : Type 0 where
  pub header : (bytes : List ℕ) (a b : Header) → HeaderAt bytes a → HeaderAt bytes b → a ≡ b
  pub pointer : (bytes : List ℕ) (a b : Pointer) → PointerAt bytes a → PointerAt bytes b → a ≡ b
  pub slot : (short : ℕ) (bytes : List ℕ) (a b : Slot) → SlotAt short bytes a → SlotAt short bytes b → a ≡ b

pub cells_said : OneReading → (short number : ℕ) (table : Table) (places : Places) (cells : TableCells) → Says short number table places → AreCellsOf short places number cells → AreSaid table cells
cells_said one short number table places cells says are = record {
  header = header;
  pointers = record {
    long = are.pointers.long ∙ ap (λ (h : Header). h.rows) header;
    each = AllFrom-weaker (IsLaidPointer places number) (λ n pointer. pointer ≡ table.pointer n) same_pointer 1 cells.pointers.items are.pointers.each;
  };
  slots = record {
    long = are.slots.long ∙ ap (λ (h : Header). h.slots) header;
    each = AllFrom-weaker (IsLaidSlot short places number) (λ n slot. slot ≡ table.slot n) same_slot 1 cells.slots.items are.slots.each;
  };
}
  where
    header : cells.header ≡ table.header
    header = one.header _ cells.header table.header are.header says.header

    same_pointer : (n : ℕ) (pointer : Pointer) → IsLaidPointer places number n pointer → pointer ≡ table.pointer n
    same_pointer n pointer at =
        let both = both_hold (places APointer number n) (replicate POINTER_SIZE 0) (λ (bytes : List ℕ). PointerAt bytes pointer) (λ (bytes : List ℕ). PointerAt bytes (table.pointer n)) at (says.pointer n) in
        one.pointer both.0 pointer (table.pointer n) both.1 both.2

    same_slot : (n : ℕ) (slot : Slot) → IsLaidSlot short places number n slot → slot ≡ table.slot n
    same_slot n slot at =
        let both = both_hold (places ASlot number n) (replicate (size_of short ASlot) 0) (λ (bytes : List ℕ). SlotAt short bytes slot) (λ (bytes : List ℕ). SlotAt short bytes (table.slot n)) at (says.slot n) in
        one.slot short both.0 slot (table.slot n) both.1 both.2

pub only_memory : OneReading → (short number : ℕ) (table : Table) (places : Places) (error : TableError) → Says short number table places → CountsLaid places number table.header
    → IsErrorOf short places number error → error ≡ OutOfMemory
only_memory one short number table places OutOfMemory says counts is = refl
only_memory one short number table places (BadCell AHeader n) says counts is = absurd (is.1 table.header says.header)
only_memory one short number table places (BadCell APointer n) says counts is =
    let header = one.header _ is.header table.header is.header_at says.header in
    let low : 1 ≤ n = omega (arith, is.first.behind) in
    let high : n ≤ table.header.rows = subst (λ (h : Header). n ≤ h.rows) header is.first.within in
    absurd (is.first.without (table.pointer n) (laid_holds (places APointer number n) (replicate POINTER_SIZE 0) (λ (bytes : List ℕ). PointerAt bytes (table.pointer n)) (counts.pointers n low high) (says.pointer n)))
only_memory one short number table places (BadCell ASlot n) says counts is =
    let header = one.header _ is.header table.header is.header_at says.header in
    let low : 1 ≤ n = omega (arith, is.first.behind) in
    let high : n ≤ table.header.slots = subst (λ (h : Header). n ≤ h.slots) header is.first.within in
    absurd (is.first.without (table.slot n) (laid_holds (places ASlot number n) (replicate (size_of short ASlot) 0) (λ (bytes : List ℕ). SlotAt short bytes (table.slot n)) (counts.slots n low high) (says.slot n)))
