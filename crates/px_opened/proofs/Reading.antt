-- The cells that were read of places are those of their table.
use Rattle.std.proofs.Common.{◌≡◌, ℕ, IsTrue, List, [], ◌∷◌, Option, Some, None, suc, refl, subst, sym, ap, ◌∙◌, inr}
use Rattle.std.specs.Prelude.{All, IfNone, IfSome, IsSomeAnd}
use Rattle.std.proofs.lemmas.List.Elements.{All-nil, All-cons}
use Rattle.px_cells.specs.Form.{is_slot}
use Rattle.px_cells.specs.declared.cell.CellKind.TheVariants.{Slot as ASlot}
use Rattle.px_cells.specs.declared.pointer.Pointer.{Pointer}
use Rattle.px_cells.specs.declared.slot.Slot.{Slot}
use Rattle.px_chain.specs.Sound.{IsSound, Layout}
use Rattle.px_chain.specs.Table.{Table}
use Rattle.px_laid.specs.Places.{Places}
use Rattle.px_laid.specs.Whole.{AllFrom, AreCellsOf, IsLaidPointer, IsLaidSlot}
use Rattle.px_laid.specs.declared.table.TableCells.{TableCells}
use Rattle.px_recs.specs.Place.{place_of}
use Rattle.px_recs.specs.Text.{SlotAt}
use Rattle.px_cells.specs.Unused.{free_pointer, unused_slot}
use Rattle.px_survey.specs.Cells.{table_of}
use Rattle.px_survey.specs.Flaws.{IsFirstFlaw}
use Rattle.px_survey.specs.declared.flaw.Flaw.{Flaw}
use Rattle.px_tables.specs.Held.{Cells, HasLayout, cells_from}
use Rattle.px_tables.specs.Held as held
use Rattle.px_opened.specs.Damage.{IsErrorOf, flawed_kind, flawed_number}
use Rattle.px_recs.specs.Place.{table_file}
use Rattle.px_opened.specs.Opened.{IsOpened, IsReadOf}
use Rattle.px_opened.specs.declared.error.OpenedError.{OpenedError}
use Rattle.px_opened.specs.declared.error.OpenedError.TheVariants.{Damaged}
use Rattle.px_opened.proofs.Numbers.{before, behind}

-- the table of the cells that were read
pub table_read : (short number : ℕ) (places : Places) (cells : TableCells) → AreCellsOf short places number cells
    → IsReadOf short places number (table_of cells.header cells.pointers.items cells.slots.items)
table_read short number places cells are = record {
  header = are.header;
  pointers = λ n place. before (IsLaidPointer places number) cells.header.rows cells.pointers.items n free_pointer are.pointers place.0 place.1;
  slots = λ n place. before (IsLaidSlot short places number) cells.header.slots cells.slots.items n unused_slot are.slots place.0 place.1;
}

-- and those cells in memory
held_read : (short number : ℕ) (places : Places) (cells : TableCells) → AreCellsOf short places number cells
    → IsReadOf short places number (held.table_of (cells_from number short cells.header cells.pointers.items cells.slots.items))
held_read short number places cells are = record {
  header = are.header;
  pointers = λ n place. behind (IsLaidPointer places number) cells.header.rows free_pointer cells.pointers.items n free_pointer are.pointers place.0 place.1;
  slots = λ n place. behind (IsLaidSlot short places number) cells.header.slots unused_slot cells.slots.items n unused_slot are.slots place.0 place.1;
}

form_of : (short : ℕ) (at : Option (List ℕ)) (slot : Slot) → IsSomeAnd at (λ bytes. SlotAt short bytes slot) → IsTrue (is_slot short slot)
form_of short None slot is = absurd is
form_of short (Some bytes) slot is = is.form

pub slots_formed : (short number : ℕ) (places : Places) (first : ℕ) (slots : List Slot) → AllFrom (IsLaidSlot short places number) first slots
    → All (λ slot. IsTrue (is_slot short slot)) slots
slots_formed short number places first [] all = All-nil _
slots_formed short number places first (slot ∷ slots) all =
    All-cons (λ (s : Slot). IsTrue (is_slot short s)) slot slots (form_of short (places ASlot number first) slot all.0)
    (slots_formed short number places (suc first) slots all.1)

pub opened : (short number : ℕ) (places : Places) (cells : TableCells) (table : Cells) → AreCellsOf short places number cells
    → table ≡ cells_from number short cells.header cells.pointers.items cells.slots.items
    → ((layout : Layout) → IsSound short (table_of cells.header cells.pointers.items cells.slots.items) layout → HasLayout table layout)
    → (layout : Layout) × IsSound short (table_of cells.header cells.pointers.items cells.slots.items) layout
    → IsOpened short places number table
opened short number places cells table are is keeps sound = record {
  its_number = ap (λ (c : Cells). c.number) is;
  its_short = ap (λ (c : Cells). c.short) is;
  layout = sound.0;
  opens = record {
    read = subst (λ (c : Cells). IsReadOf short places number (held.table_of c)) (sym is) (held_read short number places cells are);
    sound = subst (λ (s : ℕ). IsSound s (held.table_of table) sound.0) (ap (λ (c : Cells). c.short) is) (keeps sound.0 sound.1);
  };
}

-- ---- what a survey of them says

-- the lists that were surveyed are those of the cells
record AreListsOf (cells : TableCells) (pointers : List Pointer) (slots : List Slot) : Type 0 where
  pub pointers_are : pointers ≡ cells.pointers.items
  pub slots_are : slots ≡ cells.slots.items

same_table : (cells : TableCells) (pointers : List Pointer) (slots : List Slot) → AreListsOf cells pointers slots
    → table_of cells.header pointers slots ≡ table_of cells.header cells.pointers.items cells.slots.items
same_table cells pointers slots of =
    ap (λ (p : List Pointer). table_of cells.header p slots) of.pointers_are ∙ ap (λ (s : List Slot). table_of cells.header cells.pointers.items s) of.slots_are

pub surveyed : (short number : ℕ) (places : Places) (cells : TableCells) (pointers : List Pointer) (slots : List Slot) (flaw : Option Flaw)
    → AreCellsOf short places number cells → pointers ≡ cells.pointers.items → slots ≡ cells.slots.items → flaw ≡ None
    → ((s : ℕ) → All (λ slot. IsTrue (is_slot s slot)) slots → IfNone flaw ((layout : Layout) × IsSound s (table_of cells.header pointers slots) layout))
    → (layout : Layout) × IsSound short (table_of cells.header cells.pointers.items cells.slots.items) layout
surveyed short number places cells pointers slots flaw are pointers_are slots_are none sound =
    let formed = subst (λ (s : List Slot). All (λ slot. IsTrue (is_slot short slot)) s) (sym slots_are) (slots_formed short number places 1 cells.slots.items are.slots.each) in
    subst (λ (t : Table). (layout : Layout) × IsSound short t layout)
    (same_table cells pointers slots (record { pointers_are = pointers_are; slots_are = slots_are }))
    (subst (λ (o : Option Flaw). IfNone o ((layout : Layout) × IsSound short (table_of cells.header pointers slots) layout)) none (sound short formed))

pub flawed : (short number : ℕ) (places : Places) (cells : TableCells) (pointers : List Pointer) (slots : List Slot) (met : Option Flaw) (flaw : Flaw) (error : OpenedError)
    → AreCellsOf short places number cells → pointers ≡ cells.pointers.items → slots ≡ cells.slots.items → met ≡ Some flaw
    → IfSome met (IsFirstFlaw (table_of cells.header pointers slots))
    → error ≡ Damaged (table_file (flawed_kind flaw) number) (place_of short (flawed_kind flaw) (flawed_number flaw))
    → IsErrorOf short places number error
flawed short number places cells pointers slots met flaw error are pointers_are slots_are some first is =
    let its_first = subst (λ (o : Option Flaw). IfSome o (IsFirstFlaw (table_of cells.header pointers slots))) some first in
    subst (IsErrorOf short places number) (sym is) (record {
      what = flawed_kind flaw;
      cell = flawed_number flaw;
      damaged = inr (record {
        cells = cells;
        read = are;
        flaw = flaw;
        first = subst (λ (t : Table). IsFirstFlaw t flaw) (same_table cells pointers slots (record { pointers_are = pointers_are; slots_are = slots_are })) its_first;
        its_kind = refl;
        its_number = refl;
      });
      its_file = refl;
      its_place = refl;
    })
