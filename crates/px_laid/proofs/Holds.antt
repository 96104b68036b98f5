-- Places hold the tables that links and unlinks make.
use Rattle.std.proofs.Common.{◌≡◌, ◌≢◌, ℕ, ◌<◌, ◌^◌, List, [], ◌∷◌, ◌++◌, map, refl, sym, subst}
use Rattle.std.specs.List.{AllByRecursion}
use Rattle.px_cells.specs.declared.cell.CellKind.TheVariants as kind
use Rattle.px_cells.specs.declared.header.Header.{Header}
use Rattle.px_cells.specs.declared.slot.Slot.{Slot}
use Rattle.px_free.specs.Places.{next_place, slots_of}
use Rattle.px_free.specs.Places as free
use Rattle.px_recs.specs.Text.{HeaderFits, SlotFits}
use Rattle.px_chain.specs.declared.chain.Linked.{Linked}
use Rattle.px_chain.specs.Cells.{cell_of}
use Rattle.px_chain.specs.Links.{BeginsRow, IsStored, Parts, VariesRow, chain_of, content_of, link_cells, linked, parts_of, row_taken, slot_taken, unlink_cells, unlinked, unlinked_header, unlinked_pointer, unlinked_slots}
use Rattle.px_chain.specs.Sound.{IsSound, IsUsedRow, Layout}
use Rattle.px_chain.specs.Table.{Content, Table, laid, overlaid}
use Rattle.px_laid.specs.Holds.{Holds}
use Rattle.px_laid.specs.Places.{Places, laid_over}
use Rattle.px_laid.specs.Says.{ContentFits, CountsLaid}
use Rattle.px_laid.proofs.Counts as counts
use Rattle.px_laid.proofs.Fits.{unlinked_fit}
use Rattle.px_laid.proofs.Says.{says_laid, says_still}

-- ---- a link

link_fits : (short : ℕ) (table : Table) (header : Header) (slot : Slot) (behind : ℕ) → HeaderFits table.header → HeaderFits header → IsStored short slot → SlotFits slot
    → slots_of header ≡ free.after_taking (slots_of table.header) behind
    → AllByRecursion (ContentFits short) (link_cells header (next_place (slots_of table.header)) slot)
link_fits short table header slot behind old fits stored slot_fits slots = (
  fits,
  (
    (stored.form, slot_fits),
    (counts.next_fits (slots_of table.header) behind old.free_slot (subst (λ (p : free.Places). p.used < 2 ^ 32) slots fits.slots), tt),
  ),
)

pub new_row : (short number : ℕ) (table : Table) (layout : Layout) (places : Places) (header : Header) (slot : Slot)
    → IsSound short (laid table (link_cells header (next_place (slots_of table.header)) slot)) (linked (row_taken (slot_taken layout)) (next_place (slots_of table.header)) slot.row)
    → Holds short number table layout places → IsStored short slot → BeginsRow table header slot → HeaderFits header → SlotFits slot
    → Holds short number (laid table (link_cells header (next_place (slots_of table.header)) slot)) (linked (row_taken (slot_taken layout)) (next_place (slots_of table.header)) slot.row)
    (laid_over places (map (cell_of number short) (link_cells header (next_place (slots_of table.header)) slot)))
new_row short number table layout places header slot sound holds stored begins fits slot_fits = record {
  sound = sound;
  says = says_laid short number table places (link_cells header (next_place (slots_of table.header)) slot) holds.says
      (link_fits short table header slot _ holds.says.header.fits fits stored slot_fits begins.slots);
  counts = counts.new_row short number table places header slot holds.counts begins;
}

pub new_variation : (short number : ℕ) (table : Table) (layout : Layout) (places : Places) (header : Header) (slot : Slot)
    → IsSound short (laid table (link_cells header (next_place (slots_of table.header)) slot)) (linked (slot_taken layout) (next_place (slots_of table.header)) slot.row)
    → Holds short number table layout places → IsStored short slot → VariesRow table header slot → HeaderFits header → SlotFits slot
    → Holds short number (laid table (link_cells header (next_place (slots_of table.header)) slot)) (linked (slot_taken layout) (next_place (slots_of table.header)) slot.row)
    (laid_over places (map (cell_of number short) (link_cells header (next_place (slots_of table.header)) slot)))
new_variation short number table layout places header slot sound holds stored varies fits slot_fits = record {
  sound = sound;
  says = says_laid short number table places (link_cells header (next_place (slots_of table.header)) slot) holds.says
      (link_fits short table header slot _ holds.says.header.fits fits stored slot_fits varies.slots);
  counts = counts.new_variation short number table places header slot holds.counts varies;
}

-- ---- an unlink

header_behind : (table : Table) (slots : List Linked) (behind : List Content) → ((other : Table) → (laid other behind).header ≡ other.header)
    → (laid table (map content_of slots ++ behind)).header ≡ table.header
header_behind table [] behind same = same table
header_behind table (first ∷ others) behind same = header_behind (overlaid table (content_of first)) others behind same

pointer_behind : (header : Header) (before gone behind : List Linked) (other : Table)
    → (laid other (unlinked_pointer header (record { before = before; gone = gone; behind = behind }))).header ≡ other.header
pointer_behind header [] gone behind other = refl
pointer_behind header (first ∷ others) gone behind other = refl

header_unlinked : (table : Table) (header : Header) (parts : Parts) → (laid table (unlink_cells header parts)).header ≡ unlinked_header header parts
header_unlinked table header parts =
    header_behind (overlaid table (Content.header_is (unlinked_header header parts))) (unlinked_slots header parts) (unlinked_pointer header parts)
    (pointer_behind header parts.before parts.gone parts.behind)

pub unlink : (short number : ℕ) (table : Table) (layout : Layout) (places : Places) (row from count : ℕ)
    → IsSound short (laid table (unlink_cells table.header (parts_of (chain_of table (layout.chain row)) from count))) (unlinked layout row from count)
    → Holds short number table layout places → IsUsedRow table row
    → Holds short number (laid table (unlink_cells table.header (parts_of (chain_of table (layout.chain row)) from count))) (unlinked layout row from count)
    (laid_over places (map (cell_of number short) (unlink_cells table.header (parts_of (chain_of table (layout.chain row)) from count))))
unlink short number table layout places row from count sound holds used =
    let parts = parts_of (chain_of table (layout.chain row)) from count in
    let after = laid_over places (map (cell_of number short) (unlink_cells table.header parts)) in
    record {
      sound = sound;
      says = says_laid short number table places (unlink_cells table.header parts) holds.says (unlinked_fit short number table places layout row from count holds.says holds.sound used);
      counts = subst (λ (h : Header). CountsLaid after number h) (sym (header_unlinked table table.header parts)) (counts.unlinked short number table.header places parts holds.counts);
    }

-- ---- another table

pub other_table : (short number other : ℕ) (table : Table) (layout : Layout) (places : Places) (contents : List Content) → number ≢ other → Holds short number table layout places
    → Holds short number table layout (laid_over places (map (cell_of other short) contents))
other_table short number other table layout places contents away holds =
    let cells = map (cell_of other short) contents in
    record {
      sound = holds.sound;
      says = says_still short number other table places contents away holds.says;
      counts = record {
        slots = λ n low high. counts.stays cells places kind.Slot number n (holds.counts.slots n low high);
        pointers = λ n low high. counts.stays cells places kind.Pointer number n (holds.counts.pointers n low high);
      };
    }
