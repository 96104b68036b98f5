-- A table stays sound, with each cell at its number and the keys of its rows, when a version is laid over it.
use Rattle.std.proofs.Common.{◌≡◌, ◌≢◌, ℕ, ◌+◌, ◌<◌, ◌≤◌, true, IsTrue, List, [], drop, length, refl, sym, ap, subst, ◌∙◌, arith, inl, inr, ⊎_elim}
use Rattle.std.specs.Prelude.{Contains, ◌==◌, if◌then◌else◌}
use Rattle.std.proofs.Math.Path.{fun_ext}
use Rattle.std.proofs.lemmas.Bool.{cases_eq, false≢true}
use Rattle.std.proofs.lemmas.List.Elements.{All-contains}
use Rattle.px_cells.specs.declared.header.Header.{Header}
use Rattle.px_cells.specs.declared.pointer.Pointer.{Pointer}
use Rattle.px_cells.specs.declared.slot.Slot.{Slot}
use Rattle.px_cells.specs.Form.{is_short}
use Rattle.px_free.specs.Places.{Places, after_taking, next_place, rows_of, slots_of}
use Rattle.px_chain.specs.Links.{BeginsRow, IsStored, VariesRow, link_cells, linked, row_taken, slot_taken}
use Rattle.px_chain.specs.Sound.{IsFreeList, IsFreeRow, IsFreeSlot, IsPlace, IsSlot, IsSound, IsUsedRow, IsVariation, Layout, head_of, key_of, next_slot, no_layout}
use Rattle.px_chain.specs.Table.{Table, laid}
use Rattle.px_chain.proofs.Walks.{contains_first, walk_some}
use Rattle.px_chain.proofs.FreeLists.{IsTaken, taken}
use Rattle.px_chain.proofs.SoundLink.{head_in, over_laid, row_begun, row_varied}
use Rattle.px_chain.proofs.SoundLaws.{sound_none}
use Rattle.px_cells.specs.Unused.{free_pointer, unused_slot}
use Rattle.px_tables.specs.Held.{Cells, HasLayout, IsKept, no_cells, placed, pointer_at, slot_at, table_of}
use Rattle.px_tables.specs.Keys.{AreKeys, HasNoRow, IsRowOf, entry_in, row_named}
use Rattle.px_tables.specs.Linking.{IsLink}
use Rattle.px_tables.proofs.Names.{cases_key}
use Rattle.px_tables.proofs.Numbered.{length_in, length_taken, next_some, next_within, placed_at, placed_other}

-- ---- no cells

pub kept_none : (number short : ℕ) → IsTrue (is_short short) → IsKept (no_cells number short) []
unfolding entry_in
kept_none number short is = record {
  short = is;
  no_slot = refl;
  no_pointer = refl;
  slots = refl;
  pointers = refl;
  layout = no_layout;
  sound = sound_none short (table_of (no_cells number short)) refl;
  are_keys = record {
    of_row = λ row used. (let p = used.0 in absurd (omega (arith, p.0, p.1)));
    of_key = λ key some. absurd (some refl);
  };
}

-- ---- the numbers of places

front_within : (places : Places) (next : ℕ → ℕ) (IsFree : ℕ → Type 0) (list : List ℕ) → IsFreeList places next IsFree list → places.front ≤ places.used
front_within places next IsFree list is = elim (cases_eq places.front 0) [
  | inl none ↦ omega (arith, none)
  | inr some ↦
      let s = walk_some next places.front list is.walk some in
      let there : Contains list places.front = subst (λ (l : List ℕ). Contains l places.front) (sym s.1) (contains_first places.front s.0) in
      (All-contains (λ (p : ℕ). IsPlace places p × IsFree p) list places.front is.free there).0.1
]

slot_front : (cells : Cells) (layout : Layout) → HasLayout cells layout → cells.header.free_slot ≤ cells.header.slots
slot_front cells layout sound = front_within (slots_of cells.header) (next_slot (table_of cells)) (IsFreeSlot (table_of cells)) layout.free_slots sound.free_slots

row_front : (cells : Cells) (layout : Layout) → HasLayout cells layout → cells.header.free_row ≤ cells.header.rows
row_front cells layout sound = front_within (rows_of cells.header) (head_of (table_of cells)) (IsFreeRow (table_of cells)) layout.free_rows sound.free_rows

pub slot_front_in : {cells : Cells} {keys : List (List ℕ × ℕ)} → IsKept cells keys → cells.header.free_slot < length cells.slots
slot_front_in {cells} kept = let len = kept.slots in omega (arith, slot_front cells kept.layout kept.sound, len)

pub row_front_in : {cells : Cells} {keys : List (List ℕ × ℕ)} → IsKept cells keys → cells.header.free_row < length cells.pointers
row_front_in {cells} kept = let len = kept.pointers in omega (arith, row_front cells kept.layout kept.sound, len)

pub number_within : {cells : Cells} {keys : List (List ℕ × ℕ)} (number : ℕ) → IsKept cells keys → number ≡ next_place (slots_of cells.header) → number ≤ length cells.slots
number_within {cells} number kept is =
    let next = next_within (slots_of cells.header) (slot_front cells kept.layout kept.sound) in
    let len = kept.slots in
    omega (arith, next, len, is)

pub new_row_within : {cells : Cells} {keys : List (List ℕ × ℕ)} (row : ℕ) → IsKept cells keys → row ≡ next_place (rows_of cells.header) → row ≤ length cells.pointers
new_row_within {cells} row kept is =
    let next = next_within (rows_of cells.header) (row_front cells kept.layout kept.sound) in
    let len = kept.pointers in
    omega (arith, next, len, is)

pub row_within : {cells : Cells} {keys : List (List ℕ × ℕ)} (header : Header) (slot : Slot) → IsKept cells keys → IsLink (table_of cells) header slot
    → slot.row ≤ length cells.pointers
row_within {cells} header slot kept link =
    let len = kept.pointers in
    ⊎_elim
    (λ (begins : BeginsRow (table_of cells) header slot). new_row_within slot.row kept begins.its_row)
    (λ (varies : VariesRow (table_of cells) header slot). let p = varies.its_row.0 in omega (arith, p.1, len))
    link

-- ---- which link it is

pub varies_row : (table : Table) (header : Header) (key : List ℕ) (row : ℕ) → slots_of header ≡ after_taking (slots_of table.header) (next_slot table table.header.free_slot)
    → rows_of header ≡ rows_of table.header → IsRowOf table key row
    → (slot : Slot) → slot.row ≡ row → slot.next ≡ head_of table row → slot.key ≡ key → IsLink table header slot
varies_row table header key row slots rows is slot its_row next its_key = inr (record {
  slots = slots;
  rows = rows;
  its_row = subst (λ (r : ℕ). IsUsedRow table r) (sym its_row) is.0;
  next = next ∙ ap (head_of table) (sym its_row);
  its_key = its_key ∙ sym is.1 ∙ ap (key_of table) (sym its_row);
})

pub begins_row : (table : Table) (middle header : Header) (key : List ℕ) (row : ℕ) → slots_of middle ≡ after_taking (slots_of table.header) (next_slot table table.header.free_slot)
    → rows_of middle ≡ rows_of table.header → slots_of header ≡ slots_of middle
    → rows_of header ≡ after_taking (rows_of middle) (head_of table middle.free_row) → row ≡ next_place (rows_of middle) → HasNoRow table key
    → (slot : Slot) → slot.row ≡ row → slot.next ≡ 0 → slot.key ≡ key → IsLink table header slot
begins_row table middle header key row slots kept same rows its_place none slot its_row next its_key = inl (record {
  slots = same ∙ slots;
  rows = rows ∙ ap (λ (p : Places). after_taking p (head_of table p.front)) kept;
  its_row = its_row ∙ its_place ∙ ap next_place kept;
  next = next;
  its_key = λ r used same. none r used (same ∙ its_key);
})

-- ---- the cells over the table

abbrev made : Header → (ℕ → Slot) → (ℕ → Pointer) → Table
made header slot pointer = record { header = header; slot = slot; pointer = pointer }

abbrev pub linked_cells : Cells → Header → (number : ℕ) → Slot → Cells
linked_cells cells header number slot = record {
  number = cells.number;
  short = cells.short;
  header = header;
  slots = placed cells.slots number slot;
  pointers = placed cells.pointers slot.row (record { used = true; head = number });
}

pub laid_is : (cells : Cells) (header : Header) (number : ℕ) (slot : Slot) → number ≤ length cells.slots → slot.row ≤ length cells.pointers
    → table_of (linked_cells cells header number slot) ≡ laid (table_of cells) (link_cells header number slot)
laid_is cells header number slot in_slots in_rows =
    let pointer : Pointer = record { used = true; head = number } in
    let slots : slot_at (placed cells.slots number slot) ≡ (λ n. if n == number then slot else slot_at cells.slots n) =
    fun_ext (λ n. placed_at cells.slots number n slot unused_slot in_slots) in
    let pointers : pointer_at (placed cells.pointers slot.row pointer) ≡ (λ n. if n == slot.row then pointer else pointer_at cells.pointers n) =
    fun_ext (λ n. placed_at cells.pointers slot.row n pointer free_pointer in_rows) in
    ap (λ (f : ℕ → Slot). made header f (pointer_at (placed cells.pointers slot.row pointer))) slots
    ∙ ap (λ (f : ℕ → Pointer). made header (λ n. if n == number then slot else slot_at cells.slots n) f) pointers

-- ---- the keys

-- what a link changes of rows: this one is used and has the key, all others are as they were
record IsRowChange (table other : Table) (row : ℕ) (key : List ℕ) : Type 0 where
  pub used : IsUsedRow other row
  pub its_key : key_of other row ≡ key
  pub stays : (q : ℕ) → q ≢ row → IsUsedRow table q → IsUsedRow other q
  pub was : (q : ℕ) → q ≢ row → IsUsedRow other q → IsUsedRow table q
  pub same_key : (q : ℕ) → q ≢ row → IsUsedRow table q → key_of other q ≡ key_of table q
  pub alone : (q : ℕ) → q ≢ row → IsUsedRow table q → key_of table q ≢ key

keys_changed : (table other : Table) (row : ℕ) (key : List ℕ) (keys named : List (List ℕ × ℕ)) → AreKeys table keys → IsRowChange table other row key
    → (IsUsedRow table row → key_of table row ≡ key)
    → row_named named key ≡ row → ((q : List ℕ) → q ≢ key → row_named named q ≡ row_named keys q) → AreKeys other named
keys_changed table other row key keys named are change mine at others = record {
  of_row = λ q used. ⊎_elim
      (λ (e : q ≡ row). ap (λ (p : ℕ). row_named named (key_of other p)) e ∙ ap (row_named named) change.its_key ∙ at ∙ sym e)
      (λ (ne : q ≢ row).
      let was = change.was q ne used in
      ap (row_named named) (change.same_key q ne was) ∙ others (key_of table q) (change.alone q ne was) ∙ are.of_row q was)
      (cases_eq q row);
  of_key = λ k some. ⊎_elim
      (λ (e : row_named named k ≡ row).
      (subst (λ (p : ℕ). IsUsedRow other p) (sym e) change.used, ap (key_of other) e ∙ change.its_key ∙ key_is k some e))
      (λ (ne : row_named named k ≢ row).
      let away : k ≢ key = λ same. ne (ap (row_named named) same ∙ at) in
      let is = others k away in
      let was = are.of_key k (λ none. some (is ∙ none)) in
      let used : IsUsedRow table (row_named named k) = subst (λ (p : ℕ). IsUsedRow table p) (sym is) was.0 in
      (change.stays (row_named named k) ne used, change.same_key (row_named named k) ne used ∙ ap (key_of table) is ∙ was.1))
      (cases_eq (row_named named k) row);
}
  where
    -- only the key names the row
    key_is : (k : List ℕ) → row_named named k ≢ 0 → row_named named k ≡ row → key ≡ k
    key_is k some e = ⊎_elim
        (λ (same : k ≡ key). sym same)
        (λ (away : k ≢ key).
        let is = others k away in
        let was = are.of_key k (λ none. some (is ∙ none)) in
        let mine_used : IsUsedRow table row = subst (λ (p : ℕ). IsUsedRow table p) (sym is ∙ e) was.0 in
        absurd (away (sym was.1 ∙ ap (key_of table) (sym is ∙ e) ∙ mine mine_used)))
        (cases_key k key)

-- a row's key is that of a slot that isn't the taken one
row_key : (short : ℕ) (table : Table) (layout : Layout) (header : Header) (slot : Slot) → IsSound short table layout
    → slots_of header ≡ after_taking (slots_of table.header) (next_slot table table.header.free_slot)
    → (q : ℕ) → q ≢ slot.row → IsUsedRow table q → key_of (laid table (link_cells header (next_place (slots_of table.header)) slot)) q ≡ key_of table q
row_key short table layout header slot sound slots q away used =
    let number = next_place (slots_of table.header) in
    let over = over_laid table header number slot in
    let s = taken (slots_of table.header) (slots_of header) (next_slot table) (IsFreeSlot table) layout.free_slots sound.free_slots slots in
    let c = sound.chains q used in
    let v = All-contains (IsVariation table q) (layout.chain q) (head_of table q) c.variations (head_in (next_slot table) (head_of table q) (layout.chain q) c.walk c.some) in
    let apart : head_of table q ≢ number = λ e. v.used (subst (λ (m : ℕ). IsFreeSlot table m) (sym e) (s.was_free (subst (λ (m : ℕ). IsSlot table m) e v.place))) in
    let other = laid table (link_cells header number slot) in
    ap (λ (p : Pointer). (other.slot p.head).key) (over.pointer_else q away) ∙ ap (λ (s : Slot). s.key) (over.slot_else (head_of table q) apart)

own_key : (table : Table) (header : Header) (number : ℕ) (slot : Slot) → key_of (laid table (link_cells header number slot)) slot.row ≡ slot.key
own_key table header number slot =
    let over = over_laid table header number slot in
    let other = laid table (link_cells header number slot) in
    ap (λ (p : Pointer). (other.slot p.head).key) over.pointer_at ∙ ap (λ (s : Slot). s.key) over.slot_at

begun_change : (short : ℕ) (table : Table) (layout : Layout) (header : Header) (slot : Slot) → IsSound short table layout → BeginsRow table header slot
    → IsRowChange table (laid table (link_cells header (next_place (slots_of table.header)) slot)) slot.row slot.key × (IsUsedRow table slot.row → ⊥)
begun_change short table layout header slot sound begins =
    let number = next_place (slots_of table.header) in
    let over = over_laid table header number slot in
    let t = subst (λ (p : ℕ). IsTaken (rows_of table.header) (rows_of header) p (head_of table) (IsFreeRow table) (drop 1 layout.free_rows)) (sym begins.its_row)
    (taken (rows_of table.header) (rows_of header) (head_of table) (IsFreeRow table) layout.free_rows sound.free_rows begins.rows) in (
      record {
        used = (t.itself, ap (λ (p : Pointer). p.used) over.pointer_at);
        its_key = own_key table header number slot;
        stays = λ q e used. ((used.0.0, let g = t.grows in omega (arith, used.0.1)), ap (λ (p : Pointer). p.used) (over.pointer_else q e) ∙ used.1);
        was = λ q e used. (t.old_place q used.0 e, ap (λ (p : Pointer). p.used) (sym (over.pointer_else q e)) ∙ used.1);
        same_key = row_key short table layout header slot sound begins.slots;
        alone = λ q e used. begins.its_key q used;
      },
      λ used. false≢true (sym (t.was_free used.0) ∙ used.1),
    )

varied_change : (short : ℕ) (table : Table) (layout : Layout) (header : Header) (slot : Slot) → IsSound short table layout → VariesRow table header slot
    → IsRowChange table (laid table (link_cells header (next_place (slots_of table.header)) slot)) slot.row slot.key
varied_change short table layout header slot sound varies =
    let number = next_place (slots_of table.header) in
    let over = over_laid table header number slot in
    let used : header.rows ≡ table.header.rows = ap (λ (p : Places). p.used) varies.rows in
    let same : (q : ℕ) → IsPlace (rows_of header) q → IsPlace (rows_of table.header) q = λ q in'. (in'.0, omega (arith, in'.1, used)) in
    let back : (q : ℕ) → IsPlace (rows_of table.header) q → IsPlace (rows_of header) q = λ q in'. (in'.0, omega (arith, in'.1, used)) in
    record {
      used = (back slot.row varies.its_row.0, ap (λ (p : Pointer). p.used) over.pointer_at);
      its_key = own_key table header number slot;
      stays = λ q e used. (back q used.0, ap (λ (p : Pointer). p.used) (over.pointer_else q e) ∙ used.1);
      was = λ q e used. (same q used.0, ap (λ (p : Pointer). p.used) (sym (over.pointer_else q e)) ∙ used.1);
      same_key = row_key short table layout header slot sound varies.slots;
      alone = λ q e used alike. e (sound.keys q slot.row used varies.its_row (alike ∙ varies.its_key));
    }

-- ---- the whole

-- what is laid over the cells, but for the lengths of their lists
record IsLaid (cells : Cells) (keys named : List (List ℕ × ℕ)) (header : Header) (number : ℕ) (slot : Slot) : Type 0 where
  pub layout : Layout
  pub sound : IsSound cells.short (laid (table_of cells) (link_cells header number slot)) layout
  pub are_keys : AreKeys (laid (table_of cells) (link_cells header number slot)) named
  pub slots : slots_of header ≡ after_taking (slots_of cells.header) (next_slot (table_of cells) cells.header.free_slot)
  pub pointers : length (placed cells.pointers slot.row (record { used = true; head = number })) ≡ header.rows + 1

kept_begun : (cells : Cells) (keys named : List (List ℕ × ℕ)) (header : Header) (slot : Slot) → IsKept cells keys → BeginsRow (table_of cells) header slot → IsStored cells.short slot
    → row_named named slot.key ≡ slot.row → ((q : List ℕ) → q ≢ slot.key → row_named named q ≡ row_named keys q)
    → IsLaid cells keys named header (next_place (slots_of cells.header)) slot
kept_begun cells keys named header slot kept begins stored at others =
    let table = table_of cells in
    let number = next_place (slots_of cells.header) in
    let change = begun_change cells.short table kept.layout header slot kept.sound begins in
    record {
      layout = linked (row_taken (slot_taken kept.layout)) number slot.row;
      sound = row_begun cells.short table kept.layout header slot kept.sound stored begins;
      are_keys = keys_changed table (laid table (link_cells header number slot)) slot.row slot.key keys named kept.are_keys change.0 (λ used. absurd (change.1 used)) at others;
      slots = begins.slots;
      pointers = length_taken cells.pointers (record { used = true; head = number }) (rows_of cells.header) (rows_of header) slot.row (head_of table cells.header.free_row) kept.pointers
          (row_front cells kept.layout kept.sound) begins.its_row begins.rows;
    }

kept_varied : (cells : Cells) (keys named : List (List ℕ × ℕ)) (header : Header) (slot : Slot) → IsKept cells keys → VariesRow (table_of cells) header slot → IsStored cells.short slot
    → row_named named slot.key ≡ slot.row → ((q : List ℕ) → q ≢ slot.key → row_named named q ≡ row_named keys q)
    → IsLaid cells keys named header (next_place (slots_of cells.header)) slot
kept_varied cells keys named header slot kept varies stored at others =
    let table = table_of cells in
    let number = next_place (slots_of cells.header) in
    let pointer : Pointer = record { used = true; head = number } in
    let used : header.rows ≡ cells.header.rows = ap (λ (p : Places). p.used) varies.rows in
    let place = varies.its_row.0 in
    let len = kept.pointers in
    record {
      layout = linked (slot_taken kept.layout) number slot.row;
      sound = row_varied cells.short table kept.layout header slot kept.sound stored varies;
      are_keys = keys_changed table (laid table (link_cells header number slot)) slot.row slot.key keys named kept.are_keys
          (varied_change cells.short table kept.layout header slot kept.sound varies) (λ u. sym varies.its_key) at others;
      slots = varies.slots;
      pointers = length_in cells.pointers slot.row pointer (omega (arith, place.1, len)) ∙ omega (arith, len, used);
    }

link_some : (table : Table) (header : Header) (slot : Slot) → IsLink table header slot → 0 ≢ slot.row
link_some table header slot link e = ⊎_elim
    (λ (begins : BeginsRow table header slot). next_some (rows_of table.header) (e ∙ begins.its_row))
    (λ (varies : VariesRow table header slot). let p = varies.its_row.0.0 in absurd (omega (arith, p, e)))
    link

pub kept_laid : (cells : Cells) (keys named : List (List ℕ × ℕ)) (header : Header) (number : ℕ) (slot : Slot) → IsKept cells keys → number ≡ next_place (slots_of cells.header)
    → IsLink (table_of cells) header slot → IsStored cells.short slot
    → row_named named slot.key ≡ slot.row → ((q : List ℕ) → q ≢ slot.key → row_named named q ≡ row_named keys q)
    → IsKept (linked_cells cells header number slot) named
kept_laid cells keys named header number slot kept is link stored at others =
    let first = next_place (slots_of cells.header) in
    let l : IsLaid cells keys named header number slot = subst (λ (n : ℕ). IsLaid cells keys named header n slot) (sym is)
    (⊎_elim (λ (b : BeginsRow (table_of cells) header slot). kept_begun cells keys named header slot kept b stored at others)
    (λ (v : VariesRow (table_of cells) header slot). kept_varied cells keys named header slot kept v stored at others) link) in
    let in_slots = number_within number kept is in
    let in_rows = row_within header slot kept link in
    let same = laid_is cells header number slot in_slots in_rows in
    record {
      short = kept.short;
      no_slot = placed_other cells.slots number 0 slot unused_slot in_slots (λ e. next_some (slots_of cells.header) (e ∙ is)) ∙ kept.no_slot;
      no_pointer = placed_other cells.pointers slot.row 0 (record { used = true; head = number }) free_pointer in_rows (link_some (table_of cells) header slot link) ∙ kept.no_pointer;
      slots = length_taken cells.slots slot (slots_of cells.header) (slots_of header) number (next_slot (table_of cells) cells.header.free_slot) kept.slots
          (slot_front cells kept.layout kept.sound) is l.slots;
      pointers = l.pointers;
      layout = l.layout;
      sound = subst (λ (t : Table). IsSound cells.short t l.layout) (sym same) l.sound;
      are_keys = subst (λ (t : Table). AreKeys t named) (sym same) l.are_keys;
    }

-- ---- the places that stand in chains and on free lists

pub begun_layout : (cells after : Cells) (header : Header) (number : ℕ) (slot : Slot) → table_of after ≡ laid (table_of cells) (link_cells header number slot)
    → after.short ≡ cells.short → number ≡ next_place (slots_of cells.header) → IsStored cells.short slot
    → (layout : Layout) → HasLayout cells layout → BeginsRow (table_of cells) header slot → HasLayout after (linked (row_taken (slot_taken layout)) number slot.row)
begun_layout cells after header number slot same short is stored layout sound begins =
    let table = table_of cells in
    subst (λ (s : ℕ). IsSound s (table_of after) (linked (row_taken (slot_taken layout)) number slot.row)) (sym short)
    (subst (λ (t : Table). IsSound cells.short t (linked (row_taken (slot_taken layout)) number slot.row)) (sym same)
    (subst (λ (n : ℕ). IsSound cells.short (laid table (link_cells header n slot)) (linked (row_taken (slot_taken layout)) n slot.row)) (sym is)
    (row_begun cells.short table layout header slot sound stored begins)))

pub varied_layout : (cells after : Cells) (header : Header) (number : ℕ) (slot : Slot) → table_of after ≡ laid (table_of cells) (link_cells header number slot)
    → after.short ≡ cells.short → number ≡ next_place (slots_of cells.header) → IsStored cells.short slot
    → (layout : Layout) → HasLayout cells layout → VariesRow (table_of cells) header slot → HasLayout after (linked (slot_taken layout) number slot.row)
varied_layout cells after header number slot same short is stored layout sound varies =
    let table = table_of cells in
    subst (λ (s : ℕ). IsSound s (table_of after) (linked (slot_taken layout) number slot.row)) (sym short)
    (subst (λ (t : Table). IsSound cells.short t (linked (slot_taken layout) number slot.row)) (sym same)
    (subst (λ (n : ℕ). IsSound cells.short (laid table (link_cells header n slot)) (linked (slot_taken layout) n slot.row)) (sym is)
    (row_varied cells.short table layout header slot sound stored varies)))
