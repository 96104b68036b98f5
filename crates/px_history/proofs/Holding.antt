-- The change of a step that fits may stand in a frame of the log.
use Rattle.std.proofs.Common.{◌≡◌, ℕ, ◌+◌, ◌^◌, ◌<◌, ◌≤◌, ◌==◌, ◌||◌, ◌&&◌, Bool, cond, true, false, List, [], ◌∷◌, ◌++◌, map, drop, length, refl, sym, ap, subst, ◌∙◌, arith, ⊎_elim}
use Rattle.std.specs.Prelude.{All, Contains, nat_le, nat_lt, ◌⊎◌}
use Rattle.std.specs.List.{list_all}
use Rattle.std.proofs.lemmas.Bool.{and_from, or_left, eq-eqb, le-leb, lt-ltb}
use Rattle.std.proofs.lemmas.List.{length-drop, length-map, length-take-le}
use Rattle.std.proofs.lemmas.List.Elements.{All-nil, All-cons, All-head, All-tail, All-append, All-contains, All-map, All-take, All-drop}
use Rattle.std.proofs.lemmas.List.Sums.{list_all-from_AllPass}
use Rattle.px_cells.specs.Form.{is_short}
use Rattle.px_cells.specs.declared.cell.Cell.{Cell}
use Rattle.px_cells.specs.declared.cell.CellKind.TheVariants as kind
use Rattle.px_cells.specs.declared.header.Header.{Header}
use Rattle.px_cells.specs.declared.limits.TheConstants.{HEADER_SIZE, POINTER_SIZE, SLOT_HEAD_SIZE}
use Rattle.px_cells.specs.declared.pointer.Pointer.{Pointer}
use Rattle.px_cells.specs.declared.slot.Slot.{Slot}
use Rattle.px_chain.specs.Cells.{cell_of, header_cell, pointer_cell, slot_cell}
use Rattle.px_chain.specs.Links.{BeginsRow, IsStored, Rise, VariesRow, chain_of, content_of, first_or, freed, is_empty, link_cells, linked, parts_of, relinked, row_of, row_taken, slot_taken, unlink_cells, unlinked_header, unlinked_slots}
use Rattle.px_chain.specs.Sound.{IsSlot, IsSound, IsVariation, Layout}
use Rattle.px_chain.specs.Table.{Content, Table, laid}
use Rattle.px_chain.specs.declared.chain.Linked.{Linked}
use Rattle.px_chain.proofs.Forms.{IsFormed, IsLinkStored, all_in_order, all_unlinked}
use Rattle.px_chain.proofs.Orders.{cells_counted, part_rises}
use Rattle.px_chain.proofs.SoundLink.{row_begun, row_varied}
use Rattle.px_chain.proofs.Walks.{all_from, contains_first}
use Rattle.px_change.specs.Grammar.{has_cells, has_commit, is_before, is_cell, is_change, is_due, is_number, is_of_tables, is_size, is_stored, is_table, is_unlinking, may_hold, rise, rise_behind}
use Rattle.px_change.specs.Text.{cell_code}
use Rattle.px_change.specs.declared.change.Change.{Change}
use Rattle.px_change.specs.declared.limits.TheConstants.{LEAST_UNLINKING, MOST_CELLS}
use Rattle.px_recs.specs.Text.{header_text, pointer_text, slot_text}
use Rattle.px_recs.proofs.Slots.{form_lengths, slot_size}
use Rattle.px_recs.proofs.Texts.{length-header}
use Rattle.px_model.specs.declared.limits.TheConstants.{MOST_TABLES, STORED_NUMBERS_END}
use Rattle.px_shown.specs.Changes.{taken_slot}
use Rattle.px_shown.specs.Tables.{AreSound}
use Rattle.px_shown.proofs.Rows.{chained}
use Rattle.px_history.specs.Fitting.{FitsFrame, HasRoomFor, IsStoredNumber, IsTable, IsWritten, MoveFits, PlacesFit, PutFits}
use Rattle.px_history.specs.Store.{Store}
use Rattle.px_history.specs.Steps.{IsStep, MayPut, MayUnlink, Step}
use Rattle.px_history.specs.Written.{IsChangeOf, IsMarkOf, change_of}
use Rattle.px_shown.specs.Moves.{MayMove, moved_slot}
use Rattle.px_change.specs.declared.change.ChangeKind.{ChangeKind}
use Rattle.px_change.specs.declared.change.ChangeKind.TheVariants as changes
use Rattle.px_shown.specs.Parts.{Parts}

-- ---- a cell

-- the cell is one of the grammar, in a store with so many tables
abbrev IsHeld : (short tables : ℕ) → Cell → Type 0
IsHeld short tables cell = (is_cell short cell ≡ true) × (is_of_tables tables cell ≡ true)

-- the table of the cells is one of the store
record IsOfStore (tables t : ℕ) : Type 0 where
  pub its : is_table t ≡ true
  pub within : nat_le t tables ≡ true

its_table : (tables t : ℕ) → tables ≤ MOST_TABLES → IsTable tables t → IsOfStore tables t
its_table tables t few is = record {
  its = and_from (nat_le 1 t) (nat_le t MOST_TABLES) (le-leb 1 t is.0) (le-leb t MOST_TABLES (let w = is.1 in omega (arith, few, w)));
  within = le-leb t tables is.1;
}

numbered : (n : ℕ) → 1 ≤ n → n < 2 ^ 32 → (nat_le 1 n && nat_lt n (2 ^ 32)) ≡ true
numbered n some small = and_from (nat_le 1 n) (nat_lt n (2 ^ 32)) (le-leb 1 n some) (lt-ltb n (2 ^ 32) small)

header_held : (short tables t : ℕ) (header : Header) → IsOfStore tables t → IsHeld short tables (header_cell t header)
header_held short tables t header table =
    (and_from (is_table t) (is_size short kind.Header (length (header_text header))) table.its (eq-eqb (length (header_text header)) HEADER_SIZE (length-header header)), table.within)

slot_held : (short tables t n : ℕ) (slot : Slot) → is_short short ≡ true → IsOfStore tables t → IsFormed short (record { number = n; slot = slot }) → 1 ≤ n → n < 2 ^ 32
    → IsHeld short tables (slot_cell t short n slot)
slot_held short tables t n slot may table form some small =
    let lengths = form_lengths short slot form in
    let size : length (slot_text short slot) ≡ SLOT_HEAD_SIZE + short = slot_size short slot lengths.key_to (let l = lengths.short_to in omega (arith, l)) in (
      and_from (is_table t) (is_number kind.Slot n && is_size short kind.Slot (length (slot_text short slot))) table.its
          (and_from (is_number kind.Slot n) (is_size short kind.Slot (length (slot_text short slot))) (numbered n some small)
          (and_from (is_short short) (length (slot_text short slot) == SLOT_HEAD_SIZE + short) may (eq-eqb (length (slot_text short slot)) (SLOT_HEAD_SIZE + short) size))),
      table.within,
    )

length-pointer : (pointer : Pointer) → length (pointer_text pointer) ≡ POINTER_SIZE
unfolding pointer_text
length-pointer pointer = refl

pointer_held : (short tables t n : ℕ) (pointer : Pointer) → IsOfStore tables t → 1 ≤ n → n < 2 ^ 32 → IsHeld short tables (pointer_cell t n pointer)
pointer_held short tables t n pointer table some small = (
  and_from (is_table t) (is_number kind.Pointer n && is_size short kind.Pointer (length (pointer_text pointer))) table.its
      (and_from (is_number kind.Pointer n) (is_size short kind.Pointer (length (pointer_text pointer))) (numbered n some small)
      (eq-eqb (length (pointer_text pointer)) POINTER_SIZE (length-pointer pointer))),
  table.within,
)

-- ---- a change

stored : (xn : ℕ) → IsStoredNumber xn → is_stored xn ≡ true
stored xn fits = and_from (nat_le 1 xn) (nat_lt xn STORED_NUMBERS_END) (le-leb 1 xn fits.0) (lt-ltb xn STORED_NUMBERS_END fits.1)

held : (tables frame short : ℕ) (change : Change) → is_stored change.xn ≡ true → has_commit change.kind change.commit ≡ true → has_cells change.kind change.cells ≡ true
    → All (IsHeld short tables) change.cells → rise change.cells ≡ true → is_due frame change.kind change.commit ≡ true → may_hold tables frame short change ≡ true
unfolding may_hold is_change
held tables frame short change its_xn commit cells all up due =
    let in_grammar = list_all (is_cell short) change.cells in
    let in_store = list_all (is_of_tables tables) change.cells in
    let each = list_all-from_AllPass (is_cell short) change.cells (λ k d within. (all k d within).0) in
    let each_of = list_all-from_AllPass (is_of_tables tables) change.cells (λ k d within. (all k d within).1) in
    and_from (is_change short change) (in_store && is_due frame change.kind change.commit)
    (and_from (is_stored change.xn) (has_commit change.kind change.commit && (has_cells change.kind change.cells && (in_grammar && rise change.cells))) its_xn
    (and_from (has_commit change.kind change.commit) (has_cells change.kind change.cells && (in_grammar && rise change.cells)) commit
    (and_from (has_cells change.kind change.cells) (in_grammar && rise change.cells) cells
    (and_from in_grammar (rise change.cells) each up))))
    (and_from in_store (is_due frame change.kind change.commit) each_of due)

-- ---- a link

-- the places of a link
record IsPlaced (header : Header) (number row : ℕ) : Type 0 where
  pub slot_some : 1 ≤ number
  pub slot_within : number ≤ header.slots
  pub row_some : 1 ≤ row
  pub row_within : row ≤ header.rows

places_linked : (short : ℕ) (table : Table) (layout : Layout) (header : Header) (number : ℕ) (slot : Slot)
    → IsSound short (laid table (link_cells header number slot)) (linked layout number slot.row) → IsPlaced header number slot.row
places_linked short table layout header number slot sound =
    let new = linked layout number slot.row in
    let there : Contains (new.chain slot.row) number = rw (eq-eqb slot.row slot.row refl) (contains_first number (layout.chain slot.row)) in
    let c = chained short (laid table (link_cells header number slot)) new slot.row number sound there in
    record { slot_some = c.1.place.0; slot_within = c.1.place.1; row_some = c.0.0.0; row_within = c.0.0.1 }

places_put : (short : ℕ) (table : Table) (layout : Layout) (header : Header) (slot : Slot) → IsSound short table layout → IsStored short slot
    → BeginsRow table header slot ⊎ VariesRow table header slot → IsPlaced header (taken_slot table) slot.row
places_put short table layout header slot sound its_form link = ⊎_elim
    (λ (begins : BeginsRow table header slot).
    places_linked short table (row_taken (slot_taken layout)) header (taken_slot table) slot (row_begun short table layout header slot sound its_form begins))
    (λ (varies : VariesRow table header slot).
    places_linked short table (slot_taken layout) header (taken_slot table) slot (row_varied short table layout header slot sound its_form varies))
    link

put_held : (short tables frame : ℕ) (store : Store) (t : ℕ) (header : Header) (slot : Slot) → is_short short ≡ true → tables ≤ MOST_TABLES → AreSound short store.tables store.layouts
    → MayPut short store t header slot → IsStoredNumber slot.xn → PutFits tables t header slot → may_hold tables frame short (change_of short store (Step.put t header slot)) ≡ true
put_held short tables frame store t header slot may few sound step xn fits =
    let number = taken_slot (store.tables t) in
    let table = its_table tables t few fits.table in
    let p = places_put short (store.tables t) (store.layouts t) header slot (sound t) step.stored step.link in
    let head : Pointer = record { used = true; head = number } in
    let h = header_cell t header in
    let s = slot_cell t short number slot in
    let r = pointer_cell t slot.row head in
    let one = p.slot_within in
    let two = p.row_within in
    let slots = fits.places.slots in
    let rows = fits.places.rows in
    held tables frame short (change_of short store (Step.put t header slot)) (stored slot.xn xn) refl refl
    (All-cons (IsHeld short tables) h (s ∷ r ∷ []) (header_held short tables t header table)
    (All-cons (IsHeld short tables) s (r ∷ []) (slot_held short tables t number slot may table step.stored.form p.slot_some (omega (arith, one, slots)))
    (All-cons (IsHeld short tables) r [] (pointer_held short tables t slot.row head table p.row_some (omega (arith, two, rows))) (All-nil (IsHeld short tables)))))
    (and_from (is_before h s) (is_before s r && true) (and_from (t == t) true (eq-eqb t t refl) refl)
    (and_from (is_before s r) true (and_from (t == t) true (eq-eqb t t refl) refl) refl))
    refl

-- ---- an unlink

abbrev linked_cell : (t short : ℕ) → Linked → Cell
linked_cell t short linked = slot_cell t short linked.number linked.slot

slot_behind : (t short : ℕ) (a b : Linked) → a.number < b.number → is_before (linked_cell t short a) (linked_cell t short b) ≡ true
slot_behind t short a b less = and_from (t == t) (nat_lt a.number b.number) (eq-eqb t t refl) (lt-ltb a.number b.number less)

-- the row pointer's cell, where there is one
abbrev pointer_if : Bool → ℕ → Pointer → List Content
pointer_if some n pointer = cond some (Content.pointer_is n pointer ∷ []) []

slots_rise : (t short : ℕ) (before : Cell) (slots : List Linked) (some : Bool) (n : ℕ) (pointer : Pointer) → before.table ≡ t → nat_lt (cell_code before.what) 3 ≡ true
    → All (λ (l : Linked). is_before before (linked_cell t short l) ≡ true) slots → Rise slots
    → rise_behind before (map (cell_of t short) (map content_of slots ++ pointer_if some n pointer)) ≡ true
slots_rise t short before [] true n pointer same below firsts up =
    let codes = nat_lt (cell_code before.what) 3 in
    and_from (is_before before (pointer_cell t n pointer)) true
    (and_from (before.table == t) (codes || ((cell_code before.what == 3) && nat_lt before.number n)) (eq-eqb before.table t same) (or_left codes ((cell_code before.what == 3) && nat_lt before.number n) below)) refl
slots_rise t short before [] false n pointer same below firsts up = refl
slots_rise t short before (first ∷ others) some n pointer same below firsts up =
    let next = linked_cell t short first in
    and_from (is_before before next) (rise_behind next (map (cell_of t short) (map content_of others ++ pointer_if some n pointer)))
    (All-head (λ (l : Linked). is_before before (linked_cell t short l) ≡ true) first others firsts)
    (slots_rise t short next others some n pointer refl refl
    (all_from (λ (l : Linked). is_before next (linked_cell t short l) ≡ true) others
    (λ l there. slot_behind t short first l (All-contains (λ (other : Linked). first.number < other.number) others l up.0 there))) up.1)

-- ---- its numbers

abbrev IsNumbered : (P : ℕ → Type 0) → Linked → Type 0
IsNumbered P linked = P linked.number

freed_numbers : (P : ℕ → Type 0) (slots : List Linked) (front : ℕ) → All (IsNumbered P) slots → All (IsNumbered P) (freed slots front)
freed_numbers P [] front all = All-nil (IsNumbered P)
freed_numbers P (first ∷ others) front all =
    All-cons (IsNumbered P) _ (freed others front) (All-head (IsNumbered P) first others all) (freed_numbers P others front (All-tail (IsNumbered P) first others all))

relinked_numbers : (P : ℕ → Type 0) (slots : List Linked) (next : ℕ) → All (IsNumbered P) slots → All (IsNumbered P) (relinked slots next)
relinked_numbers P [] next all = All-nil (IsNumbered P)
relinked_numbers P (last ∷ []) next all = All-cons (IsNumbered P) _ [] (All-head (IsNumbered P) last [] all) (All-nil (IsNumbered P))
relinked_numbers P (first ∷ (second ∷ others)) next all = relinked_numbers P (second ∷ others) next (All-tail (IsNumbered P) first (second ∷ others) all)

unlinked_numbers : (P : ℕ → Type 0) (header : Header) (chain : List Linked) (from count : ℕ) → All (IsNumbered P) chain
    → All (IsNumbered P) (unlinked_slots header (parts_of chain from count))
unlinked_numbers P header chain from count all =
    let parts = parts_of chain from count in
    let r = relinked parts.before (first_or parts.behind 0) in
    let f = freed parts.gone header.free_slot in
    all_in_order (IsNumbered P) [] (r ++ f) (All-nil (IsNumbered P))
    (All-append (IsNumbered P) r f (relinked_numbers P parts.before (first_or parts.behind 0) (All-take (IsNumbered P) from chain all))
    (freed_numbers P parts.gone header.free_slot (All-take (IsNumbered P) count (drop from chain) (All-drop (IsNumbered P) from chain all))))

abbrev IsOfRow : ℕ → Linked → Type 0
IsOfRow row linked = linked.slot.row ≡ row

first_row : (row : ℕ) (slots : List Linked) → All (IsOfRow row) slots → 1 ≤ length slots → row_of slots ≡ row
first_row row [] all some = absurd (omega (arith, some))
first_row row (first ∷ others) all some = All-head (IsOfRow row) first others all

-- ---- all of it

pointer_all : (P : Content → Type 0) (some : Bool) (n : ℕ) (pointer : Pointer) → P (Content.pointer_is n pointer) → All P (pointer_if some n pointer)
pointer_all P true n pointer is = All-cons P (Content.pointer_is n pointer) [] is (All-nil P)
pointer_all P false n pointer is = All-nil P

abbrev link_at : Table → ℕ → Linked
link_at table n = record { number = n; slot = table.slot n }

-- the cells may be those of a change that unlinks
record AreUnlinking (short tables : ℕ) (cells : List Cell) : Type 0 where
  pub many : is_unlinking cells ≡ true
  pub each : All (IsHeld short tables) cells
  pub up : rise cells ≡ true

unlink_cells_held : (short tables : ℕ) (store : Store) (t row from count : ℕ) → is_short short ≡ true → tables ≤ MOST_TABLES → AreSound short store.tables store.layouts
    → MayUnlink store t row from count → IsTable tables t → PlacesFit (store.tables t).header → HasRoomFor count
    → AreUnlinking short tables (change_of short store (Step.unlink t row from count)).cells
unlink_cells_held short tables store t row from count may few sound step is fits room =
    let table = store.tables t in
    let places = (store.layouts t).chain row in
    let chain = chain_of table places in
    let parts = parts_of chain from count in
    let slots = unlinked_slots table.header parts in
    let header = unlinked_header table.header parts in
    let number = row_of parts.gone in
    let pointer : Pointer = cond (is_empty parts.behind) (record { used = false; head = table.header.free_row }) (record { used = true; head = first_or parts.behind 0 }) in
    let some = is_empty parts.before in
    let cells = unlink_cells table.header parts in
    let ok = its_table tables t few is in
    let variations : All (IsVariation table row) places = ((sound t).chains row step.used).variations in
    let variation : (n : ℕ) → Contains places n → IsVariation table row n = λ n there. All-contains (IsVariation table row) places n variations there in
    let forms = all_unlinked short table.header chain from count (All-map (IsLinkStored short) (link_at table) places
    (all_from (λ n. IsStored short (table.slot n)) places (λ n there. let v = variation n there in record { form = (sound t).form n v.place; used = v.used }))) in
    let numbers = unlinked_numbers (IsSlot table) table.header chain from count (All-map (IsNumbered (IsSlot table)) (link_at table) places
    (all_from (IsSlot table) places (λ n there. (variation n there).place))) in
    let rows = All-map (IsOfRow row) (link_at table) places (all_from (λ n. (table.slot n).row ≡ row) places (λ n there. (variation n there).its_row)) in
    let many : length chain ≡ length places = length-map places (link_at table) in
    let within : from + count ≤ length chain = (let w = step.within in omega (arith, w, many)) in
    let goes : length parts.gone ≡ count = length-take-le count (drop from chain) (let l = length-drop from chain in omega (arith, l, within)) in
    let its_row : number ≡ row = first_row row parts.gone (All-take (IsOfRow row) count (drop from chain) (All-drop (IsOfRow row) from chain rows)) (let s = step.some in omega (arith, goes, s)) in
    let counted = cells_counted table.header chain from count within in
    let length_is = length-map cells (cell_of t short) in
    let least = step.some in
    let P : Content → Type 0 = λ content. IsHeld short tables (cell_of t short content) in
    record {
      many = and_from (nat_le LEAST_UNLINKING (length (map (cell_of t short) cells))) (nat_le (length (map (cell_of t short) cells)) MOST_CELLS)
          (le-leb LEAST_UNLINKING (length (map (cell_of t short) cells)) (omega (arith, length_is, counted, least)))
          (le-leb (length (map (cell_of t short) cells)) MOST_CELLS (omega (arith, length_is, counted, room)));
      each = All-map (IsHeld short tables) (cell_of t short) cells
          (All-cons P (Content.header_is header) (map content_of slots ++ pointer_if some number pointer) (header_held short tables t header ok)
          (All-append P (map content_of slots) (pointer_if some number pointer)
          (All-map P content_of slots (all_from (λ (l : Linked). P (content_of l)) slots (λ l there.
          let p = All-contains (IsNumbered (IsSlot table)) slots l numbers there in
          let low = p.1 in
          let high = fits.slots in
          slot_held short tables t l.number l.slot may ok (All-contains (IsFormed short) slots l forms there) p.0 (omega (arith, low, high)))))
          (pointer_all P some number pointer (let low = step.used.0 in let high = fits.rows in
          pointer_held short tables t number pointer ok (omega (arith, its_row, low.0)) (omega (arith, its_row, low.1, high))))));
      up = slots_rise t short (header_cell t header) slots some number pointer refl refl
          (all_from (λ (l : Linked). is_before (header_cell t header) (linked_cell t short l) ≡ true) slots (λ l there. and_from (t == t) true (eq-eqb t t refl) refl))
          (part_rises short table (store.layouts t) row from count (sound t));
    }

same_change : (change : Change) (k : ChangeKind) (commit : ℕ) (cells : List Cell) → change.kind ≡ k → change.commit ≡ commit → change.cells ≡ cells
    → change ≡ record { kind = k; xn = change.xn; commit = commit; cells = cells }
same_change change k commit cells its_kind its_commit its_cells =
    ap (λ (x : ChangeKind). record change { kind = x }) its_kind
    ∙ ap (λ (n : ℕ). record change { kind = k; commit = n }) its_commit
    ∙ ap (λ (l : List Cell). record change { kind = k; commit = commit; cells = l }) its_cells

-- an unlink's change, whether it is the opening's or the sweeper's
unlink_held : (tables frame short : ℕ) (change : Change) (cells : List Cell) → IsStoredNumber change.xn → (change.kind ≡ changes.Tidy) ⊎ (change.kind ≡ changes.Sweep)
    → change.cells ≡ cells → change.commit ≡ 0 → AreUnlinking short tables cells → may_hold tables frame short change ≡ true
unlink_held tables frame short change cells xn marked its_cells its_commit are = ⊎_elim
    (λ (tidy : change.kind ≡ changes.Tidy). subst (λ (c : Change). may_hold tables frame short c ≡ true) (sym (same_change change changes.Tidy 0 cells tidy its_commit its_cells))
    (held tables frame short (record { kind = changes.Tidy; xn = change.xn; commit = 0; cells = cells }) (stored change.xn xn) refl are.many are.each are.up refl))
    (λ (sweep : change.kind ≡ changes.Sweep). subst (λ (c : Change). may_hold tables frame short c ≡ true) (sym (same_change change changes.Sweep 0 cells sweep its_commit its_cells))
    (held tables frame short (record { kind = changes.Sweep; xn = change.xn; commit = 0; cells = cells }) (stored change.xn xn) refl are.many are.each are.up refl))
    marked

-- ---- a move

move_held : (logs : Parts) (short tables frame : ℕ) (store : Store) (t number log place : ℕ) → is_short short ≡ true → tables ≤ MOST_TABLES → AreSound short store.tables store.layouts
    → MayMove logs short store.tables store.layouts t number log place → IsStoredNumber ((store.tables t).slot number).xn → MoveFits tables t number log place
    → may_hold tables frame short (change_of short store (Step.move t number log place)) ≡ true
move_held logs short tables frame store t number log place may few sound step xn fits =
    let slot = moved_slot ((store.tables t).slot number) log place in
    let cell = slot_cell t short number slot in
    let there = chained short (store.tables t) (store.layouts t) step.row number (sound t) step.linked in
    held tables frame short (change_of short store (Step.move t number log place)) (stored slot.xn xn) refl refl
    (All-cons (IsHeld short tables) cell [] (slot_held short tables t number slot may (its_table tables t few fits.table) step.stored.form there.1.place.0 fits.its_slot)
    (All-nil (IsHeld short tables))) refl refl

-- ---- all of them

step_held : (logs : Parts) (short tables frame : ℕ) (store : Store) (step : Step) (change : Change) → is_short short ≡ true → tables ≤ MOST_TABLES → AreSound short store.tables store.layouts
    → IsStep logs short store step → IsMarkOf step short store change → change.cells ≡ (change_of short store step).cells → change.commit ≡ (change_of short store step).commit
    → IsStoredNumber change.xn → IsWritten tables step → FitsFrame frame store step → may_hold tables frame short change ≡ true
step_held logs short tables frame store (Step.put t header slot) change may few sound step mark cells commit xn written fits =
    subst (λ (c : Change). may_hold tables frame short c ≡ true) (sym mark)
    (put_held short tables frame store t header slot may few sound step (subst (λ (c : Change). IsStoredNumber c.xn) mark xn) written)
step_held logs short tables frame store (Step.commit by number) change may few sound step mark cells commit xn written fits =
    subst (λ (c : Change). may_hold tables frame short c ≡ true) (sym mark)
    (held tables frame short (change_of short store (Step.commit by number)) (stored by (subst (λ (c : Change). IsStoredNumber c.xn) mark xn))
    (and_from (nat_le 1 number) (nat_lt number (2 ^ 64)) (le-leb 1 number fits.some) (lt-ltb number (2 ^ 64) fits.small)) refl (All-nil (IsHeld short tables)) refl
    (le-leb number (frame + 1) fits.due))
step_held logs short tables frame store (Step.rollback by) change may few sound step mark cells commit xn written fits =
    subst (λ (c : Change). may_hold tables frame short c ≡ true) (sym mark)
    (held tables frame short (change_of short store (Step.rollback by)) (stored by (subst (λ (c : Change). IsStoredNumber c.xn) mark xn)) refl refl (All-nil (IsHeld short tables)) refl refl)
step_held logs short tables frame store (Step.unlink t row from count) change may few sound step mark cells commit xn written fits =
    unlink_held tables frame short change (change_of short store (Step.unlink t row from count)).cells xn mark cells commit
    (unlink_cells_held short tables store t row from count may few sound step written fits.0 fits.1)
step_held logs short tables frame store (Step.move t number log place) change may few sound step mark cells commit xn written fits =
    subst (λ (c : Change). may_hold tables frame short c ≡ true) (sym mark)
    (move_held logs short tables frame store t number log place may few sound step (subst (λ (c : Change). IsStoredNumber c.xn) mark xn) written)

pub change_held : (logs : Parts) (short tables frame : ℕ) (store : Store) (step : Step) (change : Change) → is_short short ≡ true → tables ≤ MOST_TABLES → AreSound short store.tables store.layouts
    → IsStep logs short store step → IsChangeOf short store step change → IsStoredNumber change.xn → IsWritten tables step → FitsFrame frame store step
    → may_hold tables frame short change ≡ true
change_held logs short tables frame store step change may few sound follows is xn written fits =
    step_held logs short tables frame store step change may few sound follows is.mark is.cells is.commit xn written fits
