-- A table stays sound, with each cell at its number and the keys of its rows, when versions of a row go.
use Rattle.std.proofs.Common.{◌≡◌, ◌≢◌, ◌↔◌, ℕ, ◌+◌, ◌<◌, ◌≤◌, Bool, true, false, cond, IsTrue, List, [], ◌∷◌, ◌++◌, map, take, drop, length, set, Option, Some, None, refl, sym, ap, subst, ◌∙◌, arith, ⊎_elim}
use Rattle.std.specs.Prelude.{All, IfSome}
use Rattle.std.proofs.Math.Path.{fun_ext}
use Rattle.std.proofs.lemmas.Bool.{cases_eq, eq-eqb, ne_eqb}
use Rattle.std.proofs.lemmas.List.{get_or-set_same, get_or-set_other, length-set, length-take-le, length-drop, length-map}
use Rattle.std.proofs.lemmas.List.Sums.{fold-append}
use Rattle.std.proofs.lemmas.List.Elements.{All-nil, All-cons, All-head, All-tail, All-append, All-take, All-drop, All-map, All-contains, All-weaker}
use Rattle.px_cells.specs.declared.header.Header.{Header}
use Rattle.px_cells.specs.declared.pointer.Pointer.{Pointer}
use Rattle.px_cells.specs.declared.slot.Slot.{Slot}
use Rattle.px_cells.specs.Form.{is_slot}
use Rattle.px_chain.specs.declared.chain.Linked.{Linked}
use Rattle.px_chain.specs.declared.unlinking.Unlinked.{Unlinked}
use Rattle.px_chain.specs.Links.{IsStored, Parts, chain_of, content_of, first_or, freed, is_emptied, parts_of, pointer_content, relinked, row_of, unlink_cells, unlinked, unlinked_header, unlinked_pointer, unlinked_slots}
use Rattle.px_chain.specs.Places.{StandsAt}
use Rattle.px_chain.specs.Sound.{IsSound, IsUsedRow, IsVariation, Layout, head_of, key_of, next_slot}
use Rattle.px_chain.specs.Table.{Content, Table, laid, overlaid}
use Rattle.px_chain.specs.Unlinked.{contents_of}
use Rattle.px_chain.proofs.Forms.{IsFormed, IsLinkStored, all_in_order, all_unlinked}
use Rattle.px_chain.proofs.Overlays.{laid_header, laid_pointers, row_of_gone}
use Rattle.px_chain.proofs.SoundLink.{head_in}
use Rattle.px_chain.proofs.Standing.{one_place}
use Rattle.px_chain.proofs.SoundUnlink.{part_keys, part_rows, part_unlinked, parts_split}
use Rattle.px_cells.specs.Unused.{free_pointer, unused_slot}
use Rattle.px_tables.specs.declared.unlinking.Unlinking.{Unlinking}
use Rattle.px_tables.specs.Held.{Cells, HasLayout, IsKept, pointer_at, slot_at, table_of}
use Rattle.px_tables.specs.Keys.{AreKeys, row_named}
use Rattle.px_tables.specs.Unlinking.{IsUnlink, IsUnlinkOf, is_given_back, parts_in, with_pointer, with_slots}
use Rattle.px_tables.proofs.Names.{cases_key}

-- ---- slots and a row pointer put at their numbers

pub length_slots : (changed : List Linked) (slots : List Slot) → length (with_slots slots changed) ≡ length slots
length_slots [] slots = refl
length_slots (l ∷ ls) slots = length_slots ls (set slots l.number l.slot) ∙ length-set slots l.number l.slot

length_pointers : (changed : Option (ℕ × Pointer)) (pointers : List Pointer) → length (with_pointer pointers changed) ≡ length pointers
length_pointers None pointers = refl
length_pointers (Some named) pointers = length-set pointers named.0 named.1

no_slot_put : (changed : List Linked) (slots : List Slot) → All (λ l. 1 ≤ l.number) changed → slot_at (with_slots slots changed) 0 ≡ slot_at slots 0
no_slot_put [] slots from = refl
no_slot_put (l ∷ ls) slots from =
    let first : 1 ≤ l.number = All-head (λ (m : Linked). 1 ≤ m.number) l ls from in
    no_slot_put ls (set slots l.number l.slot) (All-tail (λ (m : Linked). 1 ≤ m.number) l ls from)
    ∙ get_or-set_other slots l.number 0 l.slot unused_slot (λ e. absurd (omega (arith, first, e)))

no_pointer_put : (changed : Option (ℕ × Pointer)) (pointers : List Pointer) → IfSome changed (λ named. 1 ≤ named.0) → pointer_at (with_pointer pointers changed) 0 ≡ pointer_at pointers 0
no_pointer_put None pointers from = refl
no_pointer_put (Some named) pointers from = get_or-set_other pointers named.0 0 named.1 free_pointer (λ e. absurd (omega (arith, from, e)))

slots_put : (changed : List Linked) (slots : List Slot) (table : Table) → ((n : ℕ) → table.slot n ≡ slot_at slots n) → All (λ l. l.number < length slots) changed
    → (n : ℕ) → slot_at (with_slots slots changed) n ≡ (laid table (map content_of changed)).slot n
slots_put [] slots table same within n = sym (same n)
slots_put (l ∷ ls) slots table same within n =
    let first : l.number < length slots = All-head (λ (m : Linked). m.number < length slots) l ls within in
    let next : List Slot = set slots l.number l.slot in
    slots_put ls next (overlaid table (content_of l))
    (λ m. ⊎_elim
    (λ (e : m ≡ l.number). rw (eq-eqb m l.number e) (sym (ap (slot_at next) e ∙ get_or-set_same slots l.number l.slot unused_slot first)))
    (λ (ne : m ≢ l.number). rw (ne_eqb m l.number ne) (same m ∙ sym (get_or-set_other slots l.number m l.slot unused_slot ne)))
    (cases_eq m l.number))
    (subst (λ (k : ℕ). All (λ (m : Linked). m.number < k) ls) (sym (length-set slots l.number l.slot)) (All-tail (λ (m : Linked). m.number < length slots) l ls within)) n

pointers_put : (changed : Option (ℕ × Pointer)) (pointers : List Pointer) (table : Table) → ((n : ℕ) → table.pointer n ≡ pointer_at pointers n)
    → IfSome changed (λ named. named.0 < length pointers) → (n : ℕ) → pointer_at (with_pointer pointers changed) n ≡ (laid table (pointer_content changed)).pointer n
pointers_put None pointers table same within n = sym (same n)
pointers_put (Some named) pointers table same within n = sym (⊎_elim
    (λ (e : n ≡ named.0). rw (eq-eqb n named.0 e) (sym (ap (pointer_at (set pointers named.0 named.1)) e ∙ get_or-set_same pointers named.0 named.1 free_pointer within)))
    (λ (ne : n ≢ named.0). rw (ne_eqb n named.0 ne) (same n ∙ sym (get_or-set_other pointers named.0 n named.1 free_pointer ne)))
    (cases_eq n named.0))

pointer_slot : (changed : Option (ℕ × Pointer)) (table : Table) (n : ℕ) → (laid table (pointer_content changed)).slot n ≡ table.slot n
pointer_slot None table n = refl
pointer_slot (Some named) table n = refl

pointer_header : (changed : Option (ℕ × Pointer)) (table : Table) → (laid table (pointer_content changed)).header ≡ table.header
pointer_header None table = refl
pointer_header (Some named) table = refl

abbrev made : Header → (ℕ → Slot) → (ℕ → Pointer) → Table
made header slot pointer = record { header = header; slot = slot; pointer = pointer }

same_table : (a b : Table) → a.header ≡ b.header → a.slot ≡ b.slot → a.pointer ≡ b.pointer → a ≡ b
same_table a b h s p =
    ap (λ (x : Header). made x a.slot a.pointer) h ∙ ap (λ (f : ℕ → Slot). made b.header f a.pointer) s ∙ ap (λ (f : ℕ → Pointer). made b.header b.slot f) p

abbrev pub unlinked_cells : Cells → Unlinked → Cells
unlinked_cells cells unlinked = record {
  number = cells.number;
  short = cells.short;
  header = unlinked.header;
  slots = with_slots cells.slots unlinked.slots.items;
  pointers = with_pointer cells.pointers unlinked.pointer;
}

put_is_laid : (cells : Cells) (unlinked : Unlinked) → All (λ l. l.number < length cells.slots) unlinked.slots.items
    → IfSome unlinked.pointer (λ named. named.0 < length cells.pointers) → table_of (unlinked_cells cells unlinked) ≡ laid (table_of cells) (contents_of unlinked)
put_is_laid cells unlinked in_slots in_rows =
    let changed = unlinked.slots.items in
    let start : Table = made unlinked.header (slot_at cells.slots) (pointer_at cells.pointers) in
    let middle : Table = laid start (map content_of changed) in
    let whole : laid start (map content_of changed ++ pointer_content unlinked.pointer) ≡ laid middle (pointer_content unlinked.pointer) =
    fold-append overlaid start (map content_of changed) (pointer_content unlinked.pointer) in
    same_table (table_of (unlinked_cells cells unlinked)) (laid middle (pointer_content unlinked.pointer))
    (sym (pointer_header unlinked.pointer middle ∙ laid_header start changed))
    (fun_ext (λ n. slots_put changed cells.slots start (λ m. refl) in_slots n ∙ sym (pointer_slot unlinked.pointer middle n)))
    (fun_ext (λ n. pointers_put unlinked.pointer cells.pointers middle (λ m. laid_pointers start changed m) in_rows n))
    ∙ sym whole

-- ---- what the unlink changes

abbrev contents : Header → List Linked → List Content → List Content
contents header changed pointer = Content.header_is header ∷ (map content_of changed ++ pointer)

contents_same : (cells : Cells) (unlinked : Unlinked) (parts : Parts) → IsUnlinkOf cells unlinked parts → contents_of unlinked ≡ unlink_cells cells.header parts
contents_same cells unlinked parts is =
    ap (λ (h : Header). contents h unlinked.slots.items (pointer_content unlinked.pointer)) is.header
    ∙ ap (λ (s : List Linked). contents (unlinked_header cells.header parts) s (pointer_content unlinked.pointer)) is.slots
    ∙ ap (λ (p : List Content). contents (unlinked_header cells.header parts) (unlinked_slots cells.header parts) p) is.pointer

-- the first slot stands at one place
placed_at : (cells : Cells) (unlinking : Unlinking) (is : IsUnlink cells unlinking) (layout : Layout) (from : ℕ) → HasLayout cells layout
    → StandsAt (layout.chain unlinking.row) from unlinking.first → is.from ≡ from
placed_at cells unlinking is layout from sound stands =
    one_place cells.short (table_of cells) layout unlinking.row is.from from unlinking.first sound (is.stands layout sound) stands

pub contents_at : (cells : Cells) (unlinking : Unlinking) (is : IsUnlink cells unlinking) (layout : Layout) (from : ℕ) → HasLayout cells layout
    → StandsAt (layout.chain unlinking.row) from unlinking.first
    → contents_of unlinking.unlinked ≡ unlink_cells cells.header (parts_in cells layout unlinking.row from unlinking.count)
contents_at cells unlinking is layout from sound stands =
    contents_same cells unlinking.unlinked (parts_in cells layout unlinking.row is.from unlinking.count) (is.unlink layout sound)
    ∙ ap (λ (n : ℕ). unlink_cells cells.header (parts_in cells layout unlinking.row n unlinking.count)) (placed_at cells unlinking is layout from sound stands)

pointer_row : (header : Header) (before gone behind : List Linked) (changed : Option (ℕ × Pointer))
    → pointer_content changed ≡ unlinked_pointer header (record { before = before; gone = gone; behind = behind }) → IfSome changed (λ named. named.0 ≡ row_of gone)
pointer_row header before gone behind None is = tt
pointer_row header [] gone behind (Some named) is = cc
pointer_row header (x ∷ xs) gone behind (Some named) is = cc

pointer_given : (header : Header) (before gone behind : List Linked) (changed : Option (ℕ × Pointer))
    → pointer_content changed ≡ unlinked_pointer header (record { before = before; gone = gone; behind = behind })
    → is_given_back changed ≡ is_emptied (record { before = before; gone = gone; behind = behind })
pointer_given header [] gone [] None is = cc
pointer_given header [] gone [] (Some named) is =
    let p : named.1 ≡ record { used = false; head = header.free_row } = cc in rw p refl
pointer_given header [] gone (y ∷ ys) None is = refl
pointer_given header [] gone (y ∷ ys) (Some named) is =
    let p : named.1 ≡ record { used = true; head = first_or (y ∷ ys) 0 } = cc in rw p refl
pointer_given header (x ∷ xs) gone behind None is = refl
pointer_given header (x ∷ xs) gone behind (Some named) is = cc

some_gone : (chain : List ℕ) (from count : ℕ) → 1 ≤ count → from + count ≤ length chain → take count (drop from chain) ≢ []
some_gone chain from count some within e =
    let d = length-drop from chain in
    let long : length (take count (drop from chain)) ≡ count = length-take-le count (drop from chain) (omega (arith, d)) in
    let none = ap length e in
    absurd (omega (arith, none, long))

gone_row : (cells : Cells) (layout : Layout) (row from count : ℕ) → HasLayout cells layout → IsUsedRow (table_of cells) row → 1 ≤ count → from + count ≤ length (layout.chain row)
    → row_of (parts_in cells layout row from count).gone ≡ row
gone_row cells layout row from count sound used some within =
    let table = table_of cells in
    let chain = layout.chain row in
    let IsOf : ℕ → Type 0 = λ n. (table.slot n).row ≡ row in
    let all : All IsOf chain = All-weaker (IsVariation table row) IsOf (λ n v. v.its_row) chain (sound.chains row used).variations in
    ap (λ (p : Parts). row_of p.gone) (parts_split table chain from count)
    ∙ row_of_gone table row (take count (drop from chain)) (some_gone chain from count some within)
    (λ n there. All-contains IsOf (take count (drop from chain)) n (All-take IsOf count (drop from chain) (All-drop IsOf from chain all)) there)

-- what holds of the number of each slot of a chain holds of that of each that changes
module _ (Q : ℕ → Type 0) where
  abbrev OfNumber : Linked → Type 0
  OfNumber l = Q l.number

  of_freed : (front : ℕ) (slots : List Linked) → All OfNumber slots → All OfNumber (freed slots front)
  of_freed front [] all = All-nil OfNumber
  of_freed front (first ∷ others) all =
      All-cons OfNumber _ (freed others front) (All-head OfNumber first others all) (of_freed front others (All-tail OfNumber first others all))

  of_relinked : (next : ℕ) (slots : List Linked) → All OfNumber slots → All OfNumber (relinked slots next)
  of_relinked next [] all = All-nil OfNumber
  of_relinked next (last ∷ []) all = All-cons OfNumber _ [] (All-head OfNumber last [] all) (All-nil OfNumber)
  of_relinked next (first ∷ (second ∷ others)) all = of_relinked next (second ∷ others) (All-tail OfNumber first (second ∷ others) all)

  of_changed : (header : Header) (chain : List Linked) (from count : ℕ) → All OfNumber chain → All OfNumber (unlinked_slots header (parts_of chain from count))
  of_changed header chain from count all =
      let parts = parts_of chain from count in
      let r = relinked parts.before (first_or parts.behind 0) in
      let f = freed parts.gone header.free_slot in
      all_in_order OfNumber [] (r ++ f) (All-nil OfNumber)
      (All-append OfNumber r f (of_relinked (first_or parts.behind 0) parts.before (All-take OfNumber from chain all))
      (of_freed header.free_slot parts.gone (All-take OfNumber count (drop from chain) (All-drop OfNumber from chain all))))

abbrev IsWithin : (end n : ℕ) → Type 0
IsWithin end n = 1 ≤ n × n < end

numbers_within : {cells : Cells} {keys : List (List ℕ × ℕ)} (unlinking : Unlinking) → IsKept cells keys → IsUnlink cells unlinking
    → All (λ l. IsWithin (length cells.slots) l.number) unlinking.unlinked.slots.items
numbers_within {cells} unlinking kept is =
    let table = table_of cells in
    let chain = kept.layout.chain unlinking.row in
    let len = kept.slots in
    let Q : ℕ → Type 0 = IsWithin (length cells.slots) in
    let all : All Q chain = All-weaker (IsVariation table unlinking.row) Q (λ n v. let p = v.place in (p.0, omega (arith, p.1, len))) chain (kept.sound.chains unlinking.row is.used).variations in
    subst (λ (l : List Linked). All (λ m. Q m.number) l) (sym (is.unlink kept.layout kept.sound).slots)
    (of_changed Q cells.header (chain_of table chain) is.from unlinking.count (All-map (λ (m : Linked). Q m.number) (λ n. record { number = n; slot = table.slot n }) chain all))

pub slots_within : {cells : Cells} {keys : List (List ℕ × ℕ)} (unlinking : Unlinking) → IsKept cells keys → IsUnlink cells unlinking
    → All (λ l. l.number < length cells.slots) unlinking.unlinked.slots.items
slots_within {cells} unlinking kept is =
    All-weaker (λ (l : Linked). IsWithin (length cells.slots) l.number) (λ (l : Linked). l.number < length cells.slots) (λ l w. w.1) unlinking.unlinked.slots.items (numbers_within unlinking kept is)

pointer_is_row : {cells : Cells} {keys : List (List ℕ × ℕ)} (unlinking : Unlinking) → IsKept cells keys → IsUnlink cells unlinking
    → IfSome unlinking.unlinked.pointer (λ named. named.0 ≡ unlinking.row)
pointer_is_row {cells} unlinking kept is =
    let parts = parts_in cells kept.layout unlinking.row is.from unlinking.count in
    let row : row_of parts.gone ≡ unlinking.row = gone_row cells kept.layout unlinking.row is.from unlinking.count kept.sound is.used is.some (is.within kept.layout kept.sound) in
    of_row unlinking.unlinked.pointer (row_of parts.gone) unlinking.row row
    (pointer_row cells.header parts.before parts.gone parts.behind unlinking.unlinked.pointer (is.unlink kept.layout kept.sound).pointer)
  where
    of_row : (changed : Option (ℕ × Pointer)) (gone row : ℕ) → gone ≡ row → IfSome changed (λ named. named.0 ≡ gone) → IfSome changed (λ named. named.0 ≡ row)
    of_row None gone row same is = tt
    of_row (Some named) gone row same is = is ∙ same

at_row : (changed : Option (ℕ × Pointer)) (row : ℕ) (P : ℕ → Type 0) → P row → IfSome changed (λ named. named.0 ≡ row) → IfSome changed (λ named. P named.0)
at_row None row P p is = tt
at_row (Some named) row P p is = subst P (sym is) p

pub row_in : {cells : Cells} {keys : List (List ℕ × ℕ)} (unlinking : Unlinking) → IsKept cells keys → IsUnlink cells unlinking → unlinking.row < length cells.pointers
row_in unlinking kept is = let place = is.used.0 in let len = kept.pointers in omega (arith, place.1, len)

pub pointer_within : {cells : Cells} {keys : List (List ℕ × ℕ)} (unlinking : Unlinking) → IsKept cells keys → IsUnlink cells unlinking
    → IfSome unlinking.unlinked.pointer (λ named. named.0 < length cells.pointers)
pointer_within {cells} unlinking kept is =
    at_row unlinking.unlinked.pointer unlinking.row (λ n. n < length cells.pointers) (row_in unlinking kept is) (pointer_is_row unlinking kept is)

pub head_within : {cells : Cells} {keys : List (List ℕ × ℕ)} (row : ℕ) → IsKept cells keys → IsUsedRow (table_of cells) row → head_of (table_of cells) row < length cells.slots
head_within {cells} row kept used =
    let table = table_of cells in
    let c = kept.sound.chains row used in
    let v = All-contains (IsVariation table row) (kept.layout.chain row) (head_of table row) c.variations
    (head_in (next_slot table) (head_of table row) (kept.layout.chain row) c.walk c.some) in
    let place = v.place in
    let len = kept.slots in
    omega (arith, place.1, len)

-- ---- the cells over the table

pub unlaid_is : {cells : Cells} {keys : List (List ℕ × ℕ)} (unlinking : Unlinking) → IsKept cells keys → IsUnlink cells unlinking → (layout : Layout) (from : ℕ) → HasLayout cells layout
    → StandsAt (layout.chain unlinking.row) from unlinking.first
    → table_of (unlinked_cells cells unlinking.unlinked) ≡ laid (table_of cells) (unlink_cells cells.header (parts_in cells layout unlinking.row from unlinking.count))
unlaid_is {cells} unlinking kept is layout from sound stands =
    put_is_laid cells unlinking.unlinked (slots_within unlinking kept is) (pointer_within unlinking kept is)
    ∙ ap (laid (table_of cells)) (contents_at cells unlinking is layout from sound stands)

pub unlaid_layout : {cells : Cells} {keys : List (List ℕ × ℕ)} (unlinking : Unlinking) → IsKept cells keys → IsUnlink cells unlinking → (layout : Layout) (from : ℕ) → HasLayout cells layout
    → StandsAt (layout.chain unlinking.row) from unlinking.first
    → HasLayout (unlinked_cells cells unlinking.unlinked) (unlinked layout unlinking.row from unlinking.count)
unlaid_layout {cells} unlinking kept is layout from sound stands =
    let place = placed_at cells unlinking is layout from sound stands in
    subst (λ (t : Table). IsSound cells.short t (unlinked layout unlinking.row from unlinking.count)) (sym (unlaid_is unlinking kept is layout from sound stands))
    (part_unlinked cells.short (table_of cells) layout unlinking.row from unlinking.count sound is.used is.some
    (subst (λ (n : ℕ). n + unlinking.count ≤ length (layout.chain unlinking.row)) place (is.within layout sound)))

-- ---- the keys

keys_left : (table other : Table) (row : ℕ) (keys named : List (List ℕ × ℕ)) (given : Bool) → AreKeys table keys → IsUsedRow table row
    → ((q : ℕ) → IsUsedRow table q → key_of table q ≡ key_of table row → q ≡ row)
    → ((q : ℕ) → IsUsedRow other q ↔ (IsUsedRow table q × (q ≡ row → given ≡ false)))
    → ((q : ℕ) → IsUsedRow other q → key_of other q ≡ key_of table q)
    → row_named named (key_of table row) ≡ cond given 0 (row_named keys (key_of table row))
    → ((k : List ℕ) → k ≢ key_of table row → row_named named k ≡ row_named keys k) → AreKeys other named
keys_left table other row keys named given are used alone rows same at others = record {
  of_row = λ q q_used.
      let was = (rows q).0 q_used in
      ap (row_named named) (same q q_used) ∙ ⊎_elim
      (λ (e : q ≡ row). ap (λ (p : ℕ). row_named named (key_of table p)) e ∙ stays (was.1 e) ∙ sym e)
      (λ (ne : q ≢ row). others (key_of table q) (λ alike. ne (alone q was.0 alike)) ∙ are.of_row q was.0)
      (cases_eq q row);
  of_key = λ k some. ⊎_elim
      (λ (e : k ≡ key_of table row). here k some e (kept given refl))
      (λ (ne : k ≢ key_of table row).
      let is = others k ne in
      let was = are.of_key k (λ none. some (is ∙ none)) in
      let q = row_named named k in
      let q_used : IsUsedRow table q = subst (λ (p : ℕ). IsUsedRow table p) (sym is) was.0 in
      let q_key : key_of table q ≡ k = ap (key_of table) is ∙ was.1 in
      let left = (rows q).1 (q_used, λ e. absurd (ne (sym q_key ∙ ap (key_of table) e))) in
      (left, same q left ∙ q_key))
      (cases_key k (key_of table row));
}
  where
    stays : given ≡ false → row_named named (key_of table row) ≡ row
    stays left = at ∙ ap (λ (b : Bool). cond b 0 (row_named keys (key_of table row))) left ∙ are.of_row row used

    kept : (b : Bool) → given ≡ b → (row_named named (key_of table row) ≢ 0) → given ≡ false
    kept true is_given some = absurd (some (at ∙ ap (λ (b : Bool). cond b 0 (row_named keys (key_of table row))) is_given))
    kept false stays_here some = stays_here

    here : (k : List ℕ) → row_named named k ≢ 0 → k ≡ key_of table row → ((row_named named (key_of table row) ≢ 0) → given ≡ false)
        → IsUsedRow other (row_named named k) × (key_of other (row_named named k) ≡ k)
    here k some e keeps =
        let remains = keeps (λ none. some (ap (row_named named) e ∙ none)) in
        let is : row_named named k ≡ row = ap (row_named named) e ∙ stays remains in
        let left = (rows row).1 (used, λ _. remains) in
        (subst (λ (p : ℕ). IsUsedRow other p) (sym is) left, ap (key_of other) is ∙ same row left ∙ sym e)

-- ---- the whole

pub kept_unlaid : {cells : Cells} {keys : List (List ℕ × ℕ)} (named : List (List ℕ × ℕ)) (unlinking : Unlinking) → IsKept cells keys → IsUnlink cells unlinking
    → row_named named (key_of (table_of cells) unlinking.row) ≡ cond (is_given_back unlinking.unlinked.pointer) 0 (row_named keys (key_of (table_of cells) unlinking.row))
    → ((k : List ℕ) → k ≢ key_of (table_of cells) unlinking.row → row_named named k ≡ row_named keys k)
    → IsKept (unlinked_cells cells unlinking.unlinked) named
kept_unlaid {cells} {keys} named unlinking kept is at others =
    let table = table_of cells in
    let layout = kept.layout in
    let row = unlinking.row in
    let from = is.from in
    let count = unlinking.count in
    let pointer = unlinking.unlinked.pointer in
    let parts = parts_in cells layout row from count in
    let change = is.unlink layout kept.sound in
    let within = is.within layout kept.sound in
    let other = laid table (unlink_cells cells.header parts) in
    let same = unlaid_is unlinking kept is layout from kept.sound (is.stands layout kept.sound) in
    let given : is_given_back pointer ≡ is_emptied parts = pointer_given cells.header parts.before parts.gone parts.behind pointer change.pointer in
    let slots_same : unlinking.unlinked.header.slots ≡ cells.header.slots = ap (λ (h : Header). h.slots) change.header in
    let rows_same : unlinking.unlinked.header.rows ≡ cells.header.rows = ap (λ (h : Header). h.rows) change.header in
    let from_one = All-weaker (λ (l : Linked). IsWithin (length cells.slots) l.number) (λ (l : Linked). 1 ≤ l.number) (λ l w. w.0) unlinking.unlinked.slots.items (numbers_within unlinking kept is) in
    record {
      short = kept.short;
      no_slot = no_slot_put unlinking.unlinked.slots.items cells.slots from_one ∙ kept.no_slot;
      no_pointer = no_pointer_put pointer cells.pointers (at_row pointer row (λ n. 1 ≤ n) is.used.0.0 (pointer_is_row unlinking kept is)) ∙ kept.no_pointer;
      slots = length_slots unlinking.unlinked.slots.items cells.slots ∙ kept.slots ∙ ap (λ (n : ℕ). n + 1) (sym slots_same);
      pointers = length_pointers pointer cells.pointers ∙ kept.pointers ∙ ap (λ (n : ℕ). n + 1) (sym rows_same);
      layout = unlinked layout row from count;
      sound = unlaid_layout unlinking kept is layout from kept.sound (is.stands layout kept.sound);
      are_keys = subst (λ (t : Table). AreKeys t named) (sym same) (keys_left table other row keys named (is_emptied parts) kept.are_keys is.used
          (λ q q_used alike. kept.sound.keys q row q_used is.used alike)
          (λ q. part_rows cells.short table layout row from count q kept.sound is.used is.some within)
          (λ q. part_keys cells.short table layout row from count q kept.sound is.used is.some within)
          (at ∙ ap (λ (b : Bool). cond b 0 (row_named keys (key_of table row))) given) others);
    }

-- ---- what is prepared

-- the slots that change are in a form that the store may have
pub unlinked_form : {cells : Cells} {keys : List (List ℕ × ℕ)} (unlinking : Unlinking) → IsKept cells keys → IsUnlink cells unlinking
    → All (λ linked. IsTrue (is_slot cells.short linked.slot)) unlinking.unlinked.slots.items
unlinked_form {cells} unlinking kept is =
    let table = table_of cells in
    let chain = kept.layout.chain unlinking.row in
    let IsHeld : ℕ → Type 0 = λ n. IsStored cells.short (table.slot n) in
    let all : All IsHeld chain = All-weaker (IsVariation table unlinking.row) IsHeld (λ n v. record { form = kept.sound.form n v.place; used = v.used }) chain
    (kept.sound.chains unlinking.row is.used).variations in
    subst (λ (l : List Linked). All (IsFormed cells.short) l) (sym (is.unlink kept.layout kept.sound).slots)
    (all_unlinked cells.short cells.header (chain_of table chain) is.from unlinking.count
    (All-map (IsLinkStored cells.short) (λ n. record { number = n; slot = table.slot n }) chain all))

pub length_chain : (table : Table) (chain : List ℕ) → length (chain_of table chain) ≡ length chain
length_chain table chain = length-map chain (λ n. record { number = n; slot = table.slot n })
