-- The slots that go and their neighbours tell the cells of an unlink.
use Rattle.std.proofs.Common.{◌≡◌, ℕ, Bool, cond, List, [], ◌∷◌, ◌++◌, map, Option, Some, None, refl, sym, ap, ◌∙◌, ◌&&◌}
use Rattle.std.specs.Prelude.{is_none, unwrap_or, fold}
use Rattle.std.proofs.lemmas.List.Sums.{fold-append}
use Rattle.px_cells.specs.declared.header.Header.{Header}
use Rattle.px_chain.specs.declared.chain.Linked.{Linked}
use Rattle.px_chain.specs.Links.{Parts, by_number, content_of, first_or, freed, is_empty, placed, relinked, row_of, unlink_cells, unlinked_header, unlinked_pointer, unlinked_slots}
use Rattle.px_chain.specs.Near.{first_number, last_linked, led_to, near_cells, near_header, near_of, near_pointer, near_slots, pointer_to}
use Rattle.px_chain.specs.Table.{Content}

last_relinked : (before : List Linked) (next : ℕ) → led_to next (last_linked before) ≡ relinked before next
last_relinked [] next = refl
last_relinked (last ∷ []) next = refl
last_relinked (first ∷ (second ∷ others)) next = last_relinked (second ∷ others) next

first_is : (behind : List Linked) → unwrap_or (first_number behind) 0 ≡ first_or behind 0
first_is [] = refl
first_is (first ∷ others) = refl

none_before : (before : List Linked) → is_none (last_linked before) ≡ is_empty before
none_before [] = refl
none_before (last ∷ []) = refl
none_before (first ∷ (second ∷ others)) = none_before (second ∷ others)

none_behind : (behind : List Linked) → is_none (first_number behind) ≡ is_empty behind
none_behind [] = refl
none_behind (first ∷ others) = refl

abbrev header_if : Header → List Linked → Bool → Header
header_if header gone emptied = record header { free_slot = first_or gone header.free_slot; free_row = cond emptied (row_of gone) header.free_row }

pub header_told : (header : Header) (parts : Parts) → near_header header (near_of parts) ≡ unlinked_header header parts
header_told header parts =
    ap (λ (b : Bool). header_if header parts.gone (b && is_none (first_number parts.behind))) (none_before parts.before)
    ∙ ap (λ (b : Bool). header_if header parts.gone (is_empty parts.before && b)) (none_behind parts.behind)

pub slots_told : (header : Header) (parts : Parts) → near_slots header (near_of parts) ≡ unlinked_slots header parts
slots_told header parts =
    ap (λ (n : ℕ). by_number (led_to n (last_linked parts.before) ++ freed parts.gone header.free_slot)) (first_is parts.behind)
    ∙ ap (λ (l : List Linked). by_number (l ++ freed parts.gone header.free_slot)) (last_relinked parts.before (first_or parts.behind 0))

pub pointer_told : (header : Header) (parts : Parts) → near_pointer header (near_of parts) ≡ unlinked_pointer header parts
pointer_told header parts =
    ap (λ (b : Bool). cond b (Content.pointer_is (row_of parts.gone) (pointer_to header (first_number parts.behind)) ∷ []) []) (none_before parts.before)
    ∙ by_behind header parts.before parts.gone parts.behind
  where
    by_behind : (header : Header) (before gone behind : List Linked)
        → cond (is_empty before) (Content.pointer_is (row_of gone) (pointer_to header (first_number behind)) ∷ []) []
        ≡ unlinked_pointer header (record { before = before; gone = gone; behind = behind })
    by_behind header before gone [] = refl
    by_behind header before gone (first ∷ others) = refl

abbrev contents : Header → List Linked → List Content → List Content
contents header changed pointer = Content.header_is header ∷ (map content_of changed ++ pointer)

pub cells_told : (header : Header) (parts : Parts) → near_cells header (near_of parts) ≡ unlink_cells header parts
cells_told header parts =
    ap (λ (h : Header). contents h (near_slots header (near_of parts)) (near_pointer header (near_of parts))) (header_told header parts)
    ∙ ap (λ (l : List Linked). contents (unlinked_header header parts) l (near_pointer header (near_of parts))) (slots_told header parts)
    ∙ ap (λ (p : List Content). contents (unlinked_header header parts) (unlinked_slots header parts) p) (pointer_told header parts)

-- ---- in order

led_placed : (next : ℕ) (linked : Option Linked) → fold placed [] (led_to next linked) ≡ led_to next linked
led_placed next None = refl
led_placed next (Some linked) = refl

-- it is in order by itself
pub led_first : (next : ℕ) (linked : Option Linked) (others : List Linked) → fold placed (led_to next linked) others ≡ by_number (led_to next linked ++ others)
led_first next linked others =
    ap (λ (l : List Linked). fold placed l others) (sym (led_placed next linked)) ∙ sym (fold-append placed [] (led_to next linked) others)
