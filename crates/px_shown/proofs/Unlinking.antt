-- What is told by chains, after an unlink.
use Rattle.std.proofs.Common.{◌≡◌, ℕ, ◌+◌, ◌≤◌, ◌==◌, true, List, ◌++◌, map, take, drop, length, Option, option_map, sym, ap, subst, ◌∙◌}
use Rattle.std.specs.Prelude.{Contains}
use Rattle.std.specs.List.{take-map, drop-map}
use Rattle.std.proofs.lemmas.List.{map-append}
use Rattle.px_cells.specs.declared.slot.Slot.{Slot}
use Rattle.px_chain.specs.Sound.{IsUsedRow, key_of}
use Rattle.px_model.specs.declared.row.Row.{Row}
use Rattle.px_model.specs.declared.write.Write.{Write}
use Rattle.px_model.specs.Rows.{Key, row_at}
use Rattle.px_shown.specs.Tables.{Tables, Layouts, AreSound, slots_of_row}
use Rattle.px_shown.specs.Parts.{Parts}
use Rattle.px_shown.specs.Shown.{AreToldByChains, Done, Shows, row_shown, slot_shown, write_of}
use Rattle.px_shown.specs.Writes.{HasNoneOf, HasNoneDone, IsInFront, AreInFront, AreWritesOf}
use Rattle.px_shown.specs.Changes.{with_unlink, layouts_unlinked, left_of}
use Rattle.px_shown.proofs.Firsts.{left_covered, left_first, one_slot_one_row, shown_of}
use Rattle.px_shown.proofs.Fronts.{in_front_left}
use Rattle.px_shown.proofs.Told.{IsBlind, told_stays}
use Rattle.px_shown.proofs.Rows.{chains_of, told_by_rows, told_of_rows}
use Rattle.px_shown.proofs.Changes.{unlink_changes, unlink_stays_sound}
use Rattle.px_shown.proofs.Showing.{shown_blind}
use Rattle.px_shown.proofs.Writing.{written, last_in, written_blind, all_in_front, fronts_changed}

left_mapped : (slot : ℕ → Slot) (chain : List ℕ) (from count : ℕ) → map slot (left_of chain from count) ≡ left_of (map slot chain) from count
left_mapped slot chain from count =
    map-append slot (take from chain) (drop count (drop from chain))
    ∙ ap (λ (l : List Slot). l ++ map slot (drop count (drop from chain))) (sym (take-map slot from chain))
    ∙ ap (λ (l : List Slot). take from (map slot chain) ++ l) (sym (ap (λ (l : List Slot). drop count l) (drop-map slot from chain) ∙ drop-map slot count (drop from chain)))

unlink_told : {X : Type 0} (short : ℕ) (tables : Tables) (layouts : Layouts) (of_chain : (table : ℕ) → List Slot → Option X) (of_key : Key → Option X) (t row from count : ℕ)
    → AreSound short tables layouts → IsUsedRow (tables t) row → 1 ≤ count → from + count ≤ length ((layouts t).chain row) → IsBlind of_chain
    → of_chain t (left_of (slots_of_row (tables t) (layouts t) row) from count) ≡ of_chain t (slots_of_row (tables t) (layouts t) row)
    → AreToldByChains tables layouts of_chain of_key
    → AreToldByChains (with_unlink tables layouts t row from count) (layouts_unlinked layouts t row from count) of_chain of_key
unlink_told short tables layouts of_chain of_key t row from count sound used some within blind same told =
    let new = with_unlink tables layouts t row from count in
    let others = layouts_unlinked layouts t row from count in
    told_of_rows short new others of_chain of_key (unlink_stays_sound short tables layouts t row from count sound used some within)
    (told_stays (chains_of tables layouts) (chains_of new others) t row (key_of (tables t) row) (map (tables t).slot (left_of ((layouts t).chain row) from count)) of_chain of_key
    (unlink_changes short tables layouts t row from count sound used some within) blind
    (told_by_rows short tables layouts of_chain of_key sound told)
    (ap (of_chain t) (left_mapped (tables t).slot ((layouts t).chain row) from count) ∙ same))

pub unlink_shows : (parts : Parts) (short : ℕ) (tables : Tables) (layouts : Layouts) (done : Done) (rows : List Row) (t row from count : ℕ)
    → AreSound short tables layouts → IsUsedRow (tables t) row → 1 ≤ count → from + count ≤ length ((layouts t).chain row)
    → slot_shown done (left_of (slots_of_row (tables t) (layouts t) row) from count) ≡ slot_shown done (slots_of_row (tables t) (layouts t) row)
    → Shows parts tables layouts done rows → Shows parts (with_unlink tables layouts t row from count) (layouts_unlinked layouts t row from count) done rows
unlink_shows parts short tables layouts done rows t row from count sound used some within same shows =
    let slots = slots_of_row (tables t) (layouts t) row in
    record {
      order = shows.order;
      keys = unlink_told short tables layouts (λ n others. row_shown parts n done others) (λ key. row_at key rows) t row from count sound used some within (shown_blind parts done)
          (one_slot_one_row parts t done slots (left_of slots from count) same) shows.keys;
    }

-- ---- what may be unlinked

pub none_of_them_done : (done : Done) (slots : List Slot) (from count : ℕ) → HasNoneDone done (take count (drop from slots))
    → slot_shown done (left_of slots from count) ≡ slot_shown done slots
none_of_them_done done slots from count none = ap shown_of (left_first done slots from count none)

pub one_in_front_done : (done : Done) (slots : List Slot) (slot : Slot) (from count : ℕ) → Contains (take from slots) slot → done slot.xn ≡ true
    → slot_shown done (left_of slots from count) ≡ slot_shown done slots
one_in_front_done done slots slot from count there is = ap shown_of (left_covered done slots slot from count there is)

-- ---- what others wrote

pub unlink_written : (parts : Parts) (short : ℕ) (tables : Tables) (layouts : Layouts) (xn : ℕ) (writes : List Write) (t row from count : ℕ)
    → AreSound short tables layouts → IsUsedRow (tables t) row → 1 ≤ count → from + count ≤ length ((layouts t).chain row)
    → HasNoneOf xn (take count (drop from (slots_of_row (tables t) (layouts t) row)))
    → AreWritesOf parts xn tables layouts writes → AreWritesOf parts xn (with_unlink tables layouts t row from count) (layouts_unlinked layouts t row from count) writes
unlink_written parts short tables layouts xn writes t row from count sound used some within none wrote =
    unlink_told short tables layouts (written parts xn) (last_in writes) t row from count sound used some within (written_blind parts xn)
    (ap (option_map (write_of parts t)) (left_first (λ n. n == xn) (slots_of_row (tables t) (layouts t) row) from count none)) wrote

pub unlink_in_front : (short : ℕ) (tables : Tables) (layouts : Layouts) (done : Done) (xn : ℕ) (t row from count : ℕ)
    → AreSound short tables layouts → IsUsedRow (tables t) row → 1 ≤ count → from + count ≤ length ((layouts t).chain row)
    → AreInFront done xn tables layouts → AreInFront done xn (with_unlink tables layouts t row from count) (layouts_unlinked layouts t row from count)
unlink_in_front short tables layouts done xn t row from count sound used some within fronts n q its_used =
    let all = all_in_front short tables layouts done xn sound fronts in
    let slots = slots_of_row (tables t) (layouts t) row in
    fronts_changed done xn (chains_of tables layouts) (chains_of (with_unlink tables layouts t row from count) (layouts_unlinked layouts t row from count)) t row (key_of (tables t) row)
    (map (tables t).slot (left_of ((layouts t).chain row) from count))
    (unlink_changes short tables layouts t row from count sound used some within) all
    (subst (IsInFront done xn) (sym (left_mapped (tables t).slot ((layouts t).chain row) from count)) (in_front_left done xn slots from count (all t row))) n q
