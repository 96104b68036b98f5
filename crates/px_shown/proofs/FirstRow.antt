-- The first row of a store, linked over no cells and committed.
use Rattle.std.proofs.Common.{◌≡◌, ℕ, false, List, [], ◌∷◌, sym, ap, subst, ◌∙◌, arith, inl}
use Rattle.px_cells.specs.declared.header.Header.{Header}
use Rattle.px_cells.specs.declared.slot.Slot.{Slot}
use Rattle.px_cells.specs.declared.slot.SlotState.{SlotState}
use Rattle.px_cells.specs.declared.slot.SlotState.TheVariants as state
use Rattle.px_free.specs.Places.{next_place, slots_of, rows_of, after_taking}
use Rattle.px_chain.specs.Table.{Table}
use Rattle.px_chain.specs.Sound.{IsUsedRow, head_of, next_slot, no_layout, no_places}
use Rattle.px_chain.specs.Links.{BeginsRow, IsStored, linked}
use Rattle.px_model.specs.declared.row.Row.{Row}
use Rattle.px_model.specs.Rows.{after}
use Rattle.px_shown.specs.Tables.{Tables, Layouts, with_layout}
use Rattle.px_shown.specs.Parts.{Parts}
use Rattle.px_shown.specs.Shown.{Done, done_with, row_of, write_in, write_of, Shows}
use Rattle.px_shown.specs.Changes.{IsLink, with_link}
use Rattle.px_shown.specs.Example.{one_place}
use Rattle.px_shown.proofs.Changes.{no_cells_sound}
use Rattle.px_shown.proofs.Showing.{none_shown, link_hidden, commit_shows}
use Rattle.px_shown.proofs.Writing.{nothing_written, nothing_in_front, link_written, link_in_front}

unused : (table : Table) (row : ℕ) → table.header ≡ no_places → IsUsedRow table row → ⊥
unused table row none used = let e = ap (λ (h : Header). h.rows) none in omega (arith, e, used.0.0, used.0.1)

begins : (table : Table) (slot : Slot) → table.header ≡ no_places → slot.row ≡ 1 → slot.next ≡ 0 → BeginsRow table one_place slot
begins table slot none its_row next = record {
  slots = sym (ap (λ (h : Header). after_taking (slots_of h) (next_slot table h.free_slot)) none);
  rows = sym (ap (λ (h : Header). after_taking (rows_of h) (head_of table h.free_row)) none);
  its_row = its_row ∙ sym (ap (λ (h : Header). next_place (rows_of h)) none);
  next = next;
  its_key = λ row used same. unused table row none used;
}

link : (table : Table) (slot : Slot) → table.header ≡ no_places → slot.row ≡ 1 → slot.next ≡ 0 → IsLink table no_layout one_place slot (linked no_layout 1 1)
link table slot none its_row next = inl (
  begins table slot none its_row next,
  sym (ap (λ (h : Header). linked no_layout (next_place (slots_of h)) slot.row) none ∙ ap (λ (row : ℕ). linked no_layout 1 row) its_row),
)

put : (parts : Parts) (t : ℕ) (slot : Slot) → slot.state ≡ state.Row → after [] (write_of parts t slot ∷ []) ≡ row_of parts t slot ∷ []
put parts t slot is = ap (λ (s : SlotState). after [] (write_in parts s t slot ∷ [])) is

pub first_row : (parts : Parts) (short : ℕ) (tables : Tables) (done : Done) (t : ℕ) (slot : Slot) → ((n : ℕ) → (tables n).header ≡ no_places)
    → IsStored short slot → slot.state ≡ state.Row → slot.row ≡ 1 → slot.next ≡ 0 → done slot.xn ≡ false
    → Shows parts (with_link tables t one_place slot) (with_layout (λ n. no_layout) t (linked no_layout 1 1)) (done_with slot.xn done) (row_of parts t slot ∷ [])
first_row parts short tables done t slot none stored is its_row next not_done =
    let layouts : Layouts = λ n. no_layout in
    let sound = no_cells_sound short tables none in
    let linking = link (tables t) slot (none t) its_row next in
    let other = linked no_layout 1 1 in
    subst (λ (rows : List Row). Shows parts (with_link tables t one_place slot) (with_layout layouts t other) (done_with slot.xn done) rows) (put parts t slot is)
    (commit_shows parts (with_link tables t one_place slot) (with_layout layouts t other) done slot.xn [] (write_of parts t slot ∷ [])
    (link_in_front short tables layouts done slot.xn t one_place slot other sound stored linking not_done
    (nothing_in_front done slot.xn tables layouts (λ n row used. absurd (unused (tables n) row (none n) used))))
    (link_written parts short tables layouts [] t one_place slot other sound stored linking
    (nothing_written parts slot.xn tables layouts (λ n row used. absurd (unused (tables n) row (none n) used))))
    (link_hidden parts short tables layouts done [] t one_place slot other sound stored linking not_done (none_shown parts tables layouts done none)))
