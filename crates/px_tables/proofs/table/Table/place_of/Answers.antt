use Rattle.std.proofs.Common.{◌≡◌, ◌≤◌, length, vec_len, sym, ap, subst, ◌∙◌, arith}
use Rattle.px_cells.specs.declared.pointer.Pointer.{Pointer}
use Rattle.px_cells.specs.declared.slot.Slot.{Slot}
use Rattle.px_cells.specs.Unused.{free_pointer, unused_slot}
use Rattle.px_free.specs.Places.{Places, after_taking, next_place, rows_of, slots_of}
use Rattle.px_tables.specs.Held.{Cells, Held, table_of}
use Rattle.px_tables.specs.Keys.{HasNoRow, IsRowOf}
use Rattle.px_tables.specs.Linking.{IsLink}
use Rattle.px_tables.proofs.Keeping.{begins_row, new_row_within, number_within, row_front_in, slot_front_in, varies_row}
use Rattle.px_tables.proofs.Prepared.{read}
use Rattle.px_tables.proofs.table.Table.place_of.Goals as goal

pub index-requires : goal.index-requires
index-requires c =
    let len : vec_len c.self.inside.slots ≡ length c.self.inside.slots.items = c.self.inside.slots.ok.0 in
    omega (arith, len, slot_front_in c.self.invariant)

pub index-requires-2 : goal.index-requires-2
index-requires-2 c =
    let len : vec_len c.self.inside.pointers ≡ length c.self.inside.pointers.items = c.self.inside.pointers.ok.0 in
    let same = ap (λ (p : Places). p.front) c.in_ok-number.ensures.rows in
    omega (arith, len, same, row_front_in c.self.invariant)

pub returns-in-Some-clause-link : goal.returns-in-Some-clause-link
returns-in-Some-clause-link c =
    let inside = c.self.inside in
    let kept = c.self.invariant in
    let cells : Cells = record { number = inside.number; short = inside.short; header = inside.header; slots = inside.slots.items; pointers = inside.pointers.items } in
    let header = c.in_ok-number.header in
    let key = c.args.key.now in
    let row = c.in-Some.row in
    let is : IsRowOf (table_of cells) key row = subst (λ (h : Held). IsRowOf (table_of h.cells) key row) (sym c.self.view_is) c.in-Some.ensures in
    let place = is.0.0 in
    let len = kept.pointers in
    let behind = ap (λ (s : Slot). s.next) (read inside.slots.items inside.header.free_slot c.index.result.now unused_slot (slot_front_in kept) c.index.ensures) in
    let head = ap (λ (p : Pointer). p.head) (read inside.pointers.items row c.index-in-Some.result.now free_pointer (omega (arith, place.1, len)) c.index-in-Some.ensures) in
    λ slot goes. subst (λ (h : Held). IsLink (table_of h.cells) header slot) c.self.view_is
    (varies_row (table_of cells) header key row (c.in_ok-number.ensures.slots ∙ ap (after_taking (slots_of inside.header)) behind) c.in_ok-number.ensures.rows is
    slot goes.its_row (goes.its_next ∙ head) goes.its_key)

pub returns-in-Some-clause-in_slots : goal.returns-in-Some-clause-in_slots
returns-in-Some-clause-in_slots c =
    subst (λ (h : Held). c.in_ok-number.number ≤ length h.cells.slots) c.self.view_is (number_within c.in_ok-number.number c.self.invariant c.in_ok-number.ensures.slot)

pub returns-clause-link : goal.returns-clause-link
returns-clause-link c =
    let inside = c.self.inside in
    let kept = c.self.invariant in
    let cells : Cells = record { number = inside.number; short = inside.short; header = inside.header; slots = inside.slots.items; pointers = inside.pointers.items } in
    let middle = c.in_ok-number.header in
    let header = c.in_ok-row.header in
    let key = c.args.key.now in
    let row = c.in_ok-row.row in
    let none : HasNoRow (table_of cells) key = subst (λ (h : Held). HasNoRow (table_of h.cells) key) (sym c.self.view_is) c.in_default.ensures in
    let same = ap (λ (p : Places). p.front) c.in_ok-number.ensures.rows in
    let behind = ap (λ (s : Slot). s.next) (read inside.slots.items inside.header.free_slot c.index.result.now unused_slot (slot_front_in kept) c.index.ensures) in
    let head = ap (λ (p : Pointer). p.head) (read inside.pointers.items middle.free_row c.index-2.result.now free_pointer (omega (arith, row_front_in kept, same)) c.index-2.ensures) in
    λ slot goes. subst (λ (h : Held). IsLink (table_of h.cells) header slot) c.self.view_is
    (begins_row (table_of cells) middle header key row (c.in_ok-number.ensures.slots ∙ ap (after_taking (slots_of inside.header)) behind) c.in_ok-number.ensures.rows
    c.in_ok-row.ensures.slots (c.in_ok-row.ensures.rows ∙ ap (after_taking (rows_of middle)) head) c.in_ok-row.ensures.row none
    slot goes.its_row goes.its_next goes.its_key)

pub returns-clause-in_slots : goal.returns-clause-in_slots
returns-clause-in_slots c =
    subst (λ (h : Held). c.in_ok-number.number ≤ length h.cells.slots) c.self.view_is (number_within c.in_ok-number.number c.self.invariant c.in_ok-number.ensures.slot)

pub returns-clause-in_rows : goal.returns-clause-in_rows
returns-clause-in_rows c =
    subst (λ (h : Held). c.in_ok-row.row ≤ length h.cells.pointers) c.self.view_is
    (new_row_within c.in_ok-row.row c.self.invariant (c.in_ok-row.ensures.row ∙ ap next_place c.in_ok-number.ensures.rows))
