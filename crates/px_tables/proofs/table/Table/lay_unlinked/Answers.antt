use Rattle.std.proofs.Common.{◌≡◌, Bool, cond, List, ℕ, length, vec_len, sym, ap, subst, ◌∙◌, arith}
use Rattle.px_cells.specs.declared.pointer.Pointer.{Pointer}
use Rattle.px_cells.specs.declared.slot.Slot.{Slot}
use Rattle.px_chain.specs.Links.{unlink_cells}
use Rattle.px_chain.specs.Sound.{head_of, key_of}
use Rattle.px_chain.specs.Table.{laid}
use Rattle.px_cells.specs.Unused.{unused_slot}
use Rattle.px_tables.specs.Held.{Cells, Held, HasLayout, slot_at, table_of}
use Rattle.px_tables.specs.Keys.{row_named}
use Rattle.px_tables.specs.Unlinking.{IsUnlink, parts_in, with_slots}
use Rattle.px_tables.proofs.Prepared.{read}
use Rattle.px_tables.proofs.Unlaying.{head_within, kept_unlaid, pointer_within, slots_within, unlaid_is, unlaid_layout}
use Rattle.px_tables.proofs.Walking.{read_pointer}
use Rattle.px_tables.proofs.table.Table.lay_unlinked.Goals as goal

pub index-requires-2 : goal.index-requires-2
index-requires-2 c =
    let is = subst (λ (h : Held). IsUnlink h.cells c.args.unlinking) (sym c.self.view_is) c.requires in
    let len : vec_len c.self.inside.slots ≡ length c.self.inside.slots.items = c.self.inside.slots.ok.0 in
    omega (arith, len, read_pointer c.args.unlinking.row c.index.result.now c.self.invariant is.used c.index.ensures, head_within c.args.unlinking.row c.self.invariant is.used)

pub put_pointer-requires : goal.put_pointer-requires
put_pointer-requires c = pointer_within c.args.unlinking c.self.invariant (subst (λ (h : Held). IsUnlink h.cells c.args.unlinking) (sym c.self.view_is) c.requires)

pub put_slots-requires : goal.put_slots-requires
put_slots-requires c = slots_within c.args.unlinking c.self.invariant (subst (λ (h : Held). IsUnlink h.cells c.args.unlinking) (sym c.self.view_is) c.requires)

pub invariant_of-self : goal.invariant_of-self
invariant_of-self c =
    let inside = c.self.inside in
    let kept = c.self.invariant in
    let row = c.args.unlinking.row in
    let slots = inside.slots.items in
    let cells : Cells = record { number = inside.number; short = inside.short; header = inside.header; slots = slots; pointers = inside.pointers.items } in
    let is = subst (λ (h : Held). IsUnlink h.cells c.args.unlinking) (sym c.self.view_is) c.requires in
    let head : c.index.result.now.head ≡ head_of (table_of cells) row = read_pointer row c.index.result.now kept is.used c.index.ensures in
    let slot = read slots c.index.result.now.head c.index-2.result.now unused_slot (omega (arith, head, head_within row kept is.used)) c.index-2.ensures in
    let key : c.as_slice-key.result.now ≡ key_of (table_of cells) row =
    c.as_slice-key.ensures ∙ ap (λ (s : Slot). s.key) slot ∙ ap (λ (n : ℕ). (slot_at slots n).key) head in
    rw (c.put_slots.ensures, c.put_pointer.ensures)
    (kept_unlaid c.forget_if.new.self c.args.unlinking kept is
    (subst (λ (k : List ℕ). row_named c.forget_if.new.self k ≡ cond c.is_given_back.result 0 (row_named inside.keys k)) key c.forget_if.ensures.named
    ∙ ap (λ (b : Bool). cond b 0 (row_named inside.keys (key_of (table_of cells) row))) c.is_given_back.ensures)
    (λ k away. c.forget_if.ensures.others k (λ same. away (same ∙ key))))

pub returns-clause-table : goal.returns-clause-table
returns-clause-table c = λ layout from sound stands.
    let inside = c.self.inside in
    let u = c.args.unlinking in
    let is = subst (λ (h : Held). IsUnlink h.cells u) (sym c.self.view_is) c.requires in
    let with_lists : List Slot → List Pointer → Cells = λ s p. record { number = inside.number; short = inside.short; header = u.unlinked.header; slots = s; pointers = p } in
    ap (λ (s : List Slot). table_of (with_lists s c.put_pointer.new.pointers.items)) c.put_slots.ensures
    ∙ ap (λ (p : List Pointer). table_of (with_lists (with_slots inside.slots.items u.unlinked.slots.items) p)) c.put_pointer.ensures
    ∙ unlaid_is u c.self.invariant is layout from (subst (λ (h : Held). HasLayout h.cells layout) (sym c.self.view_is) sound) stands
    ∙ ap (λ (h : Held). laid (table_of h.cells) (unlink_cells h.cells.header (parts_in h.cells layout u.row from u.count))) c.self.view_is

pub returns-clause-layout : goal.returns-clause-layout
returns-clause-layout c = λ layout from sound stands.
    rw (c.put_slots.ensures, c.put_pointer.ensures)
    (unlaid_layout c.args.unlinking c.self.invariant (subst (λ (h : Held). IsUnlink h.cells c.args.unlinking) (sym c.self.view_is) c.requires)
    layout from (subst (λ (h : Held). HasLayout h.cells layout) (sym c.self.view_is) sound) stands)
