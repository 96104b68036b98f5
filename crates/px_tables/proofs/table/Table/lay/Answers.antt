use Rattle.std.proofs.Common.{◌≡◌, true, List, ℕ, sym, ap, subst, ◌∙◌}
use Rattle.px_cells.specs.declared.pointer.Pointer.{Pointer}
use Rattle.px_cells.specs.declared.slot.Slot.{Slot}
use Rattle.px_chain.specs.Links.{link_cells}
use Rattle.px_chain.specs.Table.{laid}
use Rattle.px_tables.specs.Held.{Cells, Held, placed, table_of}
use Rattle.px_tables.specs.Keys.{row_named}
use Rattle.px_tables.specs.Linking.{IsPrepared}
use Rattle.px_tables.proofs.Keeping.{begun_layout, kept_laid, laid_is, number_within, row_within, varied_layout}
use Rattle.px_tables.proofs.table.Table.lay.Goals as goal

pub put_at-requires-clause-within : goal.put_at-requires-clause-within
put_at-requires-clause-within c =
    let ready = subst (λ (h : Held). IsPrepared h c.args.linking) (sym c.self.view_is) c.requires in
    row_within c.args.linking.header c.args.linking.slot c.self.invariant ready.link

pub put_at-requires-2-clause-within : goal.put_at-requires-2-clause-within
put_at-requires-2-clause-within c =
    let ready = subst (λ (h : Held). IsPrepared h c.args.linking) (sym c.self.view_is) c.requires in
    number_within c.args.linking.number c.self.invariant ready.number

pub invariant_of-self : goal.invariant_of-self
invariant_of-self c =
    let ready = subst (λ (h : Held). IsPrepared h c.args.linking) (sym c.self.view_is) c.requires in
    let header = c.args.linking.header in
    let number = c.args.linking.number in
    let slot = c.args.linking.slot in
    let inside = c.self.inside in
    let cells : Cells = record { number = inside.number; short = inside.short; header = inside.header; slots = inside.slots.items; pointers = inside.pointers.items } in
    rw (c.put_at-2.ensures, c.put_at.ensures)
    (kept_laid cells inside.keys c.name.new.self header number slot c.self.invariant ready.number ready.link ready.stored
    (subst (λ (k : List ℕ). row_named c.name.new.self k ≡ slot.row) c.as_slice.ensures c.name.ensures.named)
    (λ q other. c.name.ensures.others q (λ same. other (same ∙ c.as_slice.ensures))))

pub returns-clause-table : goal.returns-clause-table
returns-clause-table c =
    let ready = subst (λ (h : Held). IsPrepared h c.args.linking) (sym c.self.view_is) c.requires in
    let header = c.args.linking.header in
    let number = c.args.linking.number in
    let slot = c.args.linking.slot in
    let inside = c.self.inside in
    let pointer : Pointer = record { used = true; head = number } in
    let cells : Cells = record { number = inside.number; short = inside.short; header = inside.header; slots = inside.slots.items; pointers = inside.pointers.items } in
    let with_lists : List Slot → List Pointer → Cells = λ s p. record { number = inside.number; short = inside.short; header = header; slots = s; pointers = p } in
    ap (λ (s : List Slot). table_of (with_lists s c.put_at.new.items.items)) c.put_at-2.ensures
    ∙ ap (λ (p : List Pointer). table_of (with_lists (placed cells.slots number slot) p)) c.put_at.ensures
    ∙ laid_is cells header number slot (number_within number c.self.invariant ready.number) (row_within header slot c.self.invariant ready.link)
    ∙ ap (λ (h : Held). laid (table_of h.cells) (link_cells header number slot)) c.self.view_is

pub returns-clause-begins : goal.returns-clause-begins
returns-clause-begins c =
    let inside = c.self.inside in
    let after : Cells = record { number = inside.number; short = inside.short; header = c.args.linking.header; slots = c.put_at-2.new.items.items; pointers = c.put_at.new.items.items } in
    begun_layout c.args.self.now.cells after c.args.linking.header c.args.linking.number c.args.linking.slot (returns-clause-table c)
    (ap (λ (h : Held). h.cells.short) c.self.view_is) c.requires.number c.requires.stored

pub returns-clause-varies : goal.returns-clause-varies
returns-clause-varies c =
    let inside = c.self.inside in
    let after : Cells = record { number = inside.number; short = inside.short; header = c.args.linking.header; slots = c.put_at-2.new.items.items; pointers = c.put_at.new.items.items } in
    varied_layout c.args.self.now.cells after c.args.linking.header c.args.linking.number c.args.linking.slot (returns-clause-table c)
    (ap (λ (h : Held). h.cells.short) c.self.view_is) c.requires.number c.requires.stored
