use Rattle.std.proofs.Common.{List, Option, ap, subst, ◌∙◌, arith}
use Rattle.px_chain.specs.declared.chain.Linked.{Linked}
use Rattle.px_chain.specs.Near.{linked_at, number_at}
use Rattle.px_tables.specs.Held.{Held, HasLayout, table_of}
use Rattle.px_tables.specs.Unlinking.{parts_in}
use Rattle.px_tables.proofs.Running.{near_read, nearby, newer_within, unlink_told}
use Rattle.px_tables.proofs.table.Table.prepare_unlink.Goals as goal

pub linked-requires : goal.linked-requires
linked-requires c =
    let now = c.args.self.now.cells in
    let layout = c.self.invariant.layout in
    let sound : HasLayout now layout = subst (λ (h : Held). HasLayout h.cells layout) c.self.view_is c.self.invariant.sound in
    newer_within now layout c.args.row c.requires.run.0 c.args.newer c.args.first c.args.count sound (c.requires.run.1 layout sound)

pub run-requires : goal.run-requires
run-requires c = (c.args.row, c.args.newer, c.requires.run.0, c.requires.run.1)

pub returns-clause-unlink : goal.returns-clause-unlink
returns-clause-unlink c =
    let now = c.args.self.now.cells in
    let row = c.args.row in
    let newer = c.args.newer in
    let first = c.args.first in
    let count = c.args.count in
    let from = c.requires.run.0 in
    let gone = c.in_ok-gone.gone.items in
    let behind = c.in_ok-gone.behind in
    let kept = c.self.invariant in
    let sound_now : HasLayout now kept.layout = subst (λ (h : Held). HasLayout h.cells kept.layout) c.self.view_is kept.sound in
    record {
      from = from;
      used = c.requires.used;
      some = (c.requires.run.1 kept.layout sound_now).some;
      stands = λ layout sound.
          let run = c.requires.run.1 layout sound in
          let some = run.some in
          let within = run.within in
          (omega (arith, some, within), run.start);
      within = λ layout sound. (c.requires.run.1 layout sound).within;
      unlink = λ layout sound.
          let run = c.requires.run.1 layout sound in
          unlink_told now c.self.inside.header c.in_ok-of.field-0 (parts_in now layout row from count) _ (nearby (linked_at (table_of now) newer) gone (number_at behind))
          (near_read now layout row from newer first count gone behind sound run (c.in_ok-gone.ensures layout row newer from sound run))
          (c.new-cut.ensures
          ∙ ap (λ (n : Option Linked). nearby n c.as_slice.result.now c.some_number.result) (c.as_ref.ensures.value ∙ c.in_ok-newer.ensures)
          ∙ ap (λ (l : List Linked). nearby (linked_at (table_of now) newer) l c.some_number.result) c.as_slice.ensures.value
          ∙ ap (nearby (linked_at (table_of now) newer) gone) c.some_number.ensures)
          (ap (λ (h : Held). h.cells.header) c.self.view_is)
          c.in_ok-of.ensures.header c.in_ok-of.ensures.slots c.in_ok-of.ensures.pointer;
    }
