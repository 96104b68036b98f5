use Rattle.std.proofs.Common.{sym, ap, subst, ◌∙◌}
use Rattle.px_cells.specs.declared.slot.Slot.{Slot}
use Rattle.px_chain.specs.Sound.{IsSlot}
use Rattle.px_chain.specs.Table.{Table}
use Rattle.px_held.proofs.Serving.{served_alike, table_served}
use Rattle.px_held.proofs.held.Held.writer_of.Goals as goal

pub returns-in_err-table-clause-sound : goal.returns-in_err-table-clause-sound
returns-in_err-table-clause-sound g c = λ tells store serves has.
    absurd (c.in_err-table.ensures.past (served_alike (λ t. IsSlot t c.args.slot) (g.W.Site.state c.args.site.now) c.args.self.now store c.args.table serves has))

pub returns-clause-writer : goal.returns-clause-writer
returns-clause-writer g c = λ store serves its.
    ap (λ (slot : Slot). slot.xn) c.slot.ensures
    ∙ ap (λ (t : Table). (t.slot c.args.slot).xn) (sym (table_served (g.W.Site.state c.args.site.now) c.args.self.now store c.args.table serves c.in_ok-table.ensures.table))
