use Rattle.px_chain.specs.Sound.{IsUsedRow}
use Rattle.px_held.proofs.Serving.{served_alike, slot_served}
use Rattle.px_held.proofs.held.Held.seen.Goals as goal

pub returns-in_err-table-clause-sound : goal.returns-in_err-table-clause-sound
returns-in_err-table-clause-sound g c = λ tells store serves has.
    absurd (c.in_err-table.ensures.unused (served_alike (λ t. IsUsedRow t c.args.row) (g.W.Site.state c.args.site.now) c.args.self.now store c.args.table serves has))

pub returns-clause-seen : goal.returns-clause-seen
returns-clause-seen g c = λ tells store serves used.
    let reader = c.args.reader.now in
    slot_served (g.W.Site.state c.args.site.now) c.args.self.now store c.args.table reader.xacts.now reader.own reader.snapshot c.args.row c.seen.result
    serves c.in_ok-table.ensures.table c.seen.ensures
