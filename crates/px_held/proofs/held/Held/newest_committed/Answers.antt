use Rattle.px_chain.specs.Sound.{IsUsedRow}
use Rattle.px_held.proofs.Serving.{newest_served, served_alike}
use Rattle.px_held.proofs.held.Held.newest_committed.Goals as goal

pub returns-in_err-table-clause-sound : goal.returns-in_err-table-clause-sound
returns-in_err-table-clause-sound g c = λ tells store serves has.
    absurd (c.in_err-table.ensures.unused (served_alike (λ t. IsUsedRow t c.args.row) (g.W.Site.state c.args.site.now) c.args.self.now store c.args.table serves has))

pub returns-clause-newest : goal.returns-clause-newest
returns-clause-newest g c = λ tells store serves used.
    newest_served (g.W.Site.state c.args.site.now) c.args.self.now store c.args.table c.args.xacts.now c.args.row c.newest_committed.result
    serves c.in_ok-table.ensures.table c.newest_committed.ensures
