use Rattle.std.proofs.Common.{sym, subst}
use Rattle.std.specs.Prelude.{MatchOption}
use Rattle.px_chain.specs.Table.{Table}
use Rattle.px_tables.specs.Keys.{HasNoRow, IsRowOf}
use Rattle.px_held.proofs.Serving.{no_row, table_served}
use Rattle.px_held.proofs.held.Held.row_of.Goals as goal

pub returns-in-Some-clause-row : goal.returns-in-Some-clause-row
returns-in-Some-clause-row g c = λ tells store serves.
    subst (λ (t : Table). MatchOption c.row_of.result (HasNoRow t c.args.key.now) (λ row. IsRowOf t c.args.key.now row))
    (sym (table_served (g.W.Site.state c.args.site.now) c.args.self.now store c.args.table serves c.in-Some.ensures)) c.row_of.ensures

pub returns-in-None-clause-row : goal.returns-in-None-clause-row
returns-in-None-clause-row g c = λ tells store serves.
    no_row (g.W.Site.state c.args.site.now) c.args.self.now store c.args.table c.args.key.now serves c.in-None.ensures
