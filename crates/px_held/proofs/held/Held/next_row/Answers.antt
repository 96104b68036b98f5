use Rattle.std.proofs.Common.{sym, subst, ◌∙◌}
use Rattle.std.specs.Prelude.{MatchOption}
use Rattle.px_chain.specs.Table.{Table}
use Rattle.px_tidy.specs.Rows.{HasNoRowPast, IsNextRow}
use Rattle.px_held.proofs.Serving.{none_used, served, table_served}
use Rattle.px_held.proofs.held.Held.next_row.Goals as goal

pub returns-in-Some-clause-next : goal.returns-in-Some-clause-next
returns-in-Some-clause-next g c = λ store serves.
    subst (λ (t : Table). MatchOption c.next_row.result (HasNoRowPast t c.args.after) (IsNextRow t c.args.after))
    (sym (table_served (g.W.Site.state c.args.site.now) c.args.self.now store c.args.table serves c.in-Some.ensures)) c.next_row.ensures

pub returns-in-None-clause-next : goal.returns-in-None-clause-next
returns-in-None-clause-next g c = λ store serves. λ other past used.
    none_used (store.tables c.args.table) other (sym ((served (g.W.Site.state c.args.site.now) c.args.self.now store serves).tables c.args.table) ∙ c.in-None.ensures) used
