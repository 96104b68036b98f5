use Rattle.std.proofs.Common.{sym, subst}
use Rattle.px_cell_standing.specs.Found.{HoldsStore}
use Rattle.px_core.specs.declared.state.Kept.{Kept}
use Rattle.px_core.proofs.Closing.{works_holds}
use Rattle.px_core.proofs.state.Core.close.Goals as goal

pub returns-clause-stored : goal.returns-clause-stored
returns-clause-stored g c t m works =
    subst (λ (k : Kept g.row.W.Denot). HoldsStore m (g.W.Site.state k.site)) (sym c.self.view_is)
    (works_holds g.W.Site.state c.args.self m (λ name. g.met.W.Site.reads_image t c.args.self.site name) works)
