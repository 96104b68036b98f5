use Rattle.std.proofs.Common.{sym, subst}
use Rattle.px_core.specs.Working.{WorksFor}
use Rattle.px_core.specs.declared.state.Kept.{Kept}
use Rattle.px_core.proofs.Telling.{well_anywhere, works_told}
use Rattle.px_core.proofs.state.Core.tell.Goals as goal

pub invariant_of-self : goal.invariant_of-self
invariant_of-self g c = well_anywhere g.W.Site.state c.self.inside.kept c.tell.new.self c.self.invariant

pub returns-clause-works : goal.returns-clause-works
returns-clause-works g c = λ t m works.
    works_told g.W.Site.state c.self.inside.kept c.tell.new.self m c.args.bytes.now c.tell.result (c.tell.ensures.moves t)
    (subst (λ (k : Kept g.row.W.Denot). WorksFor g.W.Site.state k m) (sym c.self.view_is) works)
