use Rattle.std.proofs.Common.{subst}
use Rattle.px_core.specs.Serving.{Serves}
use Rattle.px_core.specs.declared.state.Kept.{Kept}
use Rattle.px_core.proofs.state.Core.step.Goals as goal

pub returns-clause-answered : goal.returns-clause-answered
returns-clause-answered g c = λ t m works.
    (subst (λ (k : Kept g.row.W.Denot). Serves g.W.Site.tells g.W.Site.state g.W.Site.counts c.args.session c.args.call k c.serve.new.self c.serve.result)
    c.self.view_is c.serve.ensures).answered t m works tt

pub returns-clause-moments : goal.returns-clause-moments
returns-clause-moments g c = λ t m works.
    (subst (λ (k : Kept g.row.W.Denot). Serves g.W.Site.tells g.W.Site.state g.W.Site.counts c.args.session c.args.call k c.serve.new.self c.serve.result)
    c.self.view_is c.serve.ensures).moments t m works tt

pub returns-clause-others : goal.returns-clause-others
returns-clause-others g c =
    (subst (λ (k : Kept g.row.W.Denot). Serves g.W.Site.tells g.W.Site.state g.W.Site.counts c.args.session c.args.call k c.serve.new.self c.serve.result)
    c.self.view_is c.serve.ensures).others

pub returns-clause-refused : goal.returns-clause-refused
returns-clause-refused g c =
    (subst (λ (k : Kept g.row.W.Denot). Serves g.W.Site.tells g.W.Site.state g.W.Site.counts c.args.session c.args.call k c.serve.new.self c.serve.result)
    c.self.view_is c.serve.ensures).refused

pub returns-clause-full : goal.returns-clause-full
returns-clause-full g c = λ t m works.
    (subst (λ (k : Kept g.row.W.Denot). Serves g.W.Site.tells g.W.Site.state g.W.Site.counts c.args.session c.args.call k c.serve.new.self c.serve.result)
    c.self.view_is c.serve.ensures).full t m works tt

pub returns-clause-sound : goal.returns-clause-sound
returns-clause-sound g c =
    (subst (λ (k : Kept g.row.W.Denot). Serves g.W.Site.tells g.W.Site.state g.W.Site.counts c.args.session c.args.call k c.serve.new.self c.serve.result)
    c.self.view_is c.serve.ensures).sound
