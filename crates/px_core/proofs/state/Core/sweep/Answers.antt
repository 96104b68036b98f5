use Rattle.std.proofs.Common.{subst}
use Rattle.std.specs.Prelude.{⊤}
use Rattle.px_core.specs.Sweeping.{Sweeps}
use Rattle.px_core.specs.declared.state.Kept.{Kept}
use Rattle.px_core.proofs.state.Core.sweep.Goals as goal

pub returns-clause-answered : goal.returns-clause-answered
returns-clause-answered g c = λ t m works.
    (subst (λ (k : Kept g.row.W.Denot). Sweeps g.W.Site.tells g.W.Site.state g.W.Site.counts k c.sweep_next.new.self (λ m works. ⊤) c.sweep_next.result)
    c.self.view_is c.sweep_next.ensures).answered t m works tt

pub returns-clause-moments : goal.returns-clause-moments
returns-clause-moments g c = λ t m works.
    (subst (λ (k : Kept g.row.W.Denot). Sweeps g.W.Site.tells g.W.Site.state g.W.Site.counts k c.sweep_next.new.self (λ m works. ⊤) c.sweep_next.result)
    c.self.view_is c.sweep_next.ensures).moments t m works tt

pub returns-clause-others : goal.returns-clause-others
returns-clause-others g c =
    (subst (λ (k : Kept g.row.W.Denot). Sweeps g.W.Site.tells g.W.Site.state g.W.Site.counts k c.sweep_next.new.self (λ m works. ⊤) c.sweep_next.result)
    c.self.view_is c.sweep_next.ensures).others

pub returns-clause-full : goal.returns-clause-full
returns-clause-full g c = λ t m works.
    (subst (λ (k : Kept g.row.W.Denot). Sweeps g.W.Site.tells g.W.Site.state g.W.Site.counts k c.sweep_next.new.self (λ m works. ⊤) c.sweep_next.result)
    c.self.view_is c.sweep_next.ensures).full t m works tt

pub returns-clause-sound : goal.returns-clause-sound
returns-clause-sound g c =
    (subst (λ (k : Kept g.row.W.Denot). Sweeps g.W.Site.tells g.W.Site.state g.W.Site.counts k c.sweep_next.new.self (λ m works. ⊤) c.sweep_next.result)
    c.self.view_is c.sweep_next.ensures).sound
