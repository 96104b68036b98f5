use Rattle.std.proofs.Common.{subst}
use Rattle.std.specs.Option.{option_copied}
use Rattle.px_core.specs.Serving.{Walks}
use Rattle.px_core.specs.declared.state.Kept.{Kept}
use Rattle.px_core.proofs.state.Core.next_row.Goals as goal

pub returns-clause-row : goal.returns-clause-row
returns-clause-row g c =
    (subst (λ (k : Kept g.row.W.Denot). Walks g.W.Site.tells g.W.Site.state g.W.Site.counts (option_copied c.args.after) k c.next_row.new.self c.next_row.result)
    c.self.view_is c.next_row.ensures).row

pub returns-clause-rest : goal.returns-clause-rest
returns-clause-rest g c =
    (subst (λ (k : Kept g.row.W.Denot). Walks g.W.Site.tells g.W.Site.state g.W.Site.counts (option_copied c.args.after) k c.next_row.new.self c.next_row.result)
    c.self.view_is c.next_row.ensures).rest

pub returns-clause-same : goal.returns-clause-same
returns-clause-same g c =
    (subst (λ (k : Kept g.row.W.Denot). Walks g.W.Site.tells g.W.Site.state g.W.Site.counts (option_copied c.args.after) k c.next_row.new.self c.next_row.result)
    c.self.view_is c.next_row.ensures).same

pub returns-clause-works : goal.returns-clause-works
returns-clause-works g c =
    (subst (λ (k : Kept g.row.W.Denot). Walks g.W.Site.tells g.W.Site.state g.W.Site.counts (option_copied c.args.after) k c.next_row.new.self c.next_row.result)
    c.self.view_is c.next_row.ensures).works

pub returns-clause-cause : goal.returns-clause-cause
returns-clause-cause g c =
    (subst (λ (k : Kept g.row.W.Denot). Walks g.W.Site.tells g.W.Site.state g.W.Site.counts (option_copied c.args.after) k c.next_row.new.self c.next_row.result)
    c.self.view_is c.next_row.ensures).cause

pub returns-clause-sound : goal.returns-clause-sound
returns-clause-sound g c =
    (subst (λ (k : Kept g.row.W.Denot). Walks g.W.Site.tells g.W.Site.state g.W.Site.counts (option_copied c.args.after) k c.next_row.new.self c.next_row.result)
    c.self.view_is c.next_row.ensures).sound

pub returns-clause-none_fell : goal.returns-clause-none_fell
returns-clause-none_fell g c =
    (subst (λ (k : Kept g.row.W.Denot). Walks g.W.Site.tells g.W.Site.state g.W.Site.counts (option_copied c.args.after) k c.next_row.new.self c.next_row.result)
    c.self.view_is c.next_row.ensures).none_fell
