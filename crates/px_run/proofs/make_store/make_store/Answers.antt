use Rattle.std.proofs.Common.{sym, subst, ◌∙◌, Some}
use Rattle.px_run.specs.declared.command.Command.TheVariants.{Make}
use Rattle.px_run.specs.Causes.{HasStatusCause}
use Rattle.px_run.specs.Working.{MakesStore}
use Rattle.px_run.proofs.Making.{made_done, made_moments, made_untold, making_moments, not_made, not_made_cause}
use Rattle.px_run.proofs.make_store.make_store.Goals as goal

pub returns-in-Err-clause-cause : goal.returns-in-Err-clause-cause
returns-in-Err-clause-cause g c =
    let old = g.W.Site.counts c.args.site.now in
    let new = g.W.Site.counts c.make.new.site in
    subst (HasStatusCause (Some (Make c.args.tables c.args.short)) old new 0 0) (sym c.from.ensures)
    (not_made_cause c.args.tables c.args.short old new c.in-Err.error c.in-Err.ensures.cause c.in-Err.ensures.own)

pub returns-in-Err-clause-makes : goal.returns-in-Err-clause-makes
returns-in-Err-clause-makes g c t =
    subst (MakesStore c.args.tables c.args.short _ _) (sym c.from.ensures)
    (not_made c.args.tables c.args.short _ _ c.in-Err.error (c.make.ensures.first_alone t) (c.make.ensures.spared t) (c.in-Err.ensures.refused t))

pub returns-in-Err-clause-moments : goal.returns-in-Err-clause-moments
returns-in-Err-clause-moments g c t can = making_moments (c.make.ensures.moments t can)

pub returns-in-Ok-clause-makes : goal.returns-in-Ok-clause-makes
returns-in-Ok-clause-makes g c t =
    made_done c.args.tables c.args.short (g.W.Site.state c.args.site.now) (g.W.Site.state c.make.new.site) (g.W.Site.state c.tell.new.self) c.as_slice.result.now (c.as_slice.ensures.text ∙ c.made_line.ensures)
    (c.in_default.ensures.free t) (c.in_default.ensures.made t) (c.in_default.ensures.settled t) (c.in-Ok.ensures.moves t).ok

pub returns-in-Ok-clause-moments : goal.returns-in-Ok-clause-moments
returns-in-Ok-clause-moments g c t can = made_moments c.as_slice.result.now (c.make.ensures.moments t can) can (c.tell.ensures.moves t)

pub returns-in-Err-tell-clause-makes : goal.returns-in-Err-tell-clause-makes
returns-in-Err-tell-clause-makes g c t =
    subst (MakesStore c.args.tables c.args.short _ _) (sym c.status_of_tell.ensures)
    (made_untold c.args.tables c.args.short (g.W.Site.state c.args.site.now) (g.W.Site.state c.make.new.site) (g.W.Site.state c.tell.new.self) c.as_slice.result.now c.in-Err-tell.error (c.as_slice.ensures.text ∙ c.made_line.ensures)
    (c.in_default.ensures.free t) (c.in_default.ensures.made t) (c.in_default.ensures.settled t) (c.in-Err-tell.ensures.moves t))

pub returns-in-Err-tell-clause-moments : goal.returns-in-Err-tell-clause-moments
returns-in-Err-tell-clause-moments g c t can = made_moments c.as_slice.result.now (c.make.ensures.moments t can) can (c.tell.ensures.moves t)
