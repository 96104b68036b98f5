use Rattle.std.proofs.Common.{Option, Ok, refl, sym, subst}
use Rattle.std.proofs.lemmas.Result.{err_from_is_err_and}
use Rattle.px_held.specs.declared.prepared.PreparedUnlink.{PreparedUnlink}
use Rattle.px_site.proofs.Causes.{no_fall}
use Rattle.px_core.specs.Sweeping.{FindsGone}
use Rattle.px_core.specs.declared.state.Kept.{Kept}
use Rattle.px_core.proofs.Gone.{sweep_behind, sweep_gives_up, sweep_past}
use Rattle.px_core.proofs.Sweeping.{idle_sweeps}
use Rattle.px_core.proofs.state.Kept.sweep_next.Goals as goal

pub returns-in_default : goal.returns-in_default
returns-in_default g c =
    idle_sweeps g.W.Site.tells g.W.Site.state g.W.Site.counts c.args.self.now c.requires.well c.requires.whole c.in_default.ensures.reply no_fall

pub returns-in_err-prepared : goal.returns-in_err-prepared
returns-in_err-prepared g c =
    let p = err_from_is_err_and c.from_residual.result c.from_residual.ensures.1 in
    rw (p.1, p.2)
    (sweep_gives_up g.W.Site.tells g.W.Site.state g.W.Site.counts c.in-Some.due c.args.self.now c.versions_with.new.self c.requires.well c.requires.whole
    c.in_err-prepared.field-0.0 c.in_err-prepared.ensures)

pub returns-in-Some-2 : goal.returns-in-Some-2
returns-in-Some-2 g c =
    sweep_behind g.W.Site.tells g.W.Site.state g.W.Site.counts c.in-Some.due c.args.self.now c.versions_with.new.self c.requires.well c.requires.whole
    c.in-Some-2.prepared c.unlink.new.self c.unlink.result
    (subst (λ (found : Option PreparedUnlink). FindsGone g.W.Site.tells g.W.Site.state g.W.Site.counts c.in-Some.due c.args.self.now c.versions_with.new.self (Ok found))
    c.in-Some-2.is c.in_ok-prepared.ensures)
    c.unlink.ensures

pub returns-in-None : goal.returns-in-None
returns-in-None g c =
    let mid : Kept g.row.W.Denot = c.versions_with.new.self in
    let new : Kept g.row.W.Denot = record mid { active = c.swept.new.self } in
    sweep_past g.W.Site.tells g.W.Site.state g.W.Site.counts c.in-Some.due c.args.self.now mid c.requires.well c.requires.whole new
    (subst (λ (found : Option PreparedUnlink). FindsGone g.W.Site.tells g.W.Site.state g.W.Site.counts c.in-Some.due c.args.self.now mid (Ok found)) c.in-None.is
    c.in_ok-prepared.ensures)
    (sym c.in-Some.ensures.is) refl
    (record { active = c.swept.ensures.active; rest = c.swept.ensures.rest; stored = c.swept.ensures.stored })
