use Rattle.std.proofs.Common.{Err, subst, sym}
use Rattle.std.proofs.lemmas.Result.{err_from_is_err_and}
use Rattle.px_calls.specs.declared.status.Status.{Status}
use Rattle.px_calls.specs.Histories.{by}
use Rattle.px_play.specs.Serving.{ServesRight}
use Rattle.px_play.proofs.Answering.{call_refused, call_replied}
use Rattle.px_play.proofs.serving.make_call.Goals as goal

pub returns-in_err-step-clause-serves : goal.returns-in_err-step-clause-serves
returns-in_err-step-clause-serves g c = λ tells e engine.
    let state = g.W.Site.state in
    let p = err_from_is_err_and c.from_residual.result c.from_residual.ensures.1 in
    let right = call_refused c.args.session c.args.call e c.in_err-step.field-0.0 tells engine (c.step.ensures.moments tells e.machine engine.works) c.in_err-step.ensures.refused (c.in_err-step.ensures.full tells e.machine engine.works) in
    rw p.1 (subst (λ (status : Status). ServesRight state g.W.Site.counts e (by c.args.session c.args.call) c.args.core.now c.step.new.self (Err status)) (sym p.2) right)

pub returns-clause-serves : goal.returns-clause-serves
returns-clause-serves g c = λ tells e engine.
    call_replied c.args.session c.args.call e engine (c.step.ensures.moments tells e.machine engine.works) (c.in_ok-step.ensures.answered tells e.machine engine.works)
