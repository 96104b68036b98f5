use Rattle.std.proofs.Common.{Result, Ok, subst}
use Rattle.std.proofs.lemmas.Result.{err_from_is_err_and}
use Rattle.px_calls.specs.declared.reply.Reply.{Reply}
use Rattle.px_core.specs.Serving.{Finds}
use Rattle.px_core.specs.declared.state.writing.Ready.{Ready}
use Rattle.px_core.proofs.Writing.{write_does, write_gives_up, write_refused}
use Rattle.px_core.proofs.state.Kept.write.Goals as goal

pub returns-in_err-ready : goal.returns-in_err-ready
returns-in_err-ready g c =
    let p = err_from_is_err_and c.from_residual.result c.from_residual.ensures.1 in
    rw (p.1, p.2)
    (write_gives_up g.W.Site.tells g.W.Site.state g.W.Site.counts c.args.session c.args.call c.args.self.now c.place_for.new.self c.requires.writes c.requires.well c.requires.whole
    c.in_err-ready.field-0.0 c.in_err-ready.ensures)

pub returns-in-Ok : goal.returns-in-Ok
returns-in-Ok g c =
    write_does g.W.Site.tells g.W.Site.state g.W.Site.counts c.args.session c.args.call c.args.self.now c.place_for.new.self c.requires.writes c.requires.well c.requires.whole
    c.in-Ok.ready c.put.new.self c.put.result
    (subst (λ (a : Result Ready Reply). Finds g.W.Site.tells g.W.Site.state g.W.Site.counts c.args.session c.args.call c.args.self.now c.place_for.new.self (Ok a)) c.in-Ok.is
    c.in_ok-ready.ensures)
    c.put.ensures

pub returns-in-Err : goal.returns-in-Err
returns-in-Err g c =
    write_refused g.W.Site.tells g.W.Site.state g.W.Site.counts c.args.session c.args.call c.args.self.now c.place_for.new.self c.requires.writes c.requires.well c.requires.whole
    c.in-Err.refusal
    (subst (λ (a : Result Ready Reply). Finds g.W.Site.tells g.W.Site.state g.W.Site.counts c.args.session c.args.call c.args.self.now c.place_for.new.self (Ok a)) c.in-Err.is
    c.in_ok-ready.ensures)
