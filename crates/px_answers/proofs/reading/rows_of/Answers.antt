use Rattle.px_answers.proofs.Leaving.{answered_at_once, passed_on}
use Rattle.px_answers.proofs.Opened.{caller_of, reader_of, sees_through}
use Rattle.px_answers.proofs.Replies.{rows_read, rows_refused}
use Rattle.px_answers.proofs.reading.rows_of.Goals as goal

pub returns-in-Err-clause-reply : goal.returns-in-Err-clause-reply
returns-in-Err-clause-reply g c = λ tells on holders m store sees.
    rows_refused m c.args.caller.now.session c.args.table c.args.tag c.in-Err.refusal (c.in-Err.ensures.refused m (caller_of c.args.caller.now sees on))

pub returns-in-Err-clause-reads : goal.returns-in-Err-clause-reads
returns-in-Err-clause-reads g c =
    answered_at_once g.W.Site.tells g.W.Site.state g.W.Site.counts c.args.site.now c.args.held.now _

pub returns-in_err-rows-clause-reads : goal.returns-in_err-rows-clause-reads
returns-in_err-rows-clause-reads g c = passed_on c.from_residual.result c.in_err-rows.field-0.0 c.from_residual.ensures.1 c.in_err-rows.ensures.reads

pub returns-clause-reply : goal.returns-clause-reply
returns-clause-reply g c = λ tells on holders m store sees.
    let caller = c.args.caller.now in
    let may = c.in-Ok.ensures.may m (caller_of caller sees on) in
    let reader = reader_of c.reader.result may.opened_is c.reader.ensures.own c.reader.ensures.snapshot in
    rows_read c.args.tag c.in_ok-rows.rows may
    (c.in_ok-rows.ensures.rows tells holders m store caller.session may.xact (sees_through caller.xacts.now c.reader.result.xacts.now c.reader.ensures.xacts sees) reader)
