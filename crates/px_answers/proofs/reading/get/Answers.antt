use Rattle.std.proofs.Common.{Some, None, sym, ◌∙◌}
use Rattle.px_answers.proofs.Leaving.{answered_at_once, passed_on}
use Rattle.px_answers.proofs.Opened.{caller_of, reader_of, sees_through}
use Rattle.px_answers.proofs.Replies.{get_read, get_refused}
use Rattle.px_answers.proofs.reading.get.Goals as goal

pub returns-in-Err-clause-reply : goal.returns-in-Err-clause-reply
returns-in-Err-clause-reply g c = λ tells on holders m store sees.
    get_refused m c.args.caller.now.session c.args.table c.args.key.now c.in-Err.refusal (c.in-Err.ensures.refused m (caller_of c.args.caller.now sees on))

pub returns-in-Err-clause-reads : goal.returns-in-Err-clause-reads
returns-in-Err-clause-reads g c =
    answered_at_once g.W.Site.tells g.W.Site.state g.W.Site.counts c.args.site.now c.args.held.now _

pub returns-in_err-row-clause-reads : goal.returns-in_err-row-clause-reads
returns-in_err-row-clause-reads g c = passed_on c.from_residual.result c.in_err-row.field-0.0 c.from_residual.ensures.1 c.in_err-row.ensures.reads

pub returns-in-Some-clause-reply : goal.returns-in-Some-clause-reply
returns-in-Some-clause-reply g c = λ tells on holders m store sees.
    let caller = c.args.caller.now in
    let may = c.in-Ok.ensures.may m (caller_of caller sees on) in
    let reader = reader_of c.reader.result may.of_table.opened_is c.reader.ensures.own c.reader.ensures.snapshot in
    let seen = c.in_ok-row.ensures.row tells holders m store caller.session may.of_table.xact (sees_through caller.xacts.now c.reader.result.xacts.now c.reader.ensures.xacts sees) reader in
    get_read (Some c.in-Some.row) may (sym c.in-Some.is ∙ seen)

pub returns-in-None-clause-reply : goal.returns-in-None-clause-reply
returns-in-None-clause-reply g c = λ tells on holders m store sees.
    let caller = c.args.caller.now in
    let may = c.in-Ok.ensures.may m (caller_of caller sees on) in
    let reader = reader_of c.reader.result may.of_table.opened_is c.reader.ensures.own c.reader.ensures.snapshot in
    let seen = c.in_ok-row.ensures.row tells holders m store caller.session may.of_table.xact (sees_through caller.xacts.now c.reader.result.xacts.now c.reader.ensures.xacts sees) reader in
    get_read None may (sym c.in-None.is ∙ seen)
