use Rattle.std.proofs.Common.{sym, subst}
use Rattle.px_calls.specs.Histories.{by, sweep}
use Rattle.px_calls.specs.Texts.{reply_text}
use Rattle.px_engine.specs.Requests.{Stat, answer_text}
use Rattle.px_play.specs.declared.commands.Asked.{Asked}
use Rattle.px_play.specs.Turns.{KeepsWithin, TurnsRight, request_asked}
use Rattle.px_play.proofs.Answering.{engine_at, engine_is, numbers_moments, numbers_right, others_on, refused_moments, replied_moments, replied_right, told_others}
use Rattle.px_play.proofs.turns.answer.Goals as goal

pub returns-in_err-reply-in-Call-clause-moments : goal.returns-in_err-reply-in-Call-clause-moments
returns-in_err-reply-in-Call-clause-moments g c = λ tells e engine.
    let state = g.W.Site.state in
    let old = c.args.core.now in
    let new = c.make_call.new.core in
    subst (λ (a : Asked). KeepsWithin e (request_asked a) (state old.site) (state new.site)) (sym c.in-Call.is)
    (refused_moments state e (by c.in-Call.session c.in-Call.call) old new (c.in_err-reply-in-Call.ensures.stands tells e.machine engine.works))

pub returns-in_ok-reply-in-Call-clause-plays : goal.returns-in_ok-reply-in-Call-clause-plays
returns-in_ok-reply-in-Call-clause-plays g c = λ tells e engine.
    let state = g.W.Site.state in
    let counts = g.W.Site.counts in
    let old = c.args.core.now in
    let new = c.tell_reply.new.core in
    let said = c.tell_reply.ensures in
    subst (λ (a : Asked). TurnsRight state counts e (request_asked a) old new c.tell_reply.result) (sym c.in-Call.is)
    (replied_right counts new (c.in_ok-reply-in-Call.ensures.serves tells e engine) (said.works tells) said.rest c.tell_reply.result (said.tells tells) said.cause)

pub returns-in_ok-reply-in-Call-clause-moments : goal.returns-in_ok-reply-in-Call-clause-moments
returns-in_ok-reply-in-Call-clause-moments g c = λ tells e engine.
    let state = g.W.Site.state in
    let old = c.args.core.now in
    let new = c.tell_reply.new.core in
    let made = c.in_ok-reply-in-Call.ensures in
    subst (λ (a : Asked). KeepsWithin e (request_asked a) (state old.site) (state new.site)) (sym c.in-Call.is)
    (replied_moments new (made.serves tells e engine) (made.stands tells e.machine engine.works) c.tell_reply.result (c.tell_reply.ensures.tells tells))

pub returns-in_ok-reply-in-Call-clause-others : goal.returns-in_ok-reply-in-Call-clause-others
returns-in_ok-reply-in-Call-clause-others g c = λ tells m works.
    others_on (c.in_ok-reply-in-Call.ensures.others tells m works) (told_others (reply_text c.in_ok-reply-in-Call.reply) c.tell_reply.result (c.tell_reply.ensures.tells tells))

pub returns-in_err-reply-in-Sweep-clause-moments : goal.returns-in_err-reply-in-Sweep-clause-moments
returns-in_err-reply-in-Sweep-clause-moments g c = λ tells e engine.
    let state = g.W.Site.state in
    let old = c.args.core.now in
    let new = c.make_sweep.new.core in
    subst (λ (a : Asked). KeepsWithin e (request_asked a) (state old.site) (state new.site)) (sym c.in-Sweep.is)
    (refused_moments state e sweep old new (c.in_err-reply-in-Sweep.ensures.stands tells e.machine engine.works))

pub returns-in_ok-reply-in-Sweep-clause-plays : goal.returns-in_ok-reply-in-Sweep-clause-plays
returns-in_ok-reply-in-Sweep-clause-plays g c = λ tells e engine.
    let state = g.W.Site.state in
    let counts = g.W.Site.counts in
    let old = c.args.core.now in
    let new = c.tell_reply-in-Sweep.new.core in
    let said = c.tell_reply-in-Sweep.ensures in
    subst (λ (a : Asked). TurnsRight state counts e (request_asked a) old new c.tell_reply-in-Sweep.result) (sym c.in-Sweep.is)
    (replied_right counts new (c.in_ok-reply-in-Sweep.ensures.serves tells e engine) (said.works tells) said.rest c.tell_reply-in-Sweep.result (said.tells tells) said.cause)

pub returns-in_ok-reply-in-Sweep-clause-moments : goal.returns-in_ok-reply-in-Sweep-clause-moments
returns-in_ok-reply-in-Sweep-clause-moments g c = λ tells e engine.
    let state = g.W.Site.state in
    let old = c.args.core.now in
    let new = c.tell_reply-in-Sweep.new.core in
    let made = c.in_ok-reply-in-Sweep.ensures in
    subst (λ (a : Asked). KeepsWithin e (request_asked a) (state old.site) (state new.site)) (sym c.in-Sweep.is)
    (replied_moments new (made.serves tells e engine) (made.stands tells e.machine engine.works) c.tell_reply-in-Sweep.result (c.tell_reply-in-Sweep.ensures.tells tells))

pub returns-in_ok-reply-in-Sweep-clause-others : goal.returns-in_ok-reply-in-Sweep-clause-others
returns-in_ok-reply-in-Sweep-clause-others g c = λ tells m works.
    others_on (c.in_ok-reply-in-Sweep.ensures.others tells m works) (told_others (reply_text c.in_ok-reply-in-Sweep.reply) c.tell_reply-in-Sweep.result (c.tell_reply-in-Sweep.ensures.tells tells))

pub returns-in-Stat-clause-plays : goal.returns-in-Stat-clause-plays
returns-in-Stat-clause-plays g c = λ tells e engine.
    let state = g.W.Site.state in
    let counts = g.W.Site.counts in
    let old = c.args.core.now in
    let new = c.tell_numbers.new.core in
    let said = c.tell_numbers.ensures in
    subst (λ (a : Asked). TurnsRight state counts e (request_asked a) old new c.tell_numbers.result) (sym c.in-Stat.is)
    (numbers_right counts new engine (said.works tells) said.rest c.tell_numbers.result (said.tells tells e engine) said.cause)

pub returns-in-Stat-clause-moments : goal.returns-in-Stat-clause-moments
returns-in-Stat-clause-moments g c = λ tells e engine.
    let state = g.W.Site.state in
    let old = c.args.core.now in
    let new = c.tell_numbers.new.core in
    subst (λ (a : Asked). KeepsWithin e (request_asked a) (state old.site) (state new.site)) (sym c.in-Stat.is)
    (numbers_moments new engine c.tell_numbers.result (c.tell_numbers.ensures.tells tells e engine))

pub returns-in-Stat-clause-others : goal.returns-in-Stat-clause-others
returns-in-Stat-clause-others g c = λ tells m works.
    let e = engine_at c.args.core.now m in
    told_others (answer_text e Stat) c.tell_numbers.result (c.tell_numbers.ensures.tells tells e (engine_is works))
