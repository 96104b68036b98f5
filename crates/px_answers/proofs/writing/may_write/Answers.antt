use Rattle.std.proofs.Common.{◌≡◌, ℕ, Option, None, Some, sym, ap, ◌∙◌}
use Rattle.px_calls.specs.declared.reply.Reply.TheVariants.{Conflict}
use Rattle.px_held.specs.Errors.{HasReadCause, IsPassing}
use Rattle.px_locks.specs.Holders.{holder_of, unless_held_by}
use Rattle.px_answers.specs.Reading.{Stays}
use Rattle.px_answers.specs.Writing.{refusal_of}
use Rattle.px_answers.proofs.Leaving.{if_err, reads_behind, sees_still, then_stays}
use Rattle.px_answers.proofs.Meeting.{held_by_another, met_in_commits}
use Rattle.px_answers.proofs.Opened.{caller_of, reader_of, sees_through}
use Rattle.px_answers.proofs.Refusing.{if_error, if_ok, is_refused, is_writer, meets_another, refused_call}
use Rattle.px_answers.proofs.writing.may_write.Goals as goal

pub returns-in-Err-clause-refused : goal.returns-in-Err-clause-refused
returns-in-Err-clause-refused g c = λ tells on m store call sees asks.
    let caller = c.args.caller.now in
    refused_call m caller.session call c.args.asked.now c.in-Err.refusal asks (c.in-Err.ensures.refused m (caller_of caller sees on))

pub returns-in-Some-clause-refused : goal.returns-in-Some-clause-refused
returns-in-Some-clause-refused g c = λ tells on m store call sees asks.
    let caller = c.args.caller.now in
    let asked = c.args.asked.now in
    let may = c.in-Ok.ensures.may m (caller_of caller sees on) in
    let another : unless_held_by c.in-Ok.opened.number (holder_of (asked.table, asked.key.now) c.args.locks.now) ≡ Some c.in-Some.number =
    ap (λ (o : Option ℕ). unless_held_by c.in-Ok.opened.number o) (sym c.holder.ensures) ∙ sym c.other_than.ensures ∙ c.in-Some.is in
    refused_call m caller.session call asked (Conflict c.in-Some.number) asks
    (meets_another m caller.session asked may c.in-Some.number (held_by_another (asked.table, asked.key.now) c.in-Some.number sees may.opened_is another))

pub returns-in-Some-2-clause-refused : goal.returns-in-Some-2-clause-refused
returns-in-Some-2-clause-refused g c = λ tells on m store call sees asks.
    let caller = c.args.caller.now in
    let asked = c.args.asked.now in
    let may = c.in-Ok.ensures.may m (caller_of caller sees on) in
    let nobody_else : unless_held_by c.in-Ok.opened.number (holder_of (asked.table, asked.key.now) c.args.locks.now) ≡ None =
    ap (λ (o : Option ℕ). unless_held_by c.in-Ok.opened.number o) (sym c.holder.ensures) ∙ sym c.other_than.ensures ∙ c.in_default.is in
    let looked_up : Stays g.W.Site.tells g.W.Site.state g.W.Site.counts c.args.site.now c.row_of.new.site c.args.held.now c.row_of.new.self =
    record { form = c.row_of.ensures.form; keeps = c.row_of.ensures.keeps; same = c.row_of.ensures.same; none_fell = c.row_of.ensures.none_fell } in
    let past = c.in_ok-number.ensures.number tells c.args.locks.now m store may.xact asked.key.now (sees_still tells looked_up sees) may.opened_is
    (c.in_ok-row.ensures.row tells store sees.serves) in
    refused_call m caller.session call asked (Conflict c.in-Some-2.number) asks
    (meets_another m caller.session asked may c.in-Some-2.number
    (met_in_commits (asked.table, asked.key.now) (Some c.in-Some-2.number) sees may.opened_is nobody_else (sym past ∙ c.in-Some-2.is)))

pub returns-in_err-is_there-clause-reads : goal.returns-in_err-is_there-clause-reads
returns-in_err-is_there-clause-reads g c =
    let looked_up : Stays g.W.Site.tells g.W.Site.state g.W.Site.counts c.args.site.now c.row_of.new.site c.args.held.now c.row_of.new.self =
    record { form = c.row_of.ensures.form; keeps = c.row_of.ensures.keeps; same = c.row_of.ensures.same; none_fell = c.row_of.ensures.none_fell } in
    let result = c.from_residual-in_err-is_there.result in
    let error = c.in_err-is_there.field-0.0 in
    reads_behind result (then_stays looked_up c.committer.ensures.stays) c.is_there.ensures.stays
    (if_err (HasReadCause (g.W.Site.counts c.committer.new.site) (g.W.Site.counts c.is_there.new.site)) result error c.from_residual-in_err-is_there.ensures.1
    c.in_err-is_there.ensures.fault)
    (λ tells short store serves still are.
    if_err IsPassing result error c.from_residual-in_err-is_there.ensures.1
    (c.in_err-is_there.ensures.sound tells short store c.args.asked.now.key.now still are (c.in_ok-row.ensures.row tells store serves)))

pub returns-clause-may : goal.returns-clause-may
returns-clause-may g c = λ tells on m store call sees asks.
    let caller = c.args.caller.now in
    let asked = c.args.asked.now in
    let may = c.in-Ok.ensures.may m (caller_of caller sees on) in
    let nobody_else : unless_held_by c.in-Ok.opened.number (holder_of (asked.table, asked.key.now) c.args.locks.now) ≡ None =
    ap (λ (o : Option ℕ). unless_held_by c.in-Ok.opened.number o) (sym c.holder.ensures) ∙ sym c.other_than.ensures ∙ c.in_default.is in
    let looked_up : Stays g.W.Site.tells g.W.Site.state g.W.Site.counts c.args.site.now c.row_of.new.site c.args.held.now c.row_of.new.self =
    record { form = c.row_of.ensures.form; keeps = c.row_of.ensures.keeps; same = c.row_of.ensures.same; none_fell = c.row_of.ensures.none_fell } in
    let found = c.in_ok-row.ensures.row tells store sees.serves in
    let then_sees = sees_still tells looked_up sees in
    let past = c.in_ok-number.ensures.number tells c.args.locks.now m store may.xact asked.key.now then_sees may.opened_is found in
    let free = met_in_commits (asked.table, asked.key.now) None sees may.opened_is nobody_else (sym past ∙ c.in_default-2.is) in
    let reader = reader_of c.reader.result may.opened_is c.reader.ensures.own c.reader.ensures.snapshot in
    let there = c.in_ok-is_there.ensures.there tells c.args.locks.now m store caller.session may.xact
    (sees_through caller.xacts.now c.reader.result.xacts.now c.reader.ensures.xacts (sees_still tells c.committer.ensures.stays then_sees)) reader asked.key.now found in
    if_ok c.writer_unless.result (λ writer is. is_writer m caller.session asked call writer may c.in_ok-is_there.is_there asks free there is.0 is.1 is.2)
    c.writer_unless.ensures.writer

pub returns-clause-refused : goal.returns-clause-refused
returns-clause-refused g c = λ tells on m store call sees asks.
    let caller = c.args.caller.now in
    let asked = c.args.asked.now in
    let may = c.in-Ok.ensures.may m (caller_of caller sees on) in
    let nobody_else : unless_held_by c.in-Ok.opened.number (holder_of (asked.table, asked.key.now) c.args.locks.now) ≡ None =
    ap (λ (o : Option ℕ). unless_held_by c.in-Ok.opened.number o) (sym c.holder.ensures) ∙ sym c.other_than.ensures ∙ c.in_default.is in
    let looked_up : Stays g.W.Site.tells g.W.Site.state g.W.Site.counts c.args.site.now c.row_of.new.site c.args.held.now c.row_of.new.self =
    record { form = c.row_of.ensures.form; keeps = c.row_of.ensures.keeps; same = c.row_of.ensures.same; none_fell = c.row_of.ensures.none_fell } in
    let found = c.in_ok-row.ensures.row tells store sees.serves in
    let then_sees = sees_still tells looked_up sees in
    let past = c.in_ok-number.ensures.number tells c.args.locks.now m store may.xact asked.key.now then_sees may.opened_is found in
    let free = met_in_commits (asked.table, asked.key.now) None sees may.opened_is nobody_else (sym past ∙ c.in_default-2.is) in
    let reader = reader_of c.reader.result may.opened_is c.reader.ensures.own c.reader.ensures.snapshot in
    let there = c.in_ok-is_there.ensures.there tells c.args.locks.now m store caller.session may.xact
    (sees_through caller.xacts.now c.reader.result.xacts.now c.reader.ensures.xacts (sees_still tells c.committer.ensures.stays then_sees)) reader asked.key.now found in
    if_error c.writer_unless.result (λ reply is. is.1 ∙ refused_call m caller.session call asked (refusal_of asked.wants) asks
    (is_refused m caller.session asked may c.in_ok-is_there.is_there free there is.0))
    c.writer_unless.ensures.refused
