use Rattle.std.proofs.Common.{◌≡◌, ℕ, ◌<◌, Option, Result, refl, sym, subst, arith}
use Rattle.std.proofs.lemmas.Result.{err_from_is_err_and}
use Rattle.std.specs.Prelude.{IfErr, IfOk, IfSome, IsNone}
use Rattle.px_answers.proofs.Leaving.{then_stays}
use Rattle.px_answers.specs.Reading.{Stays}
use Rattle.px_answers.specs.Writing.{IsAdmitted, MayWrite}
use Rattle.px_answers.specs.declared.writing.Writer.{Writer}
use Rattle.px_calls.specs.declared.reply.Reply.{Reply}
use Rattle.px_calls.specs.Steps.{is_refusal, reply_of}
use Rattle.px_held.specs.Linking.{HasPlaceFor, IsNextPlace}
use Rattle.px_history.specs.Fitting.{IsStoredNumber}
use Rattle.px_tables.specs.declared.linking.Place.{Place}
use Rattle.px_working.specs.Follows.{last_store}
use Rattle.px_core.specs.declared.state.Kept.{Kept}
use Rattle.px_core.proofs.Finding.{asked_as, found_error, found_refusal, found_room, full_there, may_put, not_full_there, room_for, some_is_not_none}
use Rattle.px_core.proofs.Reading.{caller_sees}
use Rattle.px_core.proofs.state.Kept.place_for.Goals as goal

pub returns-in_err-writer : goal.returns-in_err-writer
returns-in_err-writer g c =
    let p = err_from_is_err_and c.from_residual.result c.from_residual.ensures.1 in
    let old : Kept g.row.W.Denot = c.args.self.now in
    let new : Kept g.row.W.Denot = record old { site = c.may_write.new.site; held = c.may_write.new.held } in
    let reads = c.in_err-writer.ensures.reads in
    rw (p.1, p.2)
    (found_error g.W.Site.tells g.W.Site.state g.W.Site.counts c.args.session c.args.call.now old new refl reads.stays c.in_err-writer.field-0.0
    reads.cause.fault reads.cause.sound)

pub returns-in-Err : goal.returns-in-Err
returns-in-Err g c =
    let tells = g.W.Site.tells in
    let state = g.W.Site.state in
    let counts = g.W.Site.counts in
    let old : Kept g.row.W.Denot = c.args.self.now in
    let new : Kept g.row.W.Denot = record old { site = c.may_write.new.site; held = c.may_write.new.held } in
    let on = c.caller-caller.ensures in
    let call = c.args.call.now in
    found_refusal tells state counts c.args.session call old new refl c.may_write.ensures.reads.stays c.in-Err.refusal
    (subst (λ (a : Result Writer Reply). IfErr a (λ reply. is_refusal reply ≡ _)) c.in-Err.is c.in_ok-writer.ensures.refusal)
    (λ t m works. subst (λ (s : ℕ). c.in-Err.refusal ≡ reply_of m s call) on.session
    (subst (λ (a : Result Writer Reply). IfErr a (λ reply. reply ≡ reply_of m c.caller-caller.result.session call)) c.in-Err.is
    (c.in_ok-writer.ensures.refused t on.on m (last_store works.life) call
    (caller_sees tells state counts c.args.session call old new c.caller-caller.result on.session on.xacts m works) c.asked_by-asked.ensures)))

pub returns-in-Some : goal.returns-in-Some
returns-in-Some g c =
    let tells = g.W.Site.tells in
    let state = g.W.Site.state in
    let counts = g.W.Site.counts in
    let old : Kept g.row.W.Denot = c.args.self.now in
    let new : Kept g.row.W.Denot = record old { site = c.place_for.new.site; held = c.place_for.new.self } in
    let on = c.caller-caller.ensures in
    let call = c.args.call.now in
    let asked = c.asked_by-asked.result in
    let first = c.may_write.ensures.reads.stays in
    let second : Stays tells state counts c.may_write.new.site c.place_for.new.site c.may_write.new.held c.place_for.new.self =
    record { form = c.place_for.ensures.form; keeps = c.place_for.ensures.keeps; same = c.place_for.ensures.same; none_fell = c.place_for.ensures.none_fell } in
    let both = then_stays first second in
    let few : c.caller-caller.result.tables < 256 = omega (arith, on.on.tables, c.requires.well.has.tables, c.requires.well.has.few) in
    found_room tells state counts c.args.session call old new refl both (record { writer = c.in-Ok.writer; place = c.in-Some.place })
    (room_for old new c.args.session call c.caller-caller.result asked c.in-Ok.writer c.in-Some.place c.asked_by-asked.ensures on.on both.form refl on.session on.xacts few
    (subst (λ (a : Result Writer Reply). IfOk a (IsAdmitted c.caller-caller.result old.active.locks asked)) c.in-Ok.is c.in_ok-writer.ensures.admitted)
    (subst (λ (a : Result Writer Reply). IfOk a (λ writer. IsStoredNumber writer.stored)) c.in-Ok.is c.in_ok-writer.ensures.stored)
    (subst (λ (o : Option Place). IfSome o (HasPlaceFor c.place_for.new.self asked.table asked.key.now)) c.in-Some.is c.in_ok-place.ensures.place))
    (λ t m works.
    let store = last_store works.life in
    let serves = first.keeps store works.has.store.serves in
    let full = c.in_ok-place.ensures.full t store serves in
    may_put m store c.args.session call asked c.in-Ok.writer c.in-Some.place (asked_as call asked c.asked_by-asked.ensures)
    (subst (λ (s : ℕ). MayWrite m s call asked.table c.in-Ok.writer) on.session
    (subst (λ (a : Result Writer Reply). IfOk a (MayWrite m c.caller-caller.result.session call asked.table)) c.in-Ok.is
    (c.in_ok-writer.ensures.may t on.on m store call
    (caller_sees tells state counts c.args.session call old new c.caller-caller.result on.session on.xacts m works) c.asked_by-asked.ensures)))
    (not_full_there state old m works asked.table asked.key.now (λ is. some_is_not_none c.in_ok-place.field-0 c.in-Some.place c.in-Some.is (full.1 is)))
    (subst (λ (o : Option Place). IfSome o (IsNextPlace (store.tables asked.table) asked.key.now)) c.in-Some.is (c.in_ok-place.ensures.next t store serves)))

pub returns-in-None : goal.returns-in-None
returns-in-None g c =
    let tells = g.W.Site.tells in
    let state = g.W.Site.state in
    let counts = g.W.Site.counts in
    let old : Kept g.row.W.Denot = c.args.self.now in
    let new : Kept g.row.W.Denot = record old { site = c.place_for.new.site; held = c.place_for.new.self } in
    let on = c.caller-caller.ensures in
    let call = c.args.call.now in
    let asked = c.asked_by-asked.result in
    let first = c.may_write.ensures.reads.stays in
    let second : Stays tells state counts c.may_write.new.site c.place_for.new.site c.may_write.new.held c.place_for.new.self =
    record { form = c.place_for.ensures.form; keeps = c.place_for.ensures.keeps; same = c.place_for.ensures.same; none_fell = c.place_for.ensures.none_fell } in
    found_refusal tells state counts c.args.session call old new refl (then_stays first second) _ refl
    (λ t m works.
    let store = last_store works.life in
    let serves = first.keeps store works.has.store.serves in
    let full = c.in_ok-place.ensures.full t store serves in
    let may = subst (λ (s : ℕ). MayWrite m s call asked.table c.in-Ok.writer) on.session
    (subst (λ (a : Result Writer Reply). IfOk a (MayWrite m c.caller-caller.result.session call asked.table)) c.in-Ok.is
    (c.in_ok-writer.ensures.may t on.on m store call
    (caller_sees tells state counts c.args.session call old new c.caller-caller.result on.session on.xacts m works) c.asked_by-asked.ensures)) in
    sym (may.full (full_there state old m works asked.table asked.key.now (full.0 (subst (λ (o : Option Place). IsNone o) (sym c.in-None.is) refl)))))
