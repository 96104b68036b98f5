use Rattle.std.proofs.Common.{◌≡◌, true, ◌+◌, ◌<◌, ◌^◌, refl, sym, ap, subst, ◌∙◌, inl, arith}
use Rattle.std.proofs.lemmas.Result.{err_from_is_err_and}
use Rattle.std.specs.Prelude.{⊤}
use Rattle.px_active.specs.Active.{AreStored}
use Rattle.px_active.specs.declared.active.Active.{Active}
use Rattle.px_calls.specs.declared.call.Call.TheVariants.{Commit}
use Rattle.px_history.specs.Steps.{Step}
use Rattle.px_site.proofs.Causes.{no_fall}
use Rattle.px_core.specs.Errors.{kept_after}
use Rattle.px_core.specs.declared.state.Kept.{Kept}
use Rattle.px_core.proofs.Appended.{Appends, Fails, fails_does, had_room, stands_on}
use Rattle.px_core.proofs.Ending.{EndsInMemory, Flushes, commit_does, commit_framed, commit_logged, commit_step, empty_end_does, ends_behind, none_counted, some_logged, sync_fails, unmoved}
use Rattle.px_core.proofs.Leaving.{empty_commit_leaves}
use Rattle.px_core.proofs.state.Kept.commit.Goals as goal

pub returns-in_default : goal.returns-in_default
returns-in_default g c =
    let old : Kept g.row.W.Denot = c.args.self.now in
    let new : Kept g.row.W.Denot = record old { active = c.end.new.self } in
    empty_end_does g.W.Site.tells g.W.Site.state g.W.Site.counts c.args.session true old new c.end.result (λ m works. ⊤)
    (record { reply_is = c.end.ensures.reply; active = c.end.ensures.active; xacts = c.end.ensures.xacts })
    (unmoved g.W.Site.tells g.W.Site.state old c.end.new.self) c.requires.well c.requires.whole
    (c.end.ensures.commits ∙ none_counted old.active c.args.session true (sym c.writer.ensures.is ∙ c.in_default.is)) c.end.ensures.stored no_fall
    (λ m works. empty_commit_leaves m c.args.session (c.in_default.ensures.who m works.active))

pub returns-in-Err : goal.returns-in-Err
returns-in-Err g c =
    let tells = g.W.Site.tells in
    let state = g.W.Site.state in
    let counts = g.W.Site.counts in
    let old : Kept g.row.W.Denot = c.args.self.now in
    let error = c.in-Err.error in
    let new : Kept g.row.W.Denot = record old { site = c.append_end.new.site; log = c.append_end.new.log; error = kept_after error old.error } in
    let xn = c.in-Some.xn in
    let number = old.active.commits + 1 in
    let small : number < 2 ^ 64 = omega (arith, c.requires.well.few, c.requires.well.has.room) in
    let fails : Fails tells state counts old new error = record {
      held = refl;
      log = c.in-Err.ensures.as_before;
      active = refl;
      error_is = refl;
      untouched = c.in-Err.ensures.untouched;
      touches = c.append_end.ensures.touches;
      cause = c.in-Err.ensures.cause;
      own = c.in-Err.ensures.own;
      none_fell = c.append_end.ensures.none_fell;
    } in
    rw (c.after_log_error.ensures.keeps, c.after_log_error.ensures.answer)
    (fails_does tells state counts c.args.session Commit old new (λ m works. ⊤) c.requires.well error fails c.in-Err.ensures.room (inl refl)
    (λ t m works holds. some_logged _ (commit_logged m c.args.session xn (c.in-Some.ensures.who m works.active)))
    (λ t m works holds. stands_on tells state c.args.session Commit old new (Step.commit xn number) t m works
    (commit_step state c.args.session xn number old m works (c.in-Some.ensures.who m works.active) (ap (λ n. n + 1) works.active.commits) small)
    (c.append_end.ensures.moments old.held)))

pub returns-in_err-sync : goal.returns-in_err-sync
returns-in_err-sync g c =
    let p = err_from_is_err_and c.from_residual.result c.from_residual.ensures.1 in
    let tells = g.W.Site.tells in
    let state = g.W.Site.state in
    let counts = g.W.Site.counts in
    let old : Kept g.row.W.Denot = c.args.self.now in
    let mid : Kept g.row.W.Denot = record old { site = c.append_end.new.site; log = c.append_end.new.log } in
    let synced : Kept g.row.W.Denot = c.sync.new.self in
    let xn = c.in-Some.xn in
    let number = old.active.commits + 1 in
    let small : number < 2 ^ 64 = omega (arith, c.requires.well.few, c.requires.well.has.room) in
    let same : synced.active ≡ old.active = ap (λ (k : Kept g.row.W.Denot). k.active) c.sync.ensures.rest in
    let appends : Appends tells state counts (Step.commit xn number) old mid = record {
      goes = c.in_default-append_end.ensures.appended old.held;
      store = c.in_default-append_end.ensures.store old.held;
      moments = c.append_end.ensures.moments old.held;
      touches = c.append_end.ensures.touches;
      frames = c.in_default-append_end.ensures.frames;
      durable = c.append_end.ensures.shape.durable;
      room = had_room old.log c.in_default-append_end.field-0 c.in_default-append_end.ensures.full;
      none_fell = c.append_end.ensures.none_fell;
    } in
    let flushes : Flushes tells state counts mid synced = record {
      store = c.sync.ensures.store;
      moments = c.sync.ensures.moments;
      touches = c.sync.ensures.touches;
      frames = c.sync.ensures.frames;
      none_fell = c.sync.ensures.none_fell;
    } in
    rw (p.1, p.2)
    (sync_fails tells state counts c.args.session xn number old mid synced appends flushes c.requires.well (λ m works. ⊤)
    (λ m works. commit_step state c.args.session xn number old m works (c.in-Some.ensures.who m works.active) (ap (λ n. n + 1) works.active.commits) small)
    c.in_err-sync.field-0.0 c.in_err-sync.ensures.breaks same c.in_err-sync.ensures.cause c.in_err-sync.ensures.own)

pub returns : goal.returns
returns g c =
    let tells = g.W.Site.tells in
    let state = g.W.Site.state in
    let counts = g.W.Site.counts in
    let old : Kept g.row.W.Denot = c.args.self.now in
    let mid : Kept g.row.W.Denot = record old { site = c.append_end.new.site; log = c.append_end.new.log } in
    let synced : Kept g.row.W.Denot = c.sync.new.self in
    let xn = c.in-Some.xn in
    let number = old.active.commits + 1 in
    let small : number < 2 ^ 64 = omega (arith, c.requires.well.few, c.requires.well.has.room) in
    let same : synced.active ≡ old.active = ap (λ (k : Kept g.row.W.Denot). k.active) c.sync.ensures.rest in
    let appends : Appends tells state counts (Step.commit xn number) old mid = record {
      goes = c.in_default-append_end.ensures.appended old.held;
      store = c.in_default-append_end.ensures.store old.held;
      moments = c.append_end.ensures.moments old.held;
      touches = c.append_end.ensures.touches;
      frames = c.in_default-append_end.ensures.frames;
      durable = c.append_end.ensures.shape.durable;
      room = had_room old.log c.in_default-append_end.field-0 c.in_default-append_end.ensures.full;
      none_fell = c.append_end.ensures.none_fell;
    } in
    let new : Kept g.row.W.Denot = record synced { active = c.end-2.new.self } in
    let flushes : Flushes tells state counts mid new = record {
      store = c.sync.ensures.store;
      moments = c.sync.ensures.moments;
      touches = c.sync.ensures.touches;
      frames = c.sync.ensures.frames;
      none_fell = c.sync.ensures.none_fell;
    } in
    let ends : EndsInMemory c.args.session true old new c.end-2.result =
    ends_behind c.args.session true old synced new c.end-2.result same
    (record { reply_is = c.end-2.ensures.reply; active = c.end-2.ensures.active; xacts = c.end-2.ensures.xacts }) in
    commit_does tells state counts c.args.session xn number old mid new appends flushes c.requires.well (λ m works. ⊤)
    (λ m works. commit_step state c.args.session xn number old m works (c.in-Some.ensures.who m works.active) (ap (λ n. n + 1) works.active.commits) small)
    c.end-2.result (c.in_ok-sync.ensures.still ∙ c.requires.whole)
    (let count = ap (λ (a : Active). a.commits) same in omega (arith, count, c.end-2.ensures.few))
    (λ stored. c.end-2.ensures.stored (subst (λ (a : Active). AreStored a.xacts) (sym same) stored)) c.in_ok-sync.ensures.marks
    c.in_ok-sync.ensures.flushed
    (λ m works. commit_framed tells state counts c.args.session xn number old new c.end-2.result (λ m works. ⊤) ends m works
    (c.in-Some.ensures.who m works.active) (ap (λ n. n + 1) works.active.commits) small)
