use Rattle.std.proofs.Common.{false, refl, sym, ◌∙◌}
use Rattle.std.specs.Prelude.{⊤}
use Rattle.px_calls.specs.declared.call.Call.TheVariants.{Rollback}
use Rattle.px_history.specs.Steps.{Step}
use Rattle.px_site.proofs.Causes.{no_fall}
use Rattle.px_core.specs.Errors.{kept_after}
use Rattle.px_core.specs.declared.state.Kept.{Kept}
use Rattle.px_core.proofs.Appended.{Appends, Fails, fails_does, framed_does, had_room, stands_on}
use Rattle.px_core.proofs.Ending.{EndsInMemory, empty_end_does, none_counted, rollback_commits, rollback_framed, rollback_logged, rollback_step, some_logged, unmoved}
use Rattle.px_core.proofs.Leaving.{empty_rollback_leaves}
use Rattle.px_core.proofs.state.Kept.roll_back.Goals as goal

pub returns-in_default : goal.returns-in_default
returns-in_default g c =
    let old : Kept g.row.W.Denot = c.args.self.now in
    let new : Kept g.row.W.Denot = record old { active = c.end.new.self } in
    empty_end_does g.W.Site.tells g.W.Site.state g.W.Site.counts c.args.session false old new c.end.result (λ m works. ⊤)
    (record { reply_is = c.end.ensures.reply; active = c.end.ensures.active; xacts = c.end.ensures.xacts })
    (unmoved g.W.Site.tells g.W.Site.state old c.end.new.self) c.requires.well c.requires.whole
    (c.end.ensures.commits ∙ none_counted old.active c.args.session false (sym c.writer.ensures.is ∙ c.in_default.is)) c.end.ensures.stored no_fall
    (λ m works. empty_rollback_leaves m c.args.session (c.in_default.ensures.who m works.active))

pub returns-in-Err : goal.returns-in-Err
returns-in-Err g c =
    let tells = g.W.Site.tells in
    let state = g.W.Site.state in
    let counts = g.W.Site.counts in
    let old : Kept g.row.W.Denot = c.args.self.now in
    let error = c.in-Err.error in
    let new : Kept g.row.W.Denot = record old { site = c.append_end.new.site; log = c.append_end.new.log; error = kept_after error old.error } in
    let xn = c.in-Some.xn in
    let fails : Fails tells state counts old new error = record {
      held = refl;
      log = c.in-Err.ensures.as_before;
      active = refl;
      error_is = refl;
      untouched = c.in-Err.ensures.untouched;
      touches = c.append_end.ensures.touches;
      cause = c.in-Err.ensures.cause;
      own = c.in-Err.ensures.own;
      none_fell = c.append_end.ensures.none_fell;
    } in
    rw (c.after_log_error.ensures.keeps, c.after_log_error.ensures.answer)
    (fails_does tells state counts c.args.session Rollback old new (λ m works. ⊤) c.requires.well error fails c.in-Err.ensures.room refl
    (λ t m works holds. some_logged _ (rollback_logged m c.args.session xn (c.in-Some.ensures.who m works.active)))
    (λ t m works holds. stands_on tells state c.args.session Rollback old new (Step.rollback xn) t m works
    (rollback_step state c.args.session xn old m works (c.in-Some.ensures.who m works.active))
    (c.append_end.ensures.moments old.held)))

pub returns : goal.returns
returns g c =
    let tells = g.W.Site.tells in
    let state = g.W.Site.state in
    let counts = g.W.Site.counts in
    let old : Kept g.row.W.Denot = c.args.self.now in
    let new : Kept g.row.W.Denot = record old { site = c.append_end.new.site; log = c.append_end.new.log; active = c.end-2.new.self } in
    let xn = c.in-Some.xn in
    let appends : Appends tells state counts (Step.rollback xn) old new = record {
      goes = c.in_default-append_end.ensures.appended old.held;
      store = c.in_default-append_end.ensures.store old.held;
      moments = c.append_end.ensures.moments old.held;
      touches = c.append_end.ensures.touches;
      frames = c.in_default-append_end.ensures.frames;
      durable = c.append_end.ensures.shape.durable;
      room = had_room old.log c.in_default-append_end.field-0 c.in_default-append_end.ensures.full;
      none_fell = c.append_end.ensures.none_fell;
    } in
    let ends : EndsInMemory c.args.session false old new c.end-2.result = record { reply_is = c.end-2.ensures.reply; active = c.end-2.ensures.active; xacts = c.end-2.ensures.xacts } in
    framed_does tells state counts c.args.session Rollback old new (λ m works. ⊤) (Step.rollback xn) c.end-2.result appends c.requires.well c.requires.whole
    c.end-2.ensures.few c.end-2.ensures.stored (λ m. refl)
    (λ t m works holds. (
      rollback_framed tells state counts c.args.session xn old new c.end-2.result (λ m works. ⊤) ends m works (c.in-Some.ensures.who m works.active),
      rollback_commits m c.args.session,
    ))
