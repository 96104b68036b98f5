use Rattle.std.proofs.Common.{◌≡◌, ℕ, ◌+◌, refl, subst}
use Rattle.px_appending.specs.Appending.{AddsOn}
use Rattle.px_appending.specs.Unlinks.{GoesFrom, sweeping}
use Rattle.px_held.specs.Unlinking.{unlink_from}
use Rattle.px_history.specs.Store.{Store}
use Rattle.px_core.specs.Core.{opening_of}
use Rattle.px_core.specs.Errors.{kept_after}
use Rattle.px_core.specs.declared.state.Kept.{Kept}
use Rattle.px_core.proofs.Appended.{Fails, had_room}
use Rattle.px_core.proofs.Sweeping.{AppendsSweep, LastsSwept, sweep_does, sweep_fails}
use Rattle.px_core.proofs.state.Kept.unlink.Goals as goal

pub returns-in-Err : goal.returns-in-Err
returns-in-Err g c =
    let tells = g.W.Site.tells in
    let state = g.W.Site.state in
    let counts = g.W.Site.counts in
    let old : Kept g.row.W.Denot = c.args.self.now in
    let error = c.in-Err.error in
    let new : Kept g.row.W.Denot = record old {
      site = c.append_unlinked.new.site;
      held = c.append_unlinked.new.held;
      log = c.append_unlinked.new.log;
      error = kept_after error old.error;
    } in
    let fails : Fails tells state counts old new error = record {
      held = c.in-Err.ensures.as_before.0;
      log = c.in-Err.ensures.as_before.1;
      active = refl;
      error_is = refl;
      untouched = c.in-Err.ensures.untouched;
      touches = c.append_unlinked.ensures.touches;
      cause = c.in-Err.ensures.cause;
      own = c.in-Err.ensures.own;
      none_fell = c.append_unlinked.ensures.none_fell;
    } in
    let moments : LastsSwept tells state (old.active.xacts.base + c.args.due.now.number) c.args.prepared old new =
    subst (λ (base : ℕ). LastsSwept tells state (base + c.args.due.now.number) c.args.prepared old new) c.base.ensures.is c.append_unlinked.ensures.moments in
    rw (c.after_log_error.ensures.keeps, c.after_log_error.ensures.answer)
    (sweep_fails tells state counts old new c.args.due.now c.args.prepared c.requires.well error fails moments)

pub returns : goal.returns
returns g c =
    let tells = g.W.Site.tells in
    let state = g.W.Site.state in
    let counts = g.W.Site.counts in
    let due = c.args.due.now in
    let prepared = c.args.prepared in
    let old : Kept g.row.W.Denot = c.args.self.now in
    let new : Kept g.row.W.Denot = record old {
      site = c.append_unlinked.new.site;
      held = c.append_unlinked.new.held;
      active = c.swept.new.self;
      log = c.append_unlinked.new.log;
    } in
    let appends : AppendsSweep tells state counts (old.active.xacts.base + due.number) prepared old new = record {
      goes = subst (λ (base : ℕ). (store : Store) (from : ℕ) → GoesFrom store prepared from (opening_of state old)
          → AddsOn tells (unlink_from prepared from) (sweeping prepared from (base + due.number)) (opening_of state old) (opening_of state new))
          c.base.ensures.is c.in_default.ensures.appended;
      store = c.in_default.ensures.store;
      moments = subst (λ (base : ℕ). LastsSwept tells state (base + due.number) prepared old new) c.base.ensures.is c.append_unlinked.ensures.moments;
      touches = c.append_unlinked.ensures.touches;
      frames = c.in_default.ensures.frames;
      durable = c.append_unlinked.ensures.shape.durable;
      room = had_room old.log c.in_default.field-0 c.in_default.ensures.full;
      none_fell = c.append_unlinked.ensures.none_fell;
    } in
    sweep_does tells state counts old new due prepared appends
    (record { active = c.swept.ensures.active; rest = c.swept.ensures.rest; stored = c.swept.ensures.stored }) c.requires.whole c.requires.well c.requires.ready c.requires.due
