use Rattle.std.specs.Prelude.{◌+◌}
use Rattle.px_calls.specs.declared.call.Call.TheVariants.{Rollback}
use Rattle.px_history.specs.Steps.{Step}
use Rattle.px_working.specs.Follows.{last_store}
use Rattle.px_working.proofs.Adding.{rollback_adds}
use Rattle.px_working.proofs.Calling.{adds_follows, adds_lasts, works_on}
use Rattle.px_working.proofs.calls.a_rollback_goes_on.Goals as goal

pub returns-clause-follows : goal.returns-clause-follows
returns-clause-follows c parts least m life restart marks before session xact lasts works at some =
    adds_follows c.committed_rows_are_shown.ensures c.what_a_frame_may_hold.ensures parts least m life restart marks before session Rollback
    (Step.rollback (m.base + xact.number)) lasts works
    (rollback_adds c.an_end_is_a_step.ensures.rollback c.an_end_is_a_step.ensures.rolled_back c.machines_are_kept.ensures.call parts m life restart session xact works at some)

pub returns-clause-lasts : goal.returns-clause-lasts
returns-clause-lasts c parts least m life restart marks before now session xact lasts works at some =
    adds_lasts c.a_step_lasts.ensures c.committed_rows_are_shown.ensures c.what_a_frame_may_hold.ensures parts least m life restart marks before now session Rollback
    (Step.rollback (m.base + xact.number)) lasts works
    (rollback_adds c.an_end_is_a_step.ensures.rollback c.an_end_is_a_step.ensures.rolled_back c.machines_are_kept.ensures.call parts m life restart session xact works at some)

pub returns-clause-works : goal.returns-clause-works
returns-clause-works c parts least m life restart marks before session xact lasts works at some =
    works_on parts least m life restart marks before session Rollback (Step.rollback (m.base + xact.number)) lasts works
    (c.an_end_is_a_step.ensures.rolled_back parts m (last_store life) session xact works.holds works.kept at some) (c.machines_are_kept.ensures.call m session Rollback works.kept)
