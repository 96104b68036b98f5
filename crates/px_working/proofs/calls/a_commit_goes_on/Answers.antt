use Rattle.std.specs.Prelude.{◌+◌}
use Rattle.px_calls.specs.declared.call.Call.TheVariants.{Commit}
use Rattle.px_history.specs.Steps.{Step}
use Rattle.px_model.specs.Machine.{commits}
use Rattle.px_working.specs.Follows.{last_store}
use Rattle.px_working.proofs.Adding.{commit_adds}
use Rattle.px_working.proofs.Calling.{adds_follows, adds_lasts, works_on}
use Rattle.px_working.proofs.calls.a_commit_goes_on.Goals as goal

pub returns-clause-follows : goal.returns-clause-follows
returns-clause-follows c parts least m life restart marks before session xact lasts works at some small =
    adds_follows c.committed_rows_are_shown.ensures c.what_a_frame_may_hold.ensures parts least m life restart marks before session Commit
    (Step.commit (m.base + xact.number) (commits m + 1)) lasts works
    (commit_adds c.an_end_is_a_step.ensures.commit c.an_end_is_a_step.ensures.committed c.machines_are_kept.ensures.call c.one_writer_of_a_row.ensures.history
    parts least m life restart marks before session xact lasts works at some small)

pub returns-clause-lasts : goal.returns-clause-lasts
returns-clause-lasts c parts least m life restart marks before now session xact lasts works at some small =
    adds_lasts c.a_step_lasts.ensures c.committed_rows_are_shown.ensures c.what_a_frame_may_hold.ensures parts least m life restart marks before now session Commit
    (Step.commit (m.base + xact.number) (commits m + 1)) lasts works
    (commit_adds c.an_end_is_a_step.ensures.commit c.an_end_is_a_step.ensures.committed c.machines_are_kept.ensures.call c.one_writer_of_a_row.ensures.history
    parts least m life restart marks before session xact lasts works at some small)

pub returns-clause-works : goal.returns-clause-works
returns-clause-works c parts least m life restart marks before session xact lasts works at some =
    works_on parts least m life restart marks before session Commit (Step.commit (m.base + xact.number) (commits m + 1)) lasts works
    (c.an_end_is_a_step.ensures.committed parts m (last_store life) session xact works.holds works.kept at some) (c.machines_are_kept.ensures.call m session Commit works.kept)
