use Rattle.px_history.specs.Steps.{Step}
use Rattle.px_working.specs.Follows.{last_store}
use Rattle.px_working.proofs.Adding.{write_adds}
use Rattle.px_working.proofs.Calling.{adds_follows, adds_lasts, works_on}
use Rattle.px_working.proofs.calls.a_write_goes_on.Goals as goal

pub returns-clause-follows : goal.returns-clause-follows
returns-clause-follows c parts least m life restart marks before session call t header slot lasts works by places fits =
    let put = c.a_write_is_a_put.ensures in
    adds_follows c.committed_rows_are_shown.ensures c.what_a_frame_may_hold.ensures parts least m life restart marks before session call (Step.put t header slot) lasts works
    (write_adds put.step put.alone put.chains c.machines_are_kept.ensures.call parts m life restart session call t header slot works by places fits)

pub returns-clause-lasts : goal.returns-clause-lasts
returns-clause-lasts c parts least m life restart marks before now session call t header slot lasts works by places fits =
    let put = c.a_write_is_a_put.ensures in
    adds_lasts c.a_step_lasts.ensures c.committed_rows_are_shown.ensures c.what_a_frame_may_hold.ensures parts least m life restart marks before now session call (Step.put t header slot) lasts works
    (write_adds put.step put.alone put.chains c.machines_are_kept.ensures.call parts m life restart session call t header slot works by places fits)

pub returns-clause-works : goal.returns-clause-works
returns-clause-works c parts least m life restart marks before session call t header slot lasts works by =
    works_on parts least m life restart marks before session call (Step.put t header slot) lasts works
    (c.a_write_is_a_put.ensures.chains parts m (last_store life) session call t header slot works.holds works.kept by) (c.machines_are_kept.ensures.call m session call works.kept)
