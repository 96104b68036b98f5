use Rattle.px_working.proofs.Sweeping.{nothing_works, sweep_follows, sweep_lasts, sweep_works, swept_lasts}
use Rattle.px_working.proofs.calls.a_sweep_goes_on.Goals as goal

pub returns-clause-follows : goal.returns-clause-follows
returns-clause-follows c parts least m life restart marks before w t row place lasts works at some =
    let sweep = c.a_sweep_is_an_unlink.ensures in
    sweep_follows sweep.moves sweep.chains sweep.few c.machines_are_kept.ensures.sweep c.committed_rows_are_shown.ensures c.what_a_frame_may_hold.ensures c.fronts_hold.ensures
    parts least m life restart marks before w t row place lasts works at some

pub returns-clause-lasts : goal.returns-clause-lasts
returns-clause-lasts c parts least m life restart marks before now w t row place lasts works at some =
    let sweep = c.a_sweep_is_an_unlink.ensures in
    sweep_lasts sweep.moves sweep.chains sweep.few c.machines_are_kept.ensures.sweep c.committed_rows_are_shown.ensures c.what_a_frame_may_hold.ensures c.fronts_hold.ensures
    parts least m life restart marks before w t row place lasts works at some c.a_step_lasts.ensures now

pub returns-clause-works : goal.returns-clause-works
returns-clause-works c parts least m life restart marks before w t row place lasts works at some =
    let sweep = c.a_sweep_is_an_unlink.ensures in
    sweep_works sweep.moves sweep.chains sweep.few c.machines_are_kept.ensures.sweep c.committed_rows_are_shown.ensures c.what_a_frame_may_hold.ensures c.fronts_hold.ensures
    parts least m life restart marks before w t row place lasts works at some

pub returns-clause-nothing : goal.returns-clause-nothing
returns-clause-nothing c = nothing_works c.a_sweep_is_an_unlink.ensures.nothing c.machines_are_kept.ensures.sweep

pub returns-clause-nothing_lasts : goal.returns-clause-nothing_lasts
returns-clause-nothing_lasts c = swept_lasts

pub returns-clause-idle : goal.returns-clause-idle
returns-clause-idle c = c.a_sweep_moves_the_base.ensures.idle
