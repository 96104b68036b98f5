use Rattle.std.proofs.Common.{arith}
use Rattle.px_log.proofs.CutMoments.{cut_moments, sync_cut_moments, cut_left}
use Rattle.px_log.proofs.Touching.{change_touches, sync_touches, touches_less, touches_then}
use Rattle.px_log.proofs.open.cut_log.Goals as goal

pub returns-in_err-cut-clause-moments : goal.returns-in_err-cut-clause-moments
returns-in_err-cut-clause-moments g c t = cut_moments c.log_file-file.ensures (c.cut.ensures.moves t)

pub returns-in_err-sync-clause-moments : goal.returns-in_err-sync-clause-moments
returns-in_err-sync-clause-moments g c t = sync_cut_moments c.log_file-file.ensures (c.in_ok-cut.ensures.moves t) (c.sync.ensures.moves t)

pub returns-clause-moments : goal.returns-clause-moments
returns-clause-moments g c t = sync_cut_moments c.log_file-file.ensures (c.in_ok-cut.ensures.moves t) (c.sync.ensures.moves t)

pub returns-clause-left : goal.returns-clause-left
returns-clause-left g c t = cut_left c.log_file-file.ensures (c.in_ok-cut.ensures.moves t) (c.in_ok-sync.ensures.moves t)

pub returns-in_err-cut-clause-touches : goal.returns-in_err-cut-clause-touches
returns-in_err-cut-clause-touches g c t = touches_less (omega arith) (change_touches c.log_file-file.ensures (c.cut.ensures.moves t))

pub returns-in_err-sync-clause-touches : goal.returns-in_err-sync-clause-touches
returns-in_err-sync-clause-touches g c t =
    touches_then (change_touches c.log_file-file.ensures (c.cut.ensures.moves t)) (sync_touches c.log_file-file.ensures (c.sync.ensures.moves t))

pub returns-clause-touches : goal.returns-clause-touches
returns-clause-touches g c t =
    touches_then (change_touches c.log_file-file.ensures (c.cut.ensures.moves t)) (sync_touches c.log_file-file.ensures (c.sync.ensures.moves t))
