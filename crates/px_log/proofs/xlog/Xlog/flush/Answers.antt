use Rattle.std.proofs.Common.{◌^◌, ◌≤◌, ap, arith}
use Rattle.px_log.specs.Log.{Log}
use Rattle.px_log.proofs.Appends.{flush_moments}
use Rattle.px_log.proofs.Touching.{sync_touches}
use Rattle.px_log.proofs.xlog.Xlog.flush.Goals as goal

pub returns-in_err-sync-clause-moments : goal.returns-in_err-sync-clause-moments
returns-in_err-sync-clause-moments g c t = λ changes is. let below : c.self.inside.frames ≤ 2 ^ 48 = c.self.invariant.1 in flush_moments is (omega (arith, ap (λ (l : Log). l.frames) c.self.view_is, below)) c.log_file-file.ensures (c.sync.ensures.moves t)

pub returns-clause-moments : goal.returns-clause-moments
returns-clause-moments g c t = λ changes is. let below : c.self.inside.frames ≤ 2 ^ 48 = c.self.invariant.1 in flush_moments is (omega (arith, ap (λ (l : Log). l.frames) c.self.view_is, below)) c.log_file-file.ensures (c.sync.ensures.moves t)

pub returns-in_err-sync-clause-touches : goal.returns-in_err-sync-clause-touches
returns-in_err-sync-clause-touches g c t = sync_touches c.log_file-file.ensures (c.sync.ensures.moves t)

pub returns-clause-touches : goal.returns-clause-touches
returns-clause-touches g c t = sync_touches c.log_file-file.ensures (c.sync.ensures.moves t)
