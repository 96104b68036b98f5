use Rattle.std.proofs.Common.{ap, ◌∙◌, arith}
use Rattle.px_log.proofs.Touching.{changes_fewer, changes_then, one_change, one_sync}
use Rattle.px_standing.specs.Files.{Files}
use Rattle.px_recovery.proofs.Contents.{change_others, sync_content}
use Rattle.px_recovery.proofs.NewMoments.{writing_moments, syncing_moments}
use Rattle.px_recovery.proofs.making.write_restart.Goals as goal

pub returns-in_err-write_at-clause-moments : goal.returns-in_err-write_at-clause-moments
returns-in_err-write_at-clause-moments g c t = writing_moments c.restart_bytes-bytes.ensures (c.write_at.ensures.moves t)

pub returns-clause-moments : goal.returns-clause-moments
returns-clause-moments g c t = syncing_moments c.restart_bytes-bytes.ensures (c.in_ok-write_at.ensures.moves t) (c.sync.ensures.moves t)

pub returns-in_err-write_at-clause-others : goal.returns-in_err-write_at-clause-others
returns-in_err-write_at-clause-others g c t = change_others (c.write_at.ensures.moves t)

pub returns-clause-others : goal.returns-clause-others
returns-clause-others g c t name apart = ap (λ (files : Files). files name) (sync_content (c.sync.ensures.moves t)) ∙ change_others (c.write_at.ensures.moves t) name apart

pub returns-in_err-write_at-clause-few : goal.returns-in_err-write_at-clause-few
returns-in_err-write_at-clause-few g c t = changes_fewer (omega arith) (one_change (c.write_at.ensures.moves t))

pub returns-clause-few : goal.returns-clause-few
returns-clause-few g c t = changes_then (one_change (c.write_at.ensures.moves t)) (one_sync (c.sync.ensures.moves t))
