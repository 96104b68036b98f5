use Rattle.std.proofs.Common.{◌∙◌, arith, refl}
use Rattle.px_log.proofs.Touching.{changes_fewer, changes_then, one_sync}
use Rattle.px_recovery.proofs.Contents.{sync_content}
use Rattle.px_recovery.proofs.Syncing.{both_alone, both_quiet, both_rest, both_settle, both_stand, syncing_quiet}
use Rattle.px_recovery.proofs.Touched.{both_synced, first_synced, none_touched}
use Rattle.px_recovery.proofs.restarts.sync_restarts.Goals as goal

pub returns-in_err-sync-clause-content : goal.returns-in_err-sync-clause-content
returns-in_err-sync-clause-content g c t = sync_content (c.sync.ensures.moves t)

pub returns-in_err-sync-clause-standing : goal.returns-in_err-sync-clause-standing
returns-in_err-sync-clause-standing g c t commits rows settled = c.a_sync_leaves_what_stands.ensures.moments _ _ _ _ commits rows settled (c.sync.ensures.moves t)

pub returns-in_err-sync-clause-quiet : goal.returns-in_err-sync-clause-quiet
returns-in_err-sync-clause-quiet g c t = syncing_quiet (c.sync.ensures.moves t)

pub returns-clause-rests : goal.returns-clause-rests
returns-clause-rests g c t = both_rest (c.in_ok-sync.ensures.moves t) (c.sync-2.ensures.moves t)

pub returns-clause-content : goal.returns-clause-content
returns-clause-content g c t = sync_content (c.sync-2.ensures.moves t) ∙ sync_content (c.sync.ensures.moves t)

pub returns-clause-alone : goal.returns-clause-alone
returns-clause-alone g c t = both_alone (c.in_ok-sync.ensures.moves t) (c.sync-2.ensures.moves t)

pub returns-clause-settled : goal.returns-clause-settled
returns-clause-settled g c t commits rows settled = both_settle (c.in_ok-sync.ensures.moves t) (c.sync-2.ensures.moves t) c.a_sync_leaves_what_stands.ensures.settled commits rows settled

pub returns-clause-standing : goal.returns-clause-standing
returns-clause-standing g c t commits rows settled = both_stand (c.in_ok-sync.ensures.moves t) (c.sync-2.ensures.moves t) c.a_sync_leaves_what_stands.ensures.moments c.a_sync_leaves_what_stands.ensures.settled commits rows settled

pub returns-clause-quiet : goal.returns-clause-quiet
returns-clause-quiet g c t = both_quiet (c.in_ok-sync.ensures.moves t) (c.sync-2.ensures.moves t)

pub returns-in_err-sync-clause-own_files : goal.returns-in_err-sync-clause-own_files
returns-in_err-sync-clause-own_files g c t = first_synced (none_touched (g.W.Site.state c.args.site.now)) refl (c.sync.ensures.moves t)

pub returns-in_err-sync-clause-few : goal.returns-in_err-sync-clause-few
returns-in_err-sync-clause-few g c t = changes_fewer (omega arith) (one_sync (c.sync.ensures.moves t))

pub returns-clause-own_files : goal.returns-clause-own_files
returns-clause-own_files g c t = both_synced (c.sync.ensures.moves t) (sync_content (c.sync.ensures.moves t)) (c.sync-2.ensures.moves t)

pub returns-clause-few : goal.returns-clause-few
returns-clause-few g c t = changes_then (one_sync (c.sync.ensures.moves t)) (one_sync (c.sync-2.ensures.moves t))
