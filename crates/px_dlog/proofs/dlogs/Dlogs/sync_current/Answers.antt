use Rattle.std.proofs.Common.{sym, ap, subst, ◌∙◌}
use Rattle.px_dlog.specs.Inventory.{Kept, logs_of}
use Rattle.px_dlog.specs.Logs.{IsDlogOf, Logs, all_synced, to_sync}
use Rattle.px_dlog.proofs.Syncing.{all_rest, still_dlog}
use Rattle.px_dlog.proofs.dlogs.Dlogs.sync_current.Goals as goal

pub returns-clause-logs : goal.returns-clause-logs
returns-clause-logs g c = c.set_synced.ensures.logs ∙ ap (λ (k : Kept). all_synced (logs_of k)) c.self.view_is

pub returns-clause-synced : goal.returns-clause-synced
returns-clause-synced g c t = λ parts is.
    all_rest _ _ (logs_of c.args.self.now) parts _ _ (λ name. g.met.W.Site.reads_image t c.args.site.now name) (c.unsynced.ensures ∙ ap (λ (k : Kept). to_sync (logs_of k)) c.self.view_is) (c.in_ok-sync_log.ensures.syncs t) is

pub returns-clause-kept : goal.returns-clause-kept
returns-clause-kept g c t = λ parts is.
    let rest = all_rest _ _ (logs_of c.args.self.now) parts _ _ (λ name. g.met.W.Site.reads_image t c.args.site.now name) (c.unsynced.ensures ∙ ap (λ (k : Kept). to_sync (logs_of k)) c.self.view_is) (c.in_ok-sync_log.ensures.syncs t) is in
    subst (λ (l : Logs). IsDlogOf l parts (g.W.Site.state c.sync_log.new.site)) (sym (c.set_synced.ensures.logs ∙ ap (λ (k : Kept). all_synced (logs_of k)) c.self.view_is))
    (still_dlog (logs_of c.args.self.now) parts _ _ (λ name. c.in_ok-sync_log.ensures.contents t name) rest is)
