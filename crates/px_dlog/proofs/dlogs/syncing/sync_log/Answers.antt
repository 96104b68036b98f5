use Rattle.px_dlog.proofs.Syncing.{sync_keeps}
use Rattle.px_dlog.proofs.dlogs.syncing.sync_log.Goals as goal

pub returns-in-Some-clause-moments : goal.returns-in-Some-clause-moments
returns-in-Some-clause-moments g c t = sync_keeps _ (λ name. g.met.W.Site.reads_image t c.args.site.now name) (c.sync.ensures.moves t)
