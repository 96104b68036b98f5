use Rattle.std.proofs.Common.{refl}
use Rattle.px_xlog.specs.Contents.{the_log}
use Rattle.px_log.proofs.CutMoments.{opening_moments}
use Rattle.px_log.proofs.reader.LogScan.open.Goals as goal

pub returns-in_err-cut_log-clause-moments : goal.returns-in_err-cut_log-clause-moments
returns-in_err-cut_log-clause-moments g c t grew =
    let here = g.W.Site.state c.args.site.now in
    opening_moments here here (g.W.Site.state c.cut_log.new.site) _ _ refl (g.met.W.Site.reads_image t c.args.site.now the_log) grew (c.requires.scan t) (c.cut_log.ensures.moments t)

pub returns-clause-moments : goal.returns-clause-moments
returns-clause-moments g c t grew =
    let here = g.W.Site.state c.args.site.now in
    opening_moments here here (g.W.Site.state c.cut_log.new.site) _ _ refl (g.met.W.Site.reads_image t c.args.site.now the_log) grew (c.requires.scan t) (c.cut_log.ensures.moments t)
