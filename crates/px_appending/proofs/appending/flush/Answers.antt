use Rattle.px_tidying.specs.Opening.{opening}
use Rattle.px_appending.proofs.Flushing.{flushed_if, lasts_there, store_if}
use Rattle.px_appending.proofs.appending.flush.Goals as goal

pub returns-clause-flushed : goal.returns-clause-flushed
returns-clause-flushed g c = λ held.
    flushed_if c.flush.result g.W.Site.tells (g.W.Site.state c.args.site.now) (g.W.Site.state c.flush.new.site) held c.args.log.now c.flush.new.self
    c.flush.ensures.marks c.flush.ensures.logged c.flush.ensures.moments

pub returns-clause-store : goal.returns-clause-store
returns-clause-store g c = λ held store.
    store_if c.flush.result store (g.W.Site.state c.args.site.now) (g.W.Site.state c.flush.new.site) held c.args.log.now c.flush.new.self
    c.flush.ensures.marks c.flush.ensures.as_before

pub returns-clause-moments : goal.returns-clause-moments
returns-clause-moments g c = λ held.
    lasts_there g.W.Site.tells (opening (g.W.Site.state c.args.site.now) held c.args.log.now) (opening (g.W.Site.state c.flush.new.site) held c.flush.new.self)
    c.flush.ensures.moments
