use Rattle.px_core.proofs.Reading.{begin_reads}
use Rattle.px_core.proofs.state.Kept.begin.Goals as goal

pub returns : goal.returns
returns g c =
    begin_reads g.W.Site.tells g.W.Site.state g.W.Site.counts c.args.session c.args.self.now c.begin.new.self c.frames.result c.in_ok-begin.field-0
    c.in_ok-begin.ensures.reply c.in_ok-begin.ensures.active c.in_ok-begin.ensures.xacts c.begin.ensures.commits c.begin.ensures.stored
