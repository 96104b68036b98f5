use Rattle.std.proofs.Common.{◌∙◌}
use Rattle.px_active.proofs.Counting.{unswept_mirrors}
use Rattle.px_active.proofs.active.Active.unswept_count.Goals as goal

pub returns : goal.returns
returns c = λ m is. c.unswept_count.ensures ∙ unswept_mirrors m c.args.self.now.xacts is.mirrors
