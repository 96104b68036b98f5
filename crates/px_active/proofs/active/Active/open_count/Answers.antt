use Rattle.std.proofs.Common.{◌∙◌}
use Rattle.px_active.proofs.Counting.{open_mirrors}
use Rattle.px_active.proofs.active.Active.open_count.Goals as goal

pub returns : goal.returns
returns c = λ m is. c.open_count.ensures ∙ open_mirrors m c.args.self.now.xacts is.mirrors
