use Rattle.std.proofs.Common.{◌∙◌}
use Rattle.px_active.proofs.Ending.{who_writes, writer_is}
use Rattle.px_active.proofs.active.Active.writer.Goals as goal

pub returns-clause-machine : goal.returns-clause-machine
returns-clause-machine c = λ m is. c.writer.ensures.is ∙ writer_is m c.args.self.now c.args.session is

pub returns-clause-who : goal.returns-clause-who
returns-clause-who c = λ m is. who_writes m c.args.session c.writer.result (c.writer.ensures.is ∙ writer_is m c.args.self.now c.args.session is)
