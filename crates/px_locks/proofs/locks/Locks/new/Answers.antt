use Rattle.std.proofs.Common.{ap, ◌∙◌}
use Rattle.px_locks.specs.Tables.{holder_in}
use Rattle.px_locks.proofs.Maps.{holder_in_tables}
use Rattle.px_locks.proofs.locks.Locks.new.Goals as goal

pub returns : goal.returns
returns c = λ q. holder_in_tables q c.new.result.items ∙ ap (holder_in q) c.new.ensures.items
