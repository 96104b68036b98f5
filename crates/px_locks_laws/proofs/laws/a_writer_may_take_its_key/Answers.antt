use Rattle.px_locks_laws.proofs.Calls.{may_take}
use Rattle.px_locks_laws.proofs.laws.a_writer_may_take_its_key.Goals as goal

pub returns : goal.returns
returns c = may_take
