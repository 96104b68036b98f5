use Rattle.px_shown.proofs.Writing.{not_written}
use Rattle.px_shown.proofs.laws.a_key_that_was_not_written.Goals as goal

pub returns : goal.returns
returns c = not_written
