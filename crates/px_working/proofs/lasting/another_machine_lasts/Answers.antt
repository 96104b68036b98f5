use Rattle.px_working.proofs.Moments.{another_lasts}
use Rattle.px_working.proofs.lasting.another_machine_lasts.Goals as goal

pub returns : goal.returns
returns c = another_lasts
