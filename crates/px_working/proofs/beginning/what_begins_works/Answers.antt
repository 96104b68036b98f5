use Rattle.px_working.proofs.Fresh.{begins}
use Rattle.px_working.proofs.beginning.what_begins_works.Goals as goal

pub returns : goal.returns
returns c = begins c.machines_are_kept.ensures.fresh c.a_tidied_store_holds_a_fresh_machine.ensures.chains c.histories_are_sound.ensures
