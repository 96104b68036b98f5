use Rattle.px_counted.proofs.Tables.{in_all_chains}
use Rattle.px_counted.proofs.laws.all_variations_are_the_slots_in_chains.Goals as goal

pub returns : goal.returns
returns c = in_all_chains
