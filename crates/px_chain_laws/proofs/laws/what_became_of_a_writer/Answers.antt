use Rattle.px_chain_laws.proofs.Standings.{mirrored_standing}
use Rattle.px_chain_laws.proofs.laws.what_became_of_a_writer.Goals as goal

pub returns : goal.returns
returns c = mirrored_standing
