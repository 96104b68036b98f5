use Rattle.px_chain_laws.proofs.Moving.{fresh_chain}
use Rattle.px_chain_laws.proofs.laws.chains_begin_as_rows.Goals as goal

pub returns : goal.returns
returns c = fresh_chain
