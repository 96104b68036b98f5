use Rattle.px_chain_laws.proofs.Moving.{calls_keep_chains, refusals_keep_chains}
use Rattle.px_chain_laws.proofs.laws.calls_that_write_nothing_keep_chains.Goals as goal

pub returns-clause-call : goal.returns-clause-call
returns-clause-call c = calls_keep_chains

pub returns-clause-refused : goal.returns-clause-refused
returns-clause-refused c = refusals_keep_chains
