use Rattle.px_chain_laws.proofs.Keeping.{kept_fresh, kept_call, kept_sweep, kept_steps}
use Rattle.px_chain_laws.proofs.laws.machines_are_kept.Goals as goal

pub returns-clause-fresh : goal.returns-clause-fresh
returns-clause-fresh c = kept_fresh

pub returns-clause-call : goal.returns-clause-call
returns-clause-call c = kept_call

pub returns-clause-sweep : goal.returns-clause-sweep
returns-clause-sweep c = kept_sweep

pub returns-clause-history : goal.returns-clause-history
returns-clause-history c = kept_steps
