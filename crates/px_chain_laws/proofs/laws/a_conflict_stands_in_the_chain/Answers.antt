use Rattle.px_chain_laws.proofs.Reading.{writer_stands_there, conflict_stands_there}
use Rattle.px_chain_laws.proofs.laws.a_conflict_stands_in_the_chain.Goals as goal

pub returns-clause-committed : goal.returns-clause-committed
returns-clause-committed c = writer_stands_there

pub returns-clause-conflict : goal.returns-clause-conflict
returns-clause-conflict c = conflict_stands_there
