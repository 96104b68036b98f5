use Rattle.px_chain_laws.proofs.Examples.{example_chain, early_sees, late_sees, writer_sees, early_meets, late_meets}
use Rattle.px_chain_laws.proofs.laws.each_reader_sees_its_own.Goals as goal

pub returns-clause-chain : goal.returns-clause-chain
returns-clause-chain c = example_chain

pub returns-clause-early : goal.returns-clause-early
returns-clause-early c = early_sees

pub returns-clause-late : goal.returns-clause-late
returns-clause-late c = late_sees

pub returns-clause-writer : goal.returns-clause-writer
returns-clause-writer c = writer_sees

pub returns-clause-meets : goal.returns-clause-meets
returns-clause-meets c = early_meets

pub returns-clause-meets_nobody : goal.returns-clause-meets_nobody
returns-clause-meets_nobody c = late_meets
