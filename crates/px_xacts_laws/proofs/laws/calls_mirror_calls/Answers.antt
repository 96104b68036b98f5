use Rattle.px_xacts_laws.proofs.Mirroring.{fresh_mirrors, begin_mirrors, write_mirrors, unwrite_mirrors, end_mirrors}
use Rattle.px_xacts_laws.proofs.laws.calls_mirror_calls.Goals as goal

pub returns-clause-fresh : goal.returns-clause-fresh
returns-clause-fresh c = fresh_mirrors

pub returns-clause-begin : goal.returns-clause-begin
returns-clause-begin c = begin_mirrors

pub returns-clause-write : goal.returns-clause-write
returns-clause-write c = write_mirrors

pub returns-clause-unwrite : goal.returns-clause-unwrite
returns-clause-unwrite c = unwrite_mirrors

pub returns-clause-end : goal.returns-clause-end
returns-clause-end c = end_mirrors
