use Rattle.px_locks_laws.proofs.Calls.{at_first, ended, others, refused, taken}
use Rattle.px_locks_laws.proofs.laws.holders_follow_calls.Goals as goal

pub returns-clause-fresh : goal.returns-clause-fresh
returns-clause-fresh c = at_first

pub returns-clause-refused : goal.returns-clause-refused
returns-clause-refused c = refused

pub returns-clause-others : goal.returns-clause-others
returns-clause-others c = others

pub returns-clause-write : goal.returns-clause-write
returns-clause-write c = taken

pub returns-clause-end : goal.returns-clause-end
returns-clause-end c = ended
