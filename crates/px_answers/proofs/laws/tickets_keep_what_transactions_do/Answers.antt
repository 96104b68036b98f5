use Rattle.px_answers.proofs.KeptByTickets.{call_keeps, end_keeps, fresh_keeps, sweep_keeps}
use Rattle.px_answers.proofs.laws.tickets_keep_what_transactions_do.Goals as goal

pub returns-clause-fresh : goal.returns-clause-fresh
returns-clause-fresh c = fresh_keeps

pub returns-clause-call : goal.returns-clause-call
returns-clause-call c = call_keeps

pub returns-clause-end : goal.returns-clause-end
returns-clause-end c = end_keeps

pub returns-clause-sweep : goal.returns-clause-sweep
returns-clause-sweep c = sweep_keeps
