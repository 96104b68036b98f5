use Rattle.px_logged.proofs.Numbered.{counts_more}
use Rattle.px_logged.proofs.Recounted.{call_recounts, calls_recount}
use Rattle.px_logged.proofs.laws.calls_add_what_they_did.Goals as goal

pub returns-clause-one : goal.returns-clause-one
returns-clause-one c = call_recounts

pub returns-clause-all : goal.returns-clause-all
returns-clause-all c = calls_recount

pub returns-clause-counted : goal.returns-clause-counted
returns-clause-counted c = counts_more
