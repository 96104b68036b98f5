use Rattle.px_history.proofs.Fronting.{base_agreed, history_agreed, told_agreed}
use Rattle.px_history.proofs.laws.only_references_of_steps_are_asked.Goals as goal

pub returns-clause-history : goal.returns-clause-history
returns-clause-history c = history_agreed

pub returns-clause-told : goal.returns-clause-told
returns-clause-told c = told_agreed

pub returns-clause-base : goal.returns-clause-base
returns-clause-base c = base_agreed
