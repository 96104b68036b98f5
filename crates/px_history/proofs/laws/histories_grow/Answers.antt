use Rattle.px_history.proofs.Fronting.{changes_more, history_more, logged_more, no_steps, told_more}
use Rattle.px_history.proofs.laws.histories_grow.Goals as goal

pub returns-clause-none : goal.returns-clause-none
returns-clause-none c = no_steps

pub returns-clause-step : goal.returns-clause-step
returns-clause-step c = history_more

pub returns-clause-told : goal.returns-clause-told
returns-clause-told c = told_more

pub returns-clause-changes : goal.returns-clause-changes
returns-clause-changes c = changes_more

pub returns-clause-logged : goal.returns-clause-logged
returns-clause-logged c = logged_more
