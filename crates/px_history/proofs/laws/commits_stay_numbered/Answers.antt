use Rattle.px_history.proofs.Numbering.{commits_due, front_numbered, step_commits, step_numbered}
use Rattle.px_history.proofs.laws.commits_stay_numbered.Goals as goal

pub returns-clause-step : goal.returns-clause-step
returns-clause-step c = step_numbered

pub returns-clause-last : goal.returns-clause-last
returns-clause-last c = step_commits

pub returns-clause-front : goal.returns-clause-front
returns-clause-front c = front_numbered

pub returns-clause-due : goal.returns-clause-due
returns-clause-due c = commits_due
