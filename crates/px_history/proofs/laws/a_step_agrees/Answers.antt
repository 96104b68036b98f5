use Rattle.px_history.proofs.Agreeing.{base_agrees, step_agrees}
use Rattle.px_history.proofs.laws.a_step_agrees.Goals as goal

pub returns-clause-none : goal.returns-clause-none
returns-clause-none c = base_agrees

pub returns-clause-step : goal.returns-clause-step
returns-clause-step c = λ parts short next rows base store changes step a may. step_agrees parts short next rows base changes store step a may
