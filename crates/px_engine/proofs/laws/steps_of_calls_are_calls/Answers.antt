use Rattle.px_engine.proofs.Stepping.{calls_as_steps}
use Rattle.px_engine.proofs.laws.steps_of_calls_are_calls.Goals as goal

pub returns : goal.returns
returns c = calls_as_steps
