use Rattle.px_engine.proofs.Stepping.{machine_of_steps, requests_as_steps}
use Rattle.px_engine.proofs.laws.requests_are_steps.Goals as goal

pub returns-clause-steps : goal.returns-clause-steps
returns-clause-steps c = requests_as_steps

pub returns-clause-machine : goal.returns-clause-machine
returns-clause-machine c = machine_of_steps
