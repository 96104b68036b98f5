use Rattle.px_opened.proofs.Kept.{none_held, step_held, steps_held}
use Rattle.px_opened.proofs.laws.a_step_keeps_what_is_held.Goals as goal

pub returns-clause-nothing : goal.returns-clause-nothing
returns-clause-nothing c = none_held

pub returns-clause-step : goal.returns-clause-step
returns-clause-step c = step_held c.a_link_leaves_one_layout.ensures

pub returns-clause-steps : goal.returns-clause-steps
returns-clause-steps c = steps_held c.a_link_leaves_one_layout.ensures
