use Rattle.px_survey.proofs.Examples.{flaw_of_circle, flaw_of_lost_slot, flaw_of_stray_slot, flaw_of_twins}
use Rattle.px_survey.proofs.laws.flaws_by_example.Goals as goal

pub returns-clause-circle : goal.returns-clause-circle
returns-clause-circle c = flaw_of_circle

pub returns-clause-lost_slot : goal.returns-clause-lost_slot
returns-clause-lost_slot c = flaw_of_lost_slot

pub returns-clause-stray_slot : goal.returns-clause-stray_slot
returns-clause-stray_slot c = flaw_of_stray_slot

pub returns-clause-twins : goal.returns-clause-twins
returns-clause-twins c = flaw_of_twins
