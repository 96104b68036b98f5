use Rattle.std.specs.Prelude.{not}
use Rattle.std.specs.List.{count_by}
use Rattle.px_survey.specs.Walked.{Comes}
use Rattle.px_survey.proofs.walking.walk.Given as goal

abbrev pub invariant-loop-at : goal.invariant-loop-at
invariant-loop-at g l = Comes (g.L.Links.is_on l.links) (g.L.Links.next l.links) l.from l.at l.initial.marks l.marks

abbrev pub decreases-loop-at : goal.decreases-loop-at
decreases-loop-at g l = count_by not l.marks
