use Rattle.std.proofs.Common.{ℕ, ◌≤◌}
use Rattle.px_survey.specs.Walked.{IsMarked}
use Rattle.px_survey.proofs.surveying.flawed_slot.Given as goal

abbrev pub invariant-loop-i : goal.invariant-loop-i
invariant-loop-i l = (p : ℕ) → 1 ≤ p → p ≤ l.i → IsMarked l.met p
