use Rattle.std.proofs.Common.{◌≡◌, drop}
use Rattle.px_life.specs.Front.{last_number}
use Rattle.px_cell_opening.proofs.counts.commits_of.Given as goal

abbrev pub invariant-loop-change : goal.invariant-loop-change
invariant-loop-change l = last_number l.last (drop l.change-index l.changes) ≡ last_number 0 l.changes
