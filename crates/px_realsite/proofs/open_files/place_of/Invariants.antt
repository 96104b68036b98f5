use Rattle.std.proofs.Common.{ℕ, ◌≤◌, ◌<◌, length}
use Rattle.px_realsite.specs.OpenFiles.{IsNamed}
use Rattle.px_realsite.proofs.open_files.place_of.Given as goal

-- none from here on has the name
abbrev pub invariant-loop-at : goal.invariant-loop-at
invariant-loop-at l = record {
  within : l.at ≤ length l.files;
  absent : (k : ℕ) → l.at ≤ k → k < length l.files → ¬ IsNamed l.files l.name k;
}

abbrev pub decreases-loop-at : goal.decreases-loop-at
decreases-loop-at l = l.at
