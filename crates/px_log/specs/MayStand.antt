-- Which changes may stand in frames that follow each other.
use Rattle.std.specs.Prelude.{◌≡◌, ℕ, ◌+◌, true, List, [], ◌∷◌}
use Rattle.px_change.specs.declared.change.Change.{Change}
use Rattle.px_change.specs.Grammar.{may_hold}

-- each of them stands in a frame that may hold it, the first in this one
abbrev pub MayStand : (tables number short : ℕ) → List Change → Type 0
MayStand tables number short [] = Unit {0}
MayStand tables number short (change ∷ changes) = (may_hold tables number short change ≡ true) × MayStand tables (number + 1) short changes
