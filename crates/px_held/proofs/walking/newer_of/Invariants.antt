use Rattle.std.proofs.Common.{◌≡◌}
use Rattle.px_held.specs.Sweeping.{newer_in}
use Rattle.px_held.proofs.Sweeping.{numbers}
use Rattle.px_held.proofs.walking.newer_of.Given as goal

abbrev pub invariant-loop-number : goal.invariant-loop-number
invariant-loop-number l = newer_in 0 l.slot (numbers l.initial.number-iterator) ≡ newer_in l.newer l.slot (numbers l.number-iterator)
