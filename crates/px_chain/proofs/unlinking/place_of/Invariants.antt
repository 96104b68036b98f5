use Rattle.std.proofs.Common.{◌≡◌, ◌+◌, drop}
use Rattle.std.specs.Prelude.{nat_le}
use Rattle.std.specs.List.{position_or_len}
use Rattle.px_chain.proofs.unlinking.place_of.Given as goal

abbrev pub invariant-loop-i : goal.invariant-loop-i
invariant-loop-i l = position_or_len (λ other. nat_le l.number other.number) l.slots ≡ l.i + position_or_len (λ other. nat_le l.number other.number) (drop l.i l.slots)
