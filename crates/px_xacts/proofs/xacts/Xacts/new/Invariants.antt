use Rattle.std.proofs.Common.{◌≡◌, None, replicate}
use Rattle.px_xacts.proofs.xacts.Xacts.new.Given as goal

abbrev pub invariant-loop-slot : goal.invariant-loop-slot
invariant-loop-slot l = l.active.items ≡ replicate l._slot None
