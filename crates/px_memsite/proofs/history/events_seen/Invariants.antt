use Rattle.std.proofs.Common.{◌≡◌, ◌+◌, length, take}
use Rattle.px_memsite.specs.Events.{reached}
use Rattle.px_memsite.proofs.history.events_seen.Given as goal

abbrev pub invariant-loop-i : goal.invariant-loop-i
invariant-loop-i l = l.moment ≡ l.left + length (reached (take l.i l.history)).past
