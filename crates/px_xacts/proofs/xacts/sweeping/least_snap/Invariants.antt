use Rattle.std.proofs.Common.{◌≡◌, None, drop}
use Rattle.px_xacts.specs.Transactions.{least_snap}
use Rattle.px_xacts.proofs.xacts.sweeping.least_snap.Given as goal

abbrev pub invariant-loop-slot : goal.invariant-loop-slot
invariant-loop-slot l = least_snap l.least (drop l.slot-index l.active) ≡ least_snap None l.active
