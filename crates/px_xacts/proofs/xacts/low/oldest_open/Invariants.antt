use Rattle.std.proofs.Common.{◌≡◌, None, drop}
use Rattle.px_xacts.specs.Transactions.{oldest_open}
use Rattle.px_xacts.proofs.xacts.low.oldest_open.Given as goal

abbrev pub invariant-loop-slot : goal.invariant-loop-slot
invariant-loop-slot l = oldest_open l.oldest (drop l.slot-index l.active) ≡ oldest_open None l.active
