use Rattle.std.proofs.Common.{◌≡◌, drop}
use Rattle.px_xacts.specs.Transactions.{oldest_undone}
use Rattle.px_xacts.proofs.xacts.low.oldest_undone.Given as goal

abbrev pub invariant-loop-entry : goal.invariant-loop-entry
invariant-loop-entry l = oldest_undone l.oldest (drop l.entry-index l.queue) ≡ oldest_undone l.fn.oldest l.queue
