use Rattle.std.proofs.Common.{◌≡◌, drop}
use Rattle.px_memsite.specs.Failures.{failure_of}
use Rattle.px_memsite.proofs.failure.failure_of.Given as goal

abbrev pub invariant-loop-failure : goal.invariant-loop-failure
invariant-loop-failure l = failure_of (drop l.failure-index l.failures) l.call ≡ failure_of l.failures l.call
