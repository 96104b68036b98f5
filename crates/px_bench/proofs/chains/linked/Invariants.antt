use Rattle.std.proofs.Common.{◌≡◌}
use Rattle.px_bench.specs.declared.chains.TheConstants.{SHORT}
use Rattle.px_bench.proofs.chains.linked.Given as goal

abbrev pub invariant-loop-number : goal.invariant-loop-number
invariant-loop-number l = l.table.cells.short ≡ SHORT
