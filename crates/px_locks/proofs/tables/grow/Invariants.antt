use Rattle.std.proofs.Common.{◌+◌, ◌-◌, length}
use Rattle.px_locks.specs.Tables.{IsSame}
use Rattle.px_locks.proofs.tables.grow.Given as goal

abbrev pub invariant-loop-alloc : goal.invariant-loop-alloc
invariant-loop-alloc l = IsSame l.fn.tables.items l.tables.items

abbrev pub decreases-loop-alloc : goal.decreases-loop-alloc
decreases-loop-alloc l = l.table + 1 - length l.tables.items
