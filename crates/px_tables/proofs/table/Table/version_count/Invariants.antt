use Rattle.std.proofs.Common.{◌≡◌, ◌+◌, length}
use Rattle.px_tables.proofs.table.Table.version_count.Given as goal

abbrev pub invariant-loop : goal.invariant-loop
invariant-loop l = l.in_chains + length l.initial.iterator' ≡ l.initial.in_chains + length l.iterator'
