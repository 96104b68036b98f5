use Rattle.px_held.proofs.Counting.{IsCountOf}
use Rattle.px_held.proofs.held.Held.version_count.Given as goal

abbrev pub invariant-loop-table : goal.invariant-loop-table
invariant-loop-table l = IsCountOf l.self l.table-index l.count
