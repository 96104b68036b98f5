use Rattle.px_tables.specs.Held.{table_of}
use Rattle.px_held.proofs.Stored.{IsPastSome}
use Rattle.px_held.proofs.walking.number_past.Given as goal

abbrev pub invariant-loop-before : goal.invariant-loop-before
invariant-loop-before l = IsPastSome l.first (table_of l.table.cells) l.before l.next
