use Rattle.px_tables.specs.Held.{table_at}
use Rattle.px_tables.proofs.Opened.{AreKeysTo}
use Rattle.px_tables.proofs.table.opening.keys_of.Given as goal

abbrev pub invariant-loop-before : goal.invariant-loop-before
invariant-loop-before l = AreKeysTo (table_at l.fn.header l.pointers l.slots) l.before l.keys
