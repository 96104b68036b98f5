use Rattle.std.proofs.Common.{◌≡◌, ◌++◌, map}
use Rattle.px_tables.proofs.Running.{number_of}
use Rattle.px_tables.proofs.table.Table.slots_of.Given as goal

abbrev pub invariant-loop-number : goal.invariant-loop-number
invariant-loop-number l = l.slots.items ++ map number_of l.number-iterator ≡ map number_of l.initial.number-iterator
