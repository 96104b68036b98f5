use Rattle.std.proofs.Common.{◌≡◌}
use Rattle.std.specs.Prelude.{find}
use Rattle.px_tables.proofs.Ordered.{has_row}
use Rattle.px_tables.proofs.keys.Keys.past.Given as goal

abbrev pub invariant-loop-key : goal.invariant-loop-key
invariant-loop-key l = find has_row l.initial.key-iterator ≡ find has_row l.key-iterator
