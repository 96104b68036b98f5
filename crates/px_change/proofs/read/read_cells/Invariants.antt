use Rattle.px_change.proofs.Cells.{Taken}
use Rattle.px_change.proofs.read.read_cells.Given as goal

abbrev pub invariant-loop : goal.invariant-loop
invariant-loop l = Taken l.fn.bytes l.counter l.cells l.fields
