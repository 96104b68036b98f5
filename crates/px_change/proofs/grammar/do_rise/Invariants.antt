use Rattle.std.proofs.Common.{◌≡◌, drop}
use Rattle.px_change.specs.Grammar.{rise_behind, rise}
use Rattle.px_change.proofs.grammar.do_rise.Given as goal

abbrev pub invariant-loop-cell : goal.invariant-loop-cell
invariant-loop-cell l = rise_behind l.before (drop l.cell-index l.rest) ≡ rise l.fn.cells
