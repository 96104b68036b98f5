use Rattle.std.proofs.Common.{◌≡◌, ◌+◌, length, take}
use Rattle.std.specs.List.{flat_map}
use Rattle.px_change.specs.declared.limits.TheConstants.{END_SIZE}
use Rattle.px_change.specs.Text.{cell_text}
use Rattle.px_change.proofs.write.text_size.Given as goal

abbrev pub invariant-loop-cell : goal.invariant-loop-cell
invariant-loop-cell l = l.size ≡ END_SIZE + length (flat_map cell_text (take l.cell-index l.fn.change.cells))
