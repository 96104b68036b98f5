use Rattle.std.proofs.Common.{◌≡◌, ◌<◌, ◌+◌, ◌≤◌, List, length, take, get_or, ap, ◌∙◌, arith}
use Rattle.std.specs.List.{flat_map}
use Rattle.std.proofs.lemmas.List.{take_all}
use Rattle.px_cells.specs.declared.cell.Cell.{Cell}
use Rattle.px_change.specs.Text.{cell_text}
use Rattle.px_change.proofs.Cells.{size_more, size_within}
use Rattle.px_change.proofs.Changes.{length-change}
use Rattle.px_change.proofs.write.text_size.Goals as goal
use Rattle.px_change.proofs.write.text_size.Goals.{After-as_slice}

below : (c : After-as_slice) → c.loop-cell.cell-index < length c.args.change.now.cells
below c = omega (arith, ap length c.as_slice-cell-items.ensures, c.loop-cell-test.true)

is : (c : After-as_slice) → c.cell-item.result ≡ get_or c.args.change.now.cells c.loop-cell.cell-index c.cell-item.result
is c = c.cell-item.is ∙ ap (λ (cells : List Cell). get_or cells c.loop-cell.cell-index c.cell-item.result) c.as_slice-cell-items.ensures

pub overflow_add-size-in-loop-cell : goal.overflow_add-size-in-loop-cell
overflow_add-size-in-loop-cell c =
    let size : c.loop-cell.size ≡ 18 + length (flat_map cell_text (take c.loop-cell.cell-index c.args.change.now.cells)) = c.loop-cell.invariant in
    omega (arith, size, c.requires, length-change c.args.change.now, ap length c.as_slice.ensures, size_within c.args.change.now.cells c.loop-cell.cell-index c.cell-item.result (below c) (is c))

pub loop-cell-preserved : goal.loop-cell-preserved
loop-cell-preserved c =
    let size : c.loop-cell.size ≡ 18 + length (flat_map cell_text (take c.loop-cell.cell-index c.args.change.now.cells)) = c.loop-cell.invariant in
    omega (arith, size, ap length c.as_slice.ensures, size_more c.args.change.now.cells c.loop-cell.cell-index c.cell-item.result (below c) (is c))

pub returns : goal.returns
returns c =
    let cells = c.args.change.now.cells in
    let size : c.loop-cell.size ≡ 18 + length (flat_map cell_text (take c.loop-cell.cell-index cells)) = c.loop-cell.invariant in
    let all : length cells ≤ c.loop-cell.cell-index = omega (arith, ap length c.as_slice-cell-items.ensures, c.loop-cell-test.false) in
    omega (arith, size, length-change c.args.change.now, ap (λ (l : List Cell). length (flat_map cell_text l)) (take_all c.loop-cell.cell-index cells all))
