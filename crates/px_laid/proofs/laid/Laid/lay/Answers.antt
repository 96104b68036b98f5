use Rattle.std.proofs.Common.{◌≡◌, ◌<◌, ◌≤◌, List, length, take, get_or, ap, sym, ◌∙◌, arith}
use Rattle.std.proofs.lemmas.List.{take_all}
use Rattle.std.proofs.lemmas.List.Sums.{fold_more}
use Rattle.px_cells.specs.declared.cell.Cell.{Cell}
use Rattle.px_laid.specs.Places.{Places, laid_over, over, places}
use Rattle.px_laid.proofs.laid.Laid.lay.Goals as goal

pub loop-cell-preserved : goal.loop-cell-preserved
loop-cell-preserved c =
    let cells = c.args.change.now.cells in
    let i = c.loop-cell.cell-index in
    let below : i < length cells = omega (arith, ap length c.as_slice-cell-items.ensures, c.loop-cell-test.true) in
    let is : c.cell-item.result ≡ get_or cells i c.cell-item.result =
    c.cell-item.is ∙ ap (λ (l : List Cell). get_or l i c.cell-item.result) c.as_slice-cell-items.ensures in
    c.in_ok-put.ensures
    ∙ ap (λ (p : Places). over p c.cell-item.result) c.loop-cell.invariant
    ∙ ap (over (laid_over (places c.args.self) (take i cells))) is
    ∙ sym (fold_more over (places c.args.self) cells i c.cell-item.result below)

pub returns : goal.returns
returns c =
    let cells = c.args.change.now.cells in
    let all : length cells ≤ c.loop-cell.cell-index = omega (arith, ap length c.as_slice-cell-items.ensures, c.loop-cell-test.false) in
    c.loop-cell.invariant ∙ ap (laid_over (places c.args.self)) (take_all c.loop-cell.cell-index cells all)
