use Rattle.px_apply.proofs.Apart.{all_there, in_order}
use Rattle.px_apply.proofs.laws.cells_are_there.Goals as goal

pub returns : goal.returns
returns c = λ short change contents ok.
    let order = in_order short change ok in
    all_there short contents change.cells order.each order.rising
