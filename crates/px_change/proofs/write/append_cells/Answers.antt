use Rattle.std.proofs.Common.{Result, OnErr, Ok, Err}
use Rattle.px_change.proofs.Cells.{front_stays}
use Rattle.px_change.proofs.write.append_cells.Goals as goal

on_err : {T E : Type 0} (r : Result T E) (P : Type 0) → P → OnErr r P
on_err (Ok x) P p = tt
on_err (Err e) P p = p

pub returns-in_err-append_cell-clause-err : goal.returns-in_err-append_cell-clause-err
returns-in_err-append_cell-clause-err c =
    on_err c.from_residual.result _ (front_stays c.args.out.now.items _ c.loop-cell.out.items c.append_cell.new.out.items c.loop-cell.invariant c.in_err-append_cell.ensures.err)
