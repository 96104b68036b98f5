use Rattle.std.proofs.Common.{Err, ◌∙◌}
use Rattle.std.proofs.lemmas.Result.{err_from_is_err_and}
use Rattle.px_apply.proofs.Steps.{one_more_written, within_this, stops_here}
use Rattle.px_apply.proofs.write.write_each.Goals as goal

pub returns-in_err-write_cell-clause-err : goal.returns-in_err-write_cell-clause-err
returns-in_err-write_cell-clause-err g c t =
    let p = err_from_is_err_and c.from_residual.result c.from_residual.ensures.1 in
    rw (p.1, p.2) (stops_here {r = Err c.in_err-write_cell.field-0.0} (record {
      below = c.loop-cell-test.true;
      is = c.cell-item.is;
      written = c.loop-cell.invariant.written t;
      moves = c.in_err-write_cell.ensures.moves t;
    }))

pub returns-in_err-write_cell-clause-moments : goal.returns-in_err-write_cell-clause-moments
returns-in_err-write_cell-clause-moments g c t =
    within_this (record {
      below = c.loop-cell-test.true;
      is = c.cell-item.is;
      written = c.loop-cell.invariant.written t;
      moves = c.write_cell.ensures.moves t;
    }) (c.loop-cell.invariant.moments t)

pub loop-cell-preserved : goal.loop-cell-preserved
loop-cell-preserved g c = record {
  written = λ t. one_more_written (record {
    below = c.loop-cell-test.true;
    is = c.cell-item.is;
    written = c.loop-cell.invariant.written t;
    moves = c.in_ok-write_cell.ensures.moves t;
  });
  moments = λ t.
      within_this (record {
        below = c.loop-cell-test.true;
        is = c.cell-item.is;
        written = c.loop-cell.invariant.written t;
        moves = c.write_cell.ensures.moves t;
      }) (c.loop-cell.invariant.moments t);
  counts = c.in_ok-write_cell.ensures.counted.exact ∙ c.loop-cell.invariant.counts;
}
