use Rattle.px_apply.proofs.Touched.{written_touches, stopped_touches, stopped_told}
use Rattle.px_apply.proofs.laws.touched_in_the_end.Goals as goal

pub returns : goal.returns
returns c = record {
  written = written_touches;
  stopped = λ short cells old new error file at. stopped_touches error file at;
  told = λ short cells old new error at. stopped_told error at;
}
