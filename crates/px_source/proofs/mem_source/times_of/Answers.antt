use Rattle.std.proofs.Common.{◌≡◌, length, sym, arith}
use Rattle.std.proofs.lemmas.Bool.Decides.{nat_tests}
use Rattle.px_source.proofs.Repeats.{repeat_empty}
use Rattle.px_source.proofs.mem_source.times_of.Goals as goal

pub returns-then-is_empty-clause-same : goal.returns-then-is_empty-clause-same
returns-then-is_empty-clause-same c = let empty : length c.args.line.now ≡ 0 = grind (arith, nat_tests) in sym (repeat_empty c.args.line.now c.args.times empty)
