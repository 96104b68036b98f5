use Rattle.std.proofs.Common.{◌<◌, length, arith}
use Rattle.px_source.proofs.Repeats.{one_given, next_line}
use Rattle.px_source.proofs.mem_source.give.Goals as goal
use Rattle.px_source.proofs.mem_source.give.Goals.{then-at-line, else-at-line}

pub loop-given-preserved : goal.loop-given-preserved
loop-given-preserved c =
    let some : 0 < c.loop-given.times = omega arith in
    let within : c.loop-given.at < length c.args.line.now = c.loop-given.invariant.within some in
    let room : c.loop-given.given < length c.loop-given.buf = omega arith in
    let more = one_given c.args.line.now c.loop-given.times c.loop-given.at some within c.loop-given.buf _ c.loop-given.given room c.loop-given.invariant.given in
    elim c.if-at-line.branch [
      | then-at-line w ↦
          record {
            within = λ left. omega arith;
            given = rw (w.times-is, w.at-is) (rw (next_line c.args.line.now c.loop-given.times c.loop-given.at some within (omega arith)) at more);
          }
      | else-at-line w ↦ record { within = λ left. omega arith; given = rw (w.times-is, w.at-is) more }
    ]
