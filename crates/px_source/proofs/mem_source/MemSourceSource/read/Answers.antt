use Rattle.std.proofs.Common.{drop, arith, length-append, length-drop, length-take}
use Rattle.px_source.proofs.Repeats.{took}
use Rattle.px_source.proofs.mem_source.MemSourceSource.read.Goals as goal

pub returns-clause-bytes : goal.returns-clause-bytes
returns-clause-bytes c =
    let rest = drop c.min-room.result c.args.buf.now in
    rw (← c.self.view_is, ← c.as_slice-line.ensures) (record {
      ok = took _ _ c.give.new.buf rest c.give.result c.give.ensures.count c.give.ensures.given (λ room. omega (arith, room, c.self.invariant.1, c.min-room.ensures, c.give.auto.buf, length-append c.give.new.buf rest, length-drop c.min-room.result c.args.buf.now, length-take c.min-room.result c.args.buf.now));
      err = tt;
    })
