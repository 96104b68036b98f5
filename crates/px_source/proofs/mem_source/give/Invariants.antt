use Rattle.std.proofs.Common.{◌≡◌, ◌<◌, ◌++◌, length, take, drop}
use Rattle.std.specs.List.{repeat}
use Rattle.px_source.proofs.mem_source.give.Given as goal

abbrev pub invariant-loop-given : goal.invariant-loop-given
invariant-loop-given l =
    record {
      within : 0 < l.times → l.at < length l.line;
      given : drop l.fn.at (repeat l.fn.times l.line) ≡ take l.given l.buf ++ drop l.at (repeat l.times l.line);
    }
