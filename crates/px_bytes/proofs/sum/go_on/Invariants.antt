use Rattle.std.proofs.Common.{◌≡◌, take, fold}
use Rattle.px_bytes.specs.Sum.{fnv_step}
use Rattle.px_bytes.proofs.sum.go_on.Given as goal

abbrev pub invariant-loop-byte : goal.invariant-loop-byte
invariant-loop-byte l = l.hash ≡ fold fnv_step l.sum (take l.byte-index l.bytes)
