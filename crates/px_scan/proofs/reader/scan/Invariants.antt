use Rattle.std.proofs.Common.{◌-◌, length, map}
use Rattle.px_scan.proofs.Loop.{IsScanning}
use Rattle.px_scan.proofs.reader.scan.Given as goal

abbrev pub invariant-loop-payload : goal.invariant-loop-payload
invariant-loop-payload l = IsScanning l.bytes l.number (map (λ p. p.now) l.payloads.items) l.stop l.next

abbrev pub decreases-loop-payload : goal.decreases-loop-payload
decreases-loop-payload l = length l.bytes - l.stop
