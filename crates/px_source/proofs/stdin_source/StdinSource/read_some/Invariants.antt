use Rattle.std.proofs.Common.{◌≡◌, ◌≤◌}
use Rattle.std.specs.Io.KnownBytes.{Keeps}
use Rattle.px_source.proofs.stdin_source.StdinSource.read_some.Given as goal

abbrev pub invariant-loop : goal.invariant-loop
invariant-loop g l = record {
  calls : l.fn.self.calls ≤ l.self.calls;
  bytes : l.self.bytes ≡ l.fn.self.bytes;
  faults : l.self.faults ≡ l.fn.self.faults;
  left : Keeps l.fn.self.left l.self.left;
}
