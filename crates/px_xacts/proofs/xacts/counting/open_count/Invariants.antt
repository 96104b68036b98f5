use Rattle.std.proofs.Common.{◌≡◌, ◌+◌, drop}
use Rattle.std.specs.Prelude.{count_by, is_some}
use Rattle.px_xacts.proofs.xacts.counting.open_count.Given as goal

abbrev pub invariant-loop-slot : goal.invariant-loop-slot
invariant-loop-slot l = l.count + count_by is_some (drop l.slot-index l.active) ≡ count_by is_some l.active
