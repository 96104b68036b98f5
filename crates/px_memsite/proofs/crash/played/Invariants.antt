use Rattle.std.proofs.Common.{◌≡◌, ◌++◌}
use Rattle.std.specs.Vec.Iter.{into_iter_items}
use Rattle.px_memsite.proofs.crash.played.Given as goal

abbrev pub invariant-loop-event : goal.invariant-loop-event
invariant-loop-event l = l.disk.history.items ++ into_iter_items l.event-iterator ≡ into_iter_items l.initial.event-iterator
