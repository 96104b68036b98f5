use Rattle.std.proofs.Common.{◌≡◌}
use Rattle.px_chain.specs.Visible.{is_visible}
use Rattle.px_held.proofs.Walks.{found_in}
use Rattle.px_held.proofs.walking.seen.Given as goal

abbrev pub invariant-loop-slot : goal.invariant-loop-slot
invariant-loop-slot l = found_in (is_visible l.reader.own l.reader.snapshot) l.reader.xacts.now l.initial.slot-iterator ≡ found_in (is_visible l.reader.own l.reader.snapshot) l.reader.xacts.now l.slot-iterator
