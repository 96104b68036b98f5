use Rattle.std.proofs.Common.{◌≡◌}
use Rattle.px_chain_laws.specs.Reading.{is_committed}
use Rattle.px_held.proofs.Walks.{found_in}
use Rattle.px_held.proofs.walking.newest_committed.Given as goal

abbrev pub invariant-loop-slot : goal.invariant-loop-slot
invariant-loop-slot l = found_in (λ view. is_committed view.standing) l.xacts l.initial.slot-iterator ≡ found_in (λ view. is_committed view.standing) l.xacts l.slot-iterator
