use Rattle.std.proofs.Common.{arith}
use Rattle.px_xacts.specs.Sound.{IsOpen}
use Rattle.px_xacts.proofs.Lists.{read_slot, if_some}
use Rattle.px_xacts.proofs.xacts.Xacts.open_of.Goals as goal

pub returns-clause-sound : goal.returns-clause-sound
returns-clause-sound c =
    let kept = c.self.invariant in
    let slots = c.self.inside.active.items in
    rw (c.as_ref.ensures.value, ← c.self.view_is)
    (if_some c.index-2.result.now (IsOpen c.self.inside.begun c.self.inside.outcomes.items) (λ x is.
    kept.sound.are_open.each c.index.result x
    (read_slot slots c.index.result c.index-2.result.now x (omega (arith, c.index.ensures.below, kept.sessions)) c.index-2.ensures is)))
