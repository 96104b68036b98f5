use Rattle.std.proofs.Common.{◌≡◌, None, length, vec_len, arith}
use Rattle.px_xacts.proofs.Marks.{horizon_within}
use Rattle.px_xacts.proofs.xacts.Xacts.horizon.Goals as goal

pub returns-clause-bound : goal.returns-clause-bound
returns-clause-bound c =
    let kept = c.self.invariant in
    let count = length c.self.inside.outcomes.items in
    let len : vec_len c.self.inside.outcomes ≡ count = c.self.inside.outcomes.ok.0 in
    rw (c.unwrap_or.ensures, c.least_snap.ensures, c.deref.ensures.value, c.len.ensures, len, ← c.self.view_is)
    (horizon_within None count c.self.inside.active.items (omega arith) (λ s x at. (kept.sound.are_open.each s x at).snap))
