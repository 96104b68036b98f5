use Rattle.std.proofs.Common.{◌≡◌, length, None, get_or, vec_len, refl, sym, ◌∙◌, arith}
use Rattle.px_xacts.proofs.Lists.{read_none}
use Rattle.px_xacts.proofs.Keeping.{kept-begun}
use Rattle.px_xacts.proofs.xacts.Xacts.begin.Goals as goal

pub invariant_of-self-2 : goal.invariant_of-self-2
invariant_of-self-2 c =
    let kept = c.self.invariant in
    let slots = c.self.inside.active.items in
    let s = c.index-at.result in
    let free : get_or slots s None ≡ None = read_none slots s c.index.result.now (omega (arith, c.index-at.ensures.below, kept.sessions)) c.index.ensures (sym c.if-is_some.ensures) in
    let count : vec_len c.self.inside.outcomes ≡ length c.self.inside.outcomes.items = c.self.inside.outcomes.ok.0 in
    let snap : c.len.result ≡ length c.self.inside.outcomes.items = c.len.ensures ∙ c.reserve.ensures.len ∙ count in
    rw (c.reserve.ensures.items, c.in_ok-push.ensures.items)
    (kept-begun _ _ c.self.inside.outcomes.items _ _ slots _ _ _ s _ _ kept free refl snap c.new-writes.ensures
    (omega (arith, kept.begins, c.if-self-eq-MOST_BEGINS.false))
    (omega (arith, kept.stored, c.if-self-eq-STORED_NUMBERS_END.false))
    (omega (arith, count, c.reserve.ensures.len, c.in_ok-reserve.ensures.ok)))
