use Rattle.std.proofs.Common.{◌<◌, ◌≡◌, ◌+◌, ◌∷◌, [], length, None, Some, get_or, deque_len, refl, sym, ap, ◌∙◌, arith, length-append}
use Rattle.px_model.specs.declared.limits.TheConstants.{MOST_WRITES}
use Rattle.px_xacts.specs.declared.transaction.Transaction.{Transaction}
use Rattle.px_xacts.specs.Transactions.{Transactions, open_of}
use Rattle.px_xacts.proofs.Lists.{read_slot, in_some}
use Rattle.px_xacts.proofs.Keeping.{kept-changed}
use Rattle.px_xacts.proofs.xacts.Xacts.add_write.Goals as goal

pub invariant_of-self-in_err-push : goal.invariant_of-self-in_err-push
invariant_of-self-in_err-push c =
    let kept = c.self.invariant in
    let slots = c.self.inside.active.items in
    let s = c.index.result in
    let x = c.in-Some.transaction in
    let at : get_or slots s None ≡ Some x = read_slot slots s c.index_mut.result.now x (omega (arith, c.index.ensures.below, kept.sessions)) c.index_mut.ensures.value c.in-Some.is in
    let same : length c.push.new.self ≡ length x.writes = ap length c.in_err-push.ensures.err in
    rw c.reserve.ensures.items
    (kept-changed _ _ _ _ _ slots _ _ _ s x _ _ _ kept at refl refl
    (omega (arith, same, (kept.sound.are_open.each s x at).writes))
    (omega (arith, same))
    (omega (arith, kept.queue_room, c.reserve.ensures.capacity)))

pub invariant_of-self-in-Some : goal.invariant_of-self-in-Some
invariant_of-self-in-Some c =
    let kept = c.self.invariant in
    let slots = c.self.inside.active.items in
    let s = c.index.result in
    let x = c.in-Some.transaction in
    let at : get_or slots s None ≡ Some x = read_slot slots s c.index_mut.result.now x (omega (arith, c.index.ensures.below, kept.sessions)) c.index_mut.ensures.value c.in-Some.is in
    let is_open : open_of c.args.self.now c.args.session ≡ Some x =
    ap (λ (all : Transactions). open_of all c.args.session) (sym c.self.view_is) ∙ ap (λ n. get_or slots n None) (sym c.index.ensures.is) ∙ at in
    let few : length x.writes < MOST_WRITES = in_some (open_of c.args.self.now c.args.session) (λ (t : Transaction). length t.writes < MOST_WRITES) x c.requires is_open in
    let one_more : length c.push.new.self ≡ length x.writes + 1 = ap length c.in_ok-push.ensures.ok ∙ length-append x.writes (c.args.write ∷ []) in
    let len : deque_len c.self.inside.queue ≡ length c.self.inside.queue.items = c.self.inside.queue.ok.0 in
    rw c.reserve.ensures.items
    (kept-changed _ _ _ _ _ slots _ _ _ s x _ _ _ kept at refl refl
    (omega (arith, one_more, few))
    (omega (arith, one_more))
    (omega (arith, len, c.reserve.ensures.len, c.in_ok-reserve.ensures.ok)))
