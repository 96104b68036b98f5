use Rattle.std.proofs.Common.{◌<◌, ◌≡◌, ◌-◌, length, None, Some, get_or, refl, sym, ap, ◌∙◌, arith}
use Rattle.std.proofs.lemmas.List.{length-take}
use Rattle.px_xacts.specs.declared.transaction.Transaction.{Transaction}
use Rattle.px_xacts.specs.Transactions.{Transactions, open_of}
use Rattle.px_xacts.proofs.Lists.{read_slot, in_some}
use Rattle.px_xacts.proofs.Room.{writes-closed}
use Rattle.px_xacts.proofs.Keeping.{kept-changed}
use Rattle.px_xacts.proofs.xacts.Xacts.drop_last_write.Goals as goal

pub invariant_of-self : goal.invariant_of-self
invariant_of-self c =
    let kept = c.self.invariant in
    let slots = c.self.inside.active.items in
    let s = c.index.result in
    let x = c.in-Some.transaction in
    let at : get_or slots s None ≡ Some x = read_slot slots s c.index_mut.result.now x (omega (arith, c.index.ensures.below, kept.sessions)) c.index_mut.ensures.value c.in-Some.is in
    let is_open : open_of c.args.self.now c.args.session ≡ Some x =
    ap (λ (all : Transactions). open_of all c.args.session) (sym c.self.view_is) ∙ ap (λ n. get_or slots n None) (sym c.index.ensures.is) ∙ at in
    let some : 0 < length x.writes = in_some (open_of c.args.self.now c.args.session) (λ (t : Transaction). 0 < length t.writes) x c.requires is_open in
    let left : length c.drop_last.new.self ≡ length x.writes - 1 = ap length c.drop_last.ensures ∙ length-take (length x.writes - 1) x.writes ∙ omega arith in
    kept-changed _ _ _ _ _ slots _ _ _ s x _ _ _ kept at refl refl
    (omega (arith, left, (kept.sound.are_open.each s x at).writes))
    (omega (arith, left, some, kept.writes, writes-closed slots s x at))
    (omega (arith, kept.queue_room))
