use Rattle.std.proofs.Common.{◌≡◌, length, None, Some, get_or, vec_len, sym, ap, ◌∙◌, arith}
use Rattle.std.proofs.lemmas.Bool.{eqb-true}
use Rattle.px_xacts.proofs.Lists.{read_slot}
use Rattle.px_xacts.proofs.Keeping.{kept-closed, kept-ended}
use Rattle.px_xacts.proofs.xacts.Xacts.end.Goals as goal

pub invariant_of-self-then-is_empty : goal.invariant_of-self-then-is_empty
invariant_of-self-then-is_empty c =
    let kept = c.self.invariant in
    let slots = c.self.inside.active.items in
    let s = c.index.result in
    let x = c.in-Some.transaction in
    let at : get_or slots s None ≡ Some x = read_slot slots s c.index_mut.result.now x (omega (arith, c.index.ensures.below, kept.sessions)) c.index_mut.ensures.value (sym c.in-Some.ensures.value) in
    let empty : length x.writes ≡ 0 = sym (ap length c.as_slice.ensures) ∙ eqb-true (length c.as_slice.result.now) 0 (sym c.if-is_empty.ensures) in
    rw c.take.ensures.after (kept-closed _ _ _ _ _ slots _ _ _ s x kept at empty)

pub overflow_sub-number : goal.overflow_sub-number
overflow_sub-number c =
    let kept = c.self.invariant in
    let slots = c.self.inside.active.items in
    let s = c.index.result in
    let x = c.in-Some.transaction in
    let at : get_or slots s None ≡ Some x = read_slot slots s c.index_mut.result.now x (omega (arith, c.index.ensures.below, kept.sessions)) c.index_mut.ensures.value (sym c.in-Some.ensures.value) in
    (kept.sound.are_open.each s x at).from_one

pub index_mut-requires-2 : goal.index_mut-requires-2
index_mut-requires-2 c =
    let kept = c.self.invariant in
    let slots = c.self.inside.active.items in
    let s = c.index.result in
    let x = c.in-Some.transaction in
    let at : get_or slots s None ≡ Some x = read_slot slots s c.index_mut.result.now x (omega (arith, c.index.ensures.below, kept.sessions)) c.index_mut.ensures.value (sym c.in-Some.ensures.value) in
    let len : vec_len c.self.inside.standings ≡ length c.self.inside.standings.items = c.self.inside.standings.ok.0 in
    omega (arith, len, kept.sound.as_many, (kept.sound.are_open.each s x at).given, (kept.sound.are_open.each s x at).from_one)

pub invariant_of-self-2 : goal.invariant_of-self-2
invariant_of-self-2 c =
    let kept = c.self.invariant in
    let slots = c.self.inside.active.items in
    let s = c.index.result in
    let x = c.in-Some.transaction in
    let at : get_or slots s None ≡ Some x = read_slot slots s c.index_mut.result.now x (omega (arith, c.index.ensures.below, kept.sessions)) c.index_mut.ensures.value (sym c.in-Some.ensures.value) in
    let place : c.len-place.result ≡ length c.self.inside.outcomes.items = c.len-place.ensures ∙ c.self.inside.outcomes.ok.0 in
    rw (c.push_in_room.ensures.items, c.enqueue.ensures.items, c.standing_at.ensures, c.take.ensures.after, c.as_slice-2.ensures, place)
    (kept-ended _ _ _ _ _ slots _ _ _ s x c.args.committed _ _ kept at c.push_in_room.ensures.capacity c.enqueue.ensures.capacity)
