use Rattle.std.proofs.Common.{◌≡◌, ℕ, List, ◌∷◌, ◌++◌, length, replicate, refl, sym, ap, ◌∙◌, arith}
use Rattle.std.proofs.lemmas.List.{length-append}
use Rattle.std.proofs.lemmas.Bool.{false≢true}
use Rattle.px_recs.proofs.Texts.{pointer_size, pointer_front, pointer_whole}
use Rattle.px_recs.proofs.pointer.read_pointer.Goals as goal
use Rattle.px_recs.proofs.pointer.read_pointer.Goals.{In_ok-gap}

-- the bytes up to the gap
front : (c : In_ok-gap) → c.args.bytes.now ≡ c.in_ok-code.code ∷ (c.in_ok-gap.gap.now ++ c.take_slice.new.self)
front c = sym c.new-fields.ensures ∙ c.in_ok-code.ensures.taken ∙ ap (λ (x : List ℕ). c.in_ok-code.code ∷ x) c.in_ok-gap.ensures.taken

pub returns-in_err-head-clause-none : goal.returns-in_err-head-clause-none
returns-in_err-head-clause-none c = rw c.from_residual-in_err-head.ensures (λ pointer at.
    absurd (omega (
      arith,
      pointer_size c.args.bytes.now pointer at,
      ap length (front (goal.at.returns-in_err-head-clause-none c).In_ok-gap),
      length-append c.in_ok-gap.gap.now c.take_slice.new.self,
      c.in_ok-gap.ensures.size,
      c.in_err-head.ensures.none.0 refl,
    )))

pub returns-then-left-ne0-clause-none : goal.returns-then-left-ne0-clause-none
returns-then-left-ne0-clause-none c = λ pointer at.
    c.if-left-ne0.true (omega (
      arith,
      pointer_size c.args.bytes.now pointer at,
      ap length (front (goal.at.returns-then-left-ne0-clause-none c).In_ok-gap),
      length-append c.in_ok-gap.gap.now c.take_slice.new.self,
      c.in_ok-gap.ensures.size,
      ap length c.in_ok-head.ensures.taken,
      c.left.ensures,
    ))

pub returns-then-not-are_zeros-clause-none : goal.returns-then-not-are_zeros-clause-none
returns-then-not-are_zeros-clause-none c = λ pointer at.
    let of = pointer_front _ _ _ _ pointer at (front (goal.at.returns-then-not-are_zeros-clause-none c).In_ok-gap) c.in_ok-gap.ensures.size in
    false≢true (c.if-not-are_zeros.ensures.1 (of.1 ∙ ap (λ (n : ℕ). replicate n 0) (sym c.in_ok-gap.ensures.size)))

pub returns-in_err-used-clause-none : goal.returns-in_err-used-clause-none
returns-in_err-used-clause-none c = rw c.from_residual-in_err-used.ensures (λ pointer at.
    let of = pointer_front _ _ _ _ pointer at (front (goal.at.returns-in_err-used-clause-none c).In_ok-gap) c.in_ok-gap.ensures.size in
    c.in_err-used.ensures.none pointer.used of.0)

pub returns-clause-some : goal.returns-clause-some
returns-clause-some c = record {
  fits = omega arith;
  text = pointer_whole _ _ _ _ c.in_ok-head.head _ c.in_ok-used.used (front (goal.at.returns-clause-some c).In_ok-gap)
      (c.if-not-are_zeros.ensures.0 refl ∙ ap (λ (n : ℕ). replicate n 0) c.in_ok-gap.ensures.size) c.in_ok-head.ensures.taken (omega (arith, c.left.ensures)) c.in_ok-used.ensures.some;
}
