use Rattle.std.proofs.Common.{ℕ, sym, ◌∙◌, ap, arith, ◌≡◌, ◌<◌, ◌+◌, length, get_or, take, Some}
use Rattle.std.proofs.lemmas.Bool.{eqb-true, eqb-false, both_ways}
use Rattle.std.proofs.lemmas.Int.Digits.{digits_value_more, digits_more}
use Rattle.std.proofs.lemmas.List.{take_all}
use Rattle.px_script.proofs.Numbers.{number_of-empty, number_of-leading, number_of-no_digit, number_of-large, number_of-read, digit_value-digit}
use Rattle.px_script.proofs.number.number_of.Goals as goal
use Rattle.px_script.proofs.number.number_of.Goals.{then-is_empty-via-then-is_empty, then-is_empty-via-else-is_empty+then-has_leading_zero}

one_or_long : (size : ℕ) → 0 < size → (1 < size → ⊥) → size ≡ 1
one_or_long size some short = omega arith

pub returns-then-is_empty : goal.returns-then-is_empty
returns-then-is_empty c =
    elim c.then-is_empty.branch [
      | then-is_empty-via-then-is_empty w ↦
          sym (number_of-empty c.args.most c.args.word.now (omega arith) (eqb-true (length c.args.word.now) 0 (sym c.is_empty.ensures ∙ w.if-is_empty.true)))
      | then-is_empty-via-else-is_empty+then-has_leading_zero w ↦
          (let leads = w.has_leading_zero.ensures.0 w.if-has_leading_zero.true in
          sym (number_of-leading c.args.most c.args.word.now (omega arith) leads.0 leads.1))
    ]

pub returns-then-not-is_ascii_digit : goal.returns-then-not-is_ascii_digit
returns-then-not-is_ascii_digit c =
    sym (number_of-no_digit c.args.most c.args.word.now c.loop-digit.digit-index (omega arith) c.loop-digit-test.true
    (λ digit. let f = c.if-not-is_ascii_digit.true in let g = c.if-not-is_ascii_digit.ensures.cases in grind arith))

pub returns-in_err-checked_mul : goal.returns-in_err-checked_mul
returns-in_err-checked_mul c =
    let large = c.in_err-checked_mul.ensures in
    let more = digits_value_more 10 c.args.word.now c.loop-digit.digit-index c.loop-digit-test.true in
    let value = c.loop-digit.invariant.value in
    c.from_residual.ensures
    ∙ sym (number_of-large c.args.most c.args.word.now (c.loop-digit.digit-index + 1) (omega arith))

pub returns-in_err-number : goal.returns-in_err-number
returns-in_err-number c =
    let large = c.in_err-number.ensures in
    let more = digits_value_more 10 c.args.word.now c.loop-digit.digit-index c.loop-digit-test.true in
    let value = c.loop-digit.invariant.value in
    let product = c.in_ok-checked_mul.ensures.1 in
    let range = c.if-not-is_ascii_digit.ensures.cases in
    let digit = digit_value-digit (get_or c.args.word.now c.loop-digit.digit-index 0) range.0 range.1 in
    let added = c.from-value.ensures in
    c.from_residual-in_err-number.ensures
    ∙ sym (number_of-large c.args.most c.args.word.now (c.loop-digit.digit-index + 1) (omega (arith, large, more, digit, added, product, value)))

pub loop-digit-preserved : goal.loop-digit-preserved
loop-digit-preserved c =
    let more = digits_value_more 10 c.args.word.now c.loop-digit.digit-index c.loop-digit-test.true in
    let value = c.loop-digit.invariant.value in
    let product = c.in_ok-checked_mul.ensures.1 in
    let range = c.if-not-is_ascii_digit.ensures.cases in
    let digit = digit_value-digit (get_or c.args.word.now c.loop-digit.digit-index 0) range.0 range.1 in
    let added = c.from-value.ensures in
    let whole = c.in_ok-number.ensures.1 in record {
      value = omega (arith, more, digit, added, product, value, whole);
      digits = digits_more 10 c.args.word.now c.loop-digit.digit-index c.loop-digit-test.true c.loop-digit.invariant.digits c.if-not-is_ascii_digit.ensures.bound;
    }

pub returns-then-number-most : goal.returns-then-number-most
returns-then-number-most c =
    let all : take c.loop-digit.digit-index c.args.word.now ≡ c.args.word.now = take_all c.loop-digit.digit-index c.args.word.now (omega arith) in
    let value = rw all at c.loop-digit.invariant.value in
    let digits = rw all at c.loop-digit.invariant.digits in
    let some = eqb-false (length c.args.word.now) 0 (sym c.is_empty.ensures ∙ c.if-is_empty.false) in
    ap Some value
    ∙ sym (number_of-read c.args.most c.args.word.now (omega arith) digits (omega (arith, some)) (λ zero. one_or_long (length c.args.word.now) (omega (arith, some)) (λ long. both_ways c.has_leading_zero.result c.if-has_leading_zero.false (c.has_leading_zero.ensures.1 (zero, long)))) (omega arith))

pub returns-else-number-most : goal.returns-else-number-most
returns-else-number-most c =
    sym (number_of-large c.args.most c.args.word.now c.loop-digit.digit-index (let v = c.loop-digit.invariant.value in omega arith))
