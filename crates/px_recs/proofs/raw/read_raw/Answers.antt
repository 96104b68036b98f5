use Rattle.std.proofs.Common.{◌≡◌, ◌+◌, length, ap, refl, arith}
use Rattle.std.proofs.lemmas.List.{length-append}
use Rattle.px_recs.specs.Fields.{numbers_text}
use Rattle.px_recs.specs.declared.raw.TheConstants.{GAP_SIZE, NUMBERS_SIZE}
use Rattle.px_recs.proofs.Slots.{numbers_size}
use Rattle.px_recs.proofs.raw.read_raw.Goals as goal
use Rattle.px_recs.proofs.raw.read_raw.Goals.{In_ok-numbers, In_ok-key}

before_key : (c : In_ok-numbers) → length c.args.bytes.now ≡ 2 + GAP_SIZE + NUMBERS_SIZE + length c.take_numbers.new.fields
before_key c = omega (
  arith,
  ap length c.new-fields.ensures,
  ap length c.in_ok-state.ensures.taken,
  ap length c.in_ok-key_length.ensures.taken,
  ap length c.in_ok-gap.ensures.taken,
  length-append c.in_ok-gap.gap.now c.take_slice.new.self,
  c.in_ok-gap.ensures.size,
  ap length c.in_ok-numbers.ensures.taken,
  length-append (numbers_text c.in_ok-numbers.numbers) c.take_numbers.new.fields,
  numbers_size c.in_ok-numbers.numbers,
)

pub returns-in_err-key-clause-none : goal.returns-in_err-key-clause-none
returns-in_err-key-clause-none c = rw c.from_residual-in_err-key.ensures (λ e. absurd (omega (arith, e, before_key (goal.at.returns-in_err-key-clause-none c).In_ok-numbers, c.in_err-key.ensures.none.0 refl)))

pub returns-in_err-short-clause-none : goal.returns-in_err-short-clause-none
returns-in_err-short-clause-none c = rw c.from_residual-in_err-short.ensures (λ e. absurd (omega (
  arith,
  e,
  before_key (goal.at.returns-in_err-short-clause-none c).In_ok-numbers,
  ap length c.in_ok-key.ensures.taken,
  length-append c.in_ok-key.key.now c.take_slice-2.new.self,
  c.in_ok-key.ensures.size,
  c.in_err-short.ensures.none.0 refl,
)))

pub returns-then-left-ne0-clause-none : goal.returns-then-left-ne0-clause-none
returns-then-left-ne0-clause-none c = λ e.
    let whole : length c.args.bytes.now ≡ 2 + GAP_SIZE + NUMBERS_SIZE + length c.take_numbers.new.fields = before_key (goal.at.returns-then-left-ne0-clause-none c).In_ok-numbers in
    c.if-left-ne0.true (omega (
      arith,
      e,
      whole,
      c.left.ensures,
      ap length c.in_ok-key.ensures.taken,
      length-append c.in_ok-key.key.now c.take_slice-2.new.self,
      c.in_ok-key.ensures.size,
      ap length c.in_ok-short.ensures.taken,
      length-append c.in_ok-short.short.now c.take_slice-3.new.self,
      c.in_ok-short.ensures.size,
    ))
