use Rattle.std.proofs.Common.{refl, arith}
use Rattle.std.proofs.lemmas.Bool.{false≢true}
use Rattle.px_recs.proofs.Zeros.{field_long, padded-zeros, zeros-padded, split}
use Rattle.px_recs.proofs.padding.unpadded.Goals as goal

pub returns-in_err-bytes-clause-none : goal.returns-in_err-bytes-clause-none
returns-in_err-bytes-clause-none c = rw c.from_residual.ensures (λ bytes size e. absurd (omega (arith, size, c.in_err-bytes.ensures.cases, field_long c.args.field.now bytes e)))

pub returns-then-are_zeros-clause-some : goal.returns-then-are_zeros-clause-some
returns-then-are_zeros-clause-some c =
    let cases = c.in_ok-bytes.ensures.cases in
    padded-zeros c.args.field.now c.in_ok-bytes.bytes.now c.in_ok-bytes.padding.now (split _ _ _ _ cases.1 cases.2) (c.if-are_zeros.ensures.0 refl)

pub returns-else-are_zeros-clause-none : goal.returns-else-are_zeros-clause-none
returns-else-are_zeros-clause-none c = λ bytes size e.
    let cases = c.in_ok-bytes.ensures.cases in
    let parts = split _ _ _ _ cases.1 cases.2 in
    let zero = zeros-padded c.args.field.now c.in_ok-bytes.bytes.now c.in_ok-bytes.padding.now bytes parts (omega (arith, size, cases.3)) e in
    false≢true (c.if-are_zeros.ensures.1 zero)
