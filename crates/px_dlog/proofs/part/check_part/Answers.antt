use Rattle.std.proofs.Common.{◌≡◌, ◌-◌, ◌<◌, ℕ, take, drop, length, refl, subst, arith}
use Rattle.std.proofs.lemmas.Bool.{false≢true}
use Rattle.px_dlog.specs.declared.part.TheConstants.{HEADER_SIZE}
use Rattle.px_dlog.specs.Part.{PartAt}
use Rattle.px_dlog.proofs.Parts.{part_long}
use Rattle.px_dlog.proofs.Reading.{checks_part, part_checks}
use Rattle.px_dlog.proofs.part.check_part.Goals as goal

pub returns-in_err-header-clause-none : goal.returns-in_err-header-clause-none
returns-in_err-header-clause-none c =
    let short : length c.args.text.now < HEADER_SIZE = c.in_err-header.ensures.none.0 refl in
    rw c.from_residual.ensures (λ bytes sized at. absurd (omega (arith, part_long c.args.text.now c.args.table c.args.slot bytes at)))

pub returns-then-not-checks-clause-none : goal.returns-then-not-checks-clause-none
returns-then-not-checks-clause-none c = λ bytes sized at.
    absurd (false≢true (c.if-not-checks.ensures.1 (part_checks c.args.text.now c.in_ok-header.header c.args.size c.args.table c.args.slot bytes c.in_ok-header.ensures.front sized at)))

pub returns-clause-found : goal.returns-clause-found
returns-clause-found c =
    let header = c.in_ok-header.header in
    let size : header.length ≡ c.part_size-end.result - HEADER_SIZE = omega (arith, c.part_size-end.ensures) in
    subst (λ (n : ℕ). PartAt c.args.text.now c.args.table c.args.slot (take n (drop HEADER_SIZE c.args.text.now))) size
    (checks_part c.args.text.now header c.args.size c.args.table c.args.slot (omega arith) (omega arith) c.in_ok-header.ensures.front (c.if-not-checks.ensures.0 refl))
