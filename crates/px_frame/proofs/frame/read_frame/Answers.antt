use Rattle.std.proofs.Common.{◌≡◌, ◌+◌, ◌-◌, ◌<◌, ℕ, take, drop, length, refl, subst, arith}
use Rattle.std.proofs.lemmas.Bool.{false≢true}
use Rattle.px_frame.specs.declared.frame.TheConstants.{HEADER_SIZE}
use Rattle.px_frame.specs.Frame.{FrameAt}
use Rattle.px_frame.proofs.Frames.{frame_long}
use Rattle.px_frame.proofs.Reading.{checks_frame, frame_checks}
use Rattle.px_frame.proofs.frame.read_frame.Goals as goal

pub returns-in_err-header-clause-none : goal.returns-in_err-header-clause-none
returns-in_err-header-clause-none c =
    let short : length c.args.bytes.now < HEADER_SIZE = c.in_err-header.ensures.none.0 refl in
    rw c.from_residual.ensures (λ payload at. absurd (omega (arith, frame_long c.args.bytes.now c.args.number payload at)))

pub returns-then-not-checks-clause-none : goal.returns-then-not-checks-clause-none
returns-then-not-checks-clause-none c = λ payload at.
    absurd (false≢true (c.if-not-checks.ensures.1 (frame_checks c.args.bytes.now c.in_ok-header.header c.args.number payload c.in_ok-header.ensures.front at)))

pub returns-clause-found : goal.returns-clause-found
returns-clause-found c =
    let header = c.in_ok-header.header in
    let size : header.length ≡ HEADER_SIZE + header.length - HEADER_SIZE = omega arith in
    subst (λ (n : ℕ). FrameAt c.args.bytes.now c.args.number (take n (drop HEADER_SIZE c.args.bytes.now))) size
    (checks_frame c.args.bytes.now header c.args.number c.in_ok-header.ensures.front (c.if-not-checks.ensures.0 refl))
