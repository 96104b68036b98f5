use Rattle.std.proofs.Common.{◌<◌, length, refl, arith}
use Rattle.std.proofs.lemmas.Bool.{false≢true}
use Rattle.px_restart.specs.declared.restart.TheConstants.{RESTART_SIZE}
use Rattle.px_restart.proofs.Restarts.{restart_long}
use Rattle.px_restart.proofs.Reading.{checks_restart, restart_checks}
use Rattle.px_restart.proofs.choice.read_restart.Goals as goal

pub returns-in_err-file-clause-none : goal.returns-in_err-file-clause-none
returns-in_err-file-clause-none c =
    let short : length c.args.bytes.now < RESTART_SIZE = c.in_err-file.ensures.none in
    rw c.from_residual.ensures (λ restart at. absurd (omega (arith, restart_long c.args.bytes.now restart at)))

pub returns-then-checks-clause-found : goal.returns-then-checks-clause-found
returns-then-checks-clause-found c = checks_restart c.args.bytes.now c.in_ok-file.file c.in_ok-file.ensures.front (c.if-checks.ensures.0 refl)

pub returns-else-checks-clause-none : goal.returns-else-checks-clause-none
returns-else-checks-clause-none c = λ restart at.
    absurd (false≢true (c.if-checks.ensures.1 (restart_checks c.args.bytes.now c.in_ok-file.file restart c.in_ok-file.ensures.front at)))
