use Rattle.std.proofs.Common.{inr}
use Rattle.px_log.proofs.Refusals.{stops_short}
use Rattle.px_log.proofs.open.scan_log.Goals as goal

pub returns-then-scan-restart-clause-cause : goal.returns-then-scan-restart-clause-cause
returns-then-scan-restart-clause-cause g c t =
    (c.log_file.ensures, inr (stops_short _ _ _ _ _ (c.in_ok-scan.ensures.scan t) c.in_ok-scan.ensures.held c.in_ok-scan.ensures.count c.if-scan-restart.true))
