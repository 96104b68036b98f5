use Rattle.px_scan.proofs.Scans.{scanned_again}
use Rattle.px_scan.proofs.laws.frames_are_scanned_again.Goals as goal

pub returns : goal.returns
returns c = scanned_again
