use Rattle.px_scan.proofs.Cuts.{cut_stays}
use Rattle.px_scan.proofs.crash.cut_tail_stays_away.Goals as goal

pub returns : goal.returns
returns c = cut_stays
