use Rattle.px_scan.proofs.Cuts.{comes_back, written_plain}
use Rattle.px_scan.proofs.crash.unsynced_cut_brings_a_frame_back.Goals as goal

pub returns : goal.returns
returns c = λ number a b c' torn can same. (written_plain _ _ number, comes_back number a b c' torn can same)
