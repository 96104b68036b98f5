use Rattle.px_apply.proofs.Touched.{kept, no_longer}
use Rattle.px_apply.proofs.laws.what_a_crash_leaves.Goals as goal

pub returns : goal.returns
returns c = record { kept = kept; no_longer = no_longer }
