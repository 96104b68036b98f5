use Rattle.std.proofs.Common.{refl}
use Rattle.px_change.specs.Grammar.{is_change, may_hold}
use Rattle.px_change.proofs.laws.what_a_frame_may_hold.Goals as goal

pub returns : goal.returns
unfolding is_change may_hold
returns c = record { next = refl; too_great = refl; no_commit = refl; table = refl; no_table = refl }
