use Rattle.px_change.proofs.Changes.{put_size}
use Rattle.px_change.proofs.laws.size_of_a_put.Goals as goal

pub returns : goal.returns
returns c = λ change put ok. put_size 64 change put ok
