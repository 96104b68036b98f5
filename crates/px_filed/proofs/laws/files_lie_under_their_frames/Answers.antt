use Rattle.px_filed.proofs.Lying.{files_lie}
use Rattle.px_filed.proofs.laws.files_lie_under_their_frames.Goals as goal

pub returns : goal.returns
returns c = files_lie
