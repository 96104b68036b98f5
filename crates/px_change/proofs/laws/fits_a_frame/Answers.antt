use Rattle.px_change.proofs.Changes.{in_frame}
use Rattle.px_change.proofs.laws.fits_a_frame.Goals as goal

pub returns : goal.returns
returns c = in_frame
