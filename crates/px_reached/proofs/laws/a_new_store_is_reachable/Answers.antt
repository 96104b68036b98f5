use Rattle.px_standing.specs.Images.{IsPlainImage}
use Rattle.px_reached.proofs.Made.{new_is_reachable}
use Rattle.px_reached.proofs.laws.a_new_store_is_reachable.Goals as goal

pub returns : goal.returns
returns c = new_is_reachable IsPlainImage (λ m image plain. plain.each)
