use Rattle.px_standing.specs.Images.{IsPlainImage}
use Rattle.px_reached.proofs.Standing.{reachable_stands}
use Rattle.px_reached.proofs.laws.what_is_reachable_stands.Goals as goal

pub returns : goal.returns
returns c = reachable_stands c.a_step_keeps_what_is_held.ensures.steps c.only_numbers_in_chains_are_asked.ensures c.more_places_open_to_the_same.ensures c.files_lie_under_their_frames.ensures
    IsPlainImage (λ m image plain. plain.each)
