use Rattle.px_shown.proofs.Showing.{alike_shown}
use Rattle.px_shown.proofs.laws.only_numbers_in_chains_are_asked.Goals as goal

pub returns : goal.returns
returns c = alike_shown
