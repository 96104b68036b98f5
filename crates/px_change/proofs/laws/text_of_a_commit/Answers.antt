use Rattle.std.proofs.Common.{refl}
use Rattle.px_change.specs.Text.{head, change_text}
use Rattle.px_change.proofs.laws.text_of_a_commit.Goals as goal

pub returns : goal.returns
unfolding head change_text
returns c = refl
