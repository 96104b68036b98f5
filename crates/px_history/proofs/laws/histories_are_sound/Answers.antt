use Rattle.px_history.proofs.Agreeing.{history_agrees}
use Rattle.px_history.proofs.laws.histories_are_sound.Goals as goal

pub returns : goal.returns
returns c = λ parts short next rows base store steps b h. (history_agrees parts short next rows base store steps b h).sound
