use Rattle.px_script.proofs.Cuts.{words_left-empty}
use Rattle.px_script.proofs.words.Words.is_empty.Goals as goal

pub returns : goal.returns
returns c = rw (← c.self.view_is) (words_left-empty c.self.inside.rest c.is_none.result c.is_none.ensures)
