use Rattle.px_script.proofs.TextsSaid.{text-said}
use Rattle.px_script.proofs.laws.a_line_is_its_text.Goals as goal

pub returns : goal.returns
returns c = text-said
