use Rattle.px_script.proofs.TextsRead.{text-read}
use Rattle.px_script.proofs.laws.text_is_read.Goals as goal

pub returns : goal.returns
returns c = text-read
