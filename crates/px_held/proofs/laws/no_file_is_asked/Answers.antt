use Rattle.px_held.proofs.Serving.{anywhere}
use Rattle.px_held.proofs.laws.no_file_is_asked.Goals as goal

pub returns : goal.returns
returns c = anywhere
