use Rattle.px_logged.proofs.Recounted.{fresh_recounts}
use Rattle.px_logged.proofs.laws.what_opens_is_its_log.Goals as goal

pub returns : goal.returns
returns c = fresh_recounts
