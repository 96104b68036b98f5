use Rattle.px_shown.proofs.Unlinking.{unlink_written, unlink_in_front}
use Rattle.px_shown.proofs.laws.an_unlink_leaves_the_writes_of_others.Goals as goal

pub returns-clause-of_others : goal.returns-clause-of_others
returns-clause-of_others c = unlink_written

pub returns-clause-in_front : goal.returns-clause-in_front
returns-clause-in_front c = unlink_in_front
