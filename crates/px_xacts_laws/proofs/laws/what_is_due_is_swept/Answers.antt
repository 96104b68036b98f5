use Rattle.px_xacts_laws.proofs.Marking.{due_mirrors, swept_mirrors}
use Rattle.px_xacts_laws.proofs.laws.what_is_due_is_swept.Goals as goal

pub returns-clause-reply : goal.returns-clause-reply
returns-clause-reply c = due_mirrors

pub returns-clause-state : goal.returns-clause-state
returns-clause-state c = swept_mirrors
