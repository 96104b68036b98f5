use Rattle.px_shown.proofs.Moving.{body_long, body_short}
use Rattle.px_shown.proofs.laws.a_long_body_goes_on_in_a_log.Goals as goal

pub returns-clause-short : goal.returns-clause-short
returns-clause-short c = body_short

pub returns-clause-long : goal.returns-clause-long
returns-clause-long c = body_long
