use Rattle.px_dlog.proofs.Bodies.{fitting_parts, whole_body}
use Rattle.px_dlog.proofs.body.a_body_is_its_head_and_parts.Goals as goal

pub returns-clause-whole : goal.returns-clause-whole
returns-clause-whole c = whole_body

pub returns-clause-fit : goal.returns-clause-fit
returns-clause-fit c = fitting_parts
