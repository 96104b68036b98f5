use Rattle.px_site.proofs.Names.{read_is_decimal, unread_is_none}
use Rattle.px_site.proofs.name.read_plain.Goals as goal

pub returns-in-Ok-clause-found : goal.returns-in-Ok-clause-found
returns-in-Ok-clause-found c = read_is_decimal _ _ _ c.requires c.in-Ok.is c.parse.ensures.value.0

pub returns-in-Err-clause-absent : goal.returns-in-Err-clause-absent
returns-in-Err-clause-absent c = unread_is_none _ _ _ c.in-Err.is c.parse.ensures.value.0
