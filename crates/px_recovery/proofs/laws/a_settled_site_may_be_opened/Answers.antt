use Rattle.px_recovery.proofs.Settling.{may_open}
use Rattle.px_recovery.proofs.laws.a_settled_site_may_be_opened.Goals as goal

pub returns-clause-may : goal.returns-clause-may
returns-clause-may c = λ s commits rows restart settled rests picked.
    may_open s commits rows restart (c.a_settled_site_is_one_file.ensures.alone s commits rows settled) (settled.images.each s.content settled.plain) rests picked

pub returns-clause-found : goal.returns-clause-found
returns-clause-found c = λ s found restart is_found rests picked.
    may_open s found.commits found.rows restart is_found.alone (c.what_is_found_stands.ensures.stands s.content found is_found.is_found) rests picked
