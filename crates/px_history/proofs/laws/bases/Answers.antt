use Rattle.px_history.proofs.Basing.{closed_is_base, crashed_is_base, nothing_is_base, tidied_is_base, unlinked_is_base}
use Rattle.px_history.proofs.laws.bases.Goals as goal

pub returns-clause-nothing : goal.returns-clause-nothing
returns-clause-nothing c = nothing_is_base

pub returns-clause-crashed : goal.returns-clause-crashed
returns-clause-crashed c = crashed_is_base

pub returns-clause-closed : goal.returns-clause-closed
returns-clause-closed c = closed_is_base

pub returns-clause-unlinked : goal.returns-clause-unlinked
returns-clause-unlinked c = unlinked_is_base

pub returns-clause-tidied : goal.returns-clause-tidied
returns-clause-tidied c = tidied_is_base
