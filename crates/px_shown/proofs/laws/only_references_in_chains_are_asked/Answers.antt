use Rattle.px_shown.proofs.Moving.{same_rows, same_writes}
use Rattle.px_shown.proofs.laws.only_references_in_chains_are_asked.Goals as goal

pub returns-clause-references : goal.returns-clause-references
returns-clause-references c = same_rows

pub returns-clause-writes : goal.returns-clause-writes
returns-clause-writes c = same_writes
