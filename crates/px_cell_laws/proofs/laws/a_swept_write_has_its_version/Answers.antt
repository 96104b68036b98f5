use Rattle.px_cell_laws.proofs.Sweeping.{version_at, version_there}
use Rattle.px_cell_laws.proofs.laws.a_swept_write_has_its_version.Goals as goal

pub returns-clause-there : goal.returns-clause-there
returns-clause-there c = version_there

pub returns-clause-slot : goal.returns-clause-slot
returns-clause-slot c = version_at
