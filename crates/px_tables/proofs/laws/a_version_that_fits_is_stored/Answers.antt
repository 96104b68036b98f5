use Rattle.px_tables.proofs.Prepared.{stored_version}
use Rattle.px_tables.proofs.laws.a_version_that_fits_is_stored.Goals as goal

pub returns : goal.returns
returns c = stored_version
