use Rattle.px_cell_laws.proofs.Fitting.{answered_fits}
use Rattle.px_cell_laws.proofs.Writing.{put_follows, put_alone, put_holds, version_writes}
use Rattle.px_cell_laws.proofs.laws.a_write_is_a_put.Goals as goal

pub returns-clause-step : goal.returns-clause-step
returns-clause-step c = put_follows

pub returns-clause-alone : goal.returns-clause-alone
returns-clause-alone c = put_alone

pub returns-clause-chains : goal.returns-clause-chains
returns-clause-chains c = put_holds

pub returns-clause-version : goal.returns-clause-version
returns-clause-version c = version_writes

pub returns-clause-fits : goal.returns-clause-fits
returns-clause-fits c = answered_fits
