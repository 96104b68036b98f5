use Rattle.px_xacts_laws.proofs.Mirroring.{begin_answers, number_mirrors, snap_mirrors, count_mirrors}
use Rattle.px_xacts_laws.proofs.Marking.{horizon_mirrors}
use Rattle.px_xacts_laws.proofs.laws.what_is_read_is_the_machines.Goals as goal

pub returns-clause-begun : goal.returns-clause-begun
returns-clause-begun c = begin_answers

pub returns-clause-number : goal.returns-clause-number
returns-clause-number c = number_mirrors

pub returns-clause-snapshot : goal.returns-clause-snapshot
returns-clause-snapshot c = snap_mirrors

pub returns-clause-count : goal.returns-clause-count
returns-clause-count c = count_mirrors

pub returns-clause-horizon : goal.returns-clause-horizon
returns-clause-horizon c = horizon_mirrors
