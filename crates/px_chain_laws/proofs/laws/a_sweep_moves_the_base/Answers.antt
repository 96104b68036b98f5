use Rattle.px_chain_laws.proofs.Sweeping.{swept_from, sweep_leaves_others, idle_stays, one_base, calls_keep_bases}
use Rattle.px_chain_laws.proofs.laws.a_sweep_moves_the_base.Goals as goal

pub returns-clause-swept : goal.returns-clause-swept
returns-clause-swept c = swept_from

pub returns-clause-others : goal.returns-clause-others
returns-clause-others c = sweep_leaves_others

pub returns-clause-idle : goal.returns-clause-idle
returns-clause-idle c = idle_stays

pub returns-clause-one_base : goal.returns-clause-one_base
returns-clause-one_base c = one_base

pub returns-clause-call : goal.returns-clause-call
returns-clause-call c = calls_keep_bases
