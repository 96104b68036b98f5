use Rattle.px_chain_laws.proofs.Moving.{write_is_newest, write_leaves_others, answered_write_is_newest, writes_keep_other_chains}
use Rattle.px_chain_laws.proofs.laws.a_write_is_the_newest_variation.Goals as goal

pub returns-clause-write : goal.returns-clause-write
returns-clause-write c = write_is_newest

pub returns-clause-others : goal.returns-clause-others
returns-clause-others c = write_leaves_others

pub returns-clause-call : goal.returns-clause-call
returns-clause-call c = answered_write_is_newest

pub returns-clause-call_others : goal.returns-clause-call_others
returns-clause-call_others c = writes_keep_other_chains
