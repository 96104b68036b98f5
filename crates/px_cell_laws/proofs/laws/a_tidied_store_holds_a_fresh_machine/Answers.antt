use Rattle.px_cell_laws.proofs.Beginning.{tidied_holds, tidied_writers}
use Rattle.px_cell_laws.proofs.laws.a_tidied_store_holds_a_fresh_machine.Goals as goal

pub returns-clause-chains : goal.returns-clause-chains
returns-clause-chains c = tidied_holds

pub returns-clause-writers : goal.returns-clause-writers
returns-clause-writers c = tidied_writers
