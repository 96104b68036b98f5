use Rattle.px_cell_laws.proofs.Leaving.{deleted_holds, nothing_shown, swept_once_holds, swept_twice_holds}
use Rattle.px_cell_laws.proofs.Small.{begun_holds, committed_holds, committed_shows, new_holds, written_holds}
use Rattle.px_cell_laws.proofs.laws.a_small_life.Goals as goal

pub returns-clause-new : goal.returns-clause-new
returns-clause-new c = new_holds

pub returns-clause-begun : goal.returns-clause-begun
returns-clause-begun c = begun_holds

pub returns-clause-written : goal.returns-clause-written
returns-clause-written c = written_holds

pub returns-clause-committed : goal.returns-clause-committed
returns-clause-committed c = committed_holds

pub returns-clause-shown : goal.returns-clause-shown
returns-clause-shown c = committed_shows

pub returns-clause-deleted : goal.returns-clause-deleted
returns-clause-deleted c = deleted_holds

pub returns-clause-swept_once : goal.returns-clause-swept_once
returns-clause-swept_once c = swept_once_holds

pub returns-clause-swept_twice : goal.returns-clause-swept_twice
returns-clause-swept_twice c = swept_twice_holds

pub returns-clause-gone : goal.returns-clause-gone
returns-clause-gone c = nothing_shown
