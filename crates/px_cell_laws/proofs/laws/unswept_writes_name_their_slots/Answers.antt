use Rattle.px_cell_laws.proofs.Closing.{commit_written, end_written, rollback_written}
use Rattle.px_cell_laws.proofs.Moved.{move_stays_written}
use Rattle.px_cell_laws.proofs.Noting.{begin_written, nothing_written}
use Rattle.px_cell_laws.proofs.Passing.{nothing_swept_written, sweep_written}
use Rattle.px_cell_laws.proofs.Placing.{write_written}
use Rattle.px_cell_laws.proofs.laws.unswept_writes_name_their_slots.Goals as goal

pub returns-clause-opening : goal.returns-clause-opening
returns-clause-opening c = nothing_written

pub returns-clause-begin : goal.returns-clause-begin
returns-clause-begin c = begin_written

pub returns-clause-write : goal.returns-clause-write
returns-clause-write c = write_written

pub returns-clause-end : goal.returns-clause-end
returns-clause-end c = end_written

pub returns-clause-commit : goal.returns-clause-commit
returns-clause-commit c = commit_written

pub returns-clause-rollback : goal.returns-clause-rollback
returns-clause-rollback c = rollback_written

pub returns-clause-sweep : goal.returns-clause-sweep
returns-clause-sweep c = sweep_written

pub returns-clause-nothing : goal.returns-clause-nothing
returns-clause-nothing c = nothing_swept_written

pub returns-clause-moved : goal.returns-clause-moved
returns-clause-moved c = move_stays_written
