use Rattle.px_history.proofs.Writing.{base_writer, front_alone, history_alone, history_writer, may_commit, step_writer}
use Rattle.px_history.proofs.laws.one_writer_of_a_row.Goals as goal

pub returns-clause-base : goal.returns-clause-base
returns-clause-base c = base_writer

pub returns-clause-step : goal.returns-clause-step
returns-clause-step c = step_writer

pub returns-clause-commit : goal.returns-clause-commit
returns-clause-commit c = may_commit

pub returns-clause-history : goal.returns-clause-history
returns-clause-history c = history_writer

pub returns-clause-front : goal.returns-clause-front
returns-clause-front c = front_alone

pub returns-clause-more : goal.returns-clause-more
returns-clause-more c = history_alone
