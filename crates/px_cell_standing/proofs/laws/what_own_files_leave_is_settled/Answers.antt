use Rattle.px_cell_standing.proofs.Touching.{log_own, one_file_settles, own_one_file}
use Rattle.px_cell_standing.proofs.laws.what_own_files_leave_is_settled.Goals as goal

pub returns-clause-one_file : goal.returns-clause-one_file
returns-clause-one_file c = own_one_file

pub returns-clause-crashed : goal.returns-clause-crashed
returns-clause-crashed c = one_file_settles

pub returns-clause-log_alone : goal.returns-clause-log_alone
returns-clause-log_alone c = log_own
