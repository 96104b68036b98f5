use Rattle.px_tidy.proofs.Stores.{rows_tidied, table_tidied}
use Rattle.px_tidy.proofs.laws.a_table_is_tidied.Goals as goal

pub returns-clause-rows : goal.returns-clause-rows
returns-clause-rows c = λ short store t last sound. rows_tidied short store t last sound

pub returns-clause-table : goal.returns-clause-table
returns-clause-table c = λ short store t sound. table_tidied short store t sound
