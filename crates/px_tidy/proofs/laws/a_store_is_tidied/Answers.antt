use Rattle.px_tidy.proofs.Stores.{store_tidied, tables_tidied}
use Rattle.px_tidy.proofs.laws.a_store_is_tidied.Goals as goal

pub returns-clause-tables : goal.returns-clause-tables
returns-clause-tables c = λ short store last sound. tables_tidied short store last sound

pub returns-clause-tidied : goal.returns-clause-tidied
returns-clause-tidied c = λ short store last sound has. store_tidied short store last sound has
