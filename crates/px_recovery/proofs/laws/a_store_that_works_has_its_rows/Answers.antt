use Rattle.px_shown.specs.Parts.{no_parts}
use Rattle.px_recovery.proofs.Rows.{has_rows}
use Rattle.px_recovery.proofs.laws.a_store_that_works_has_its_rows.Goals as goal

pub returns : goal.returns
returns c = has_rows (c.a_key_has_the_chain_of_its_row.ensures.row no_parts) (c.a_key_has_the_chain_of_its_row.ensures.none no_parts)
