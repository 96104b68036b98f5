use Rattle.std.proofs.Common.{refl}
use Rattle.px_model.specs.Rows.{key_cmp, same_key}
use Rattle.px_told.specs.Writes.{rows_in}
use Rattle.px_history.proofs.Small.{rows_again, second_is_one, second_logged, second_shown, small_is_base, small_is_one}
use Rattle.px_history.proofs.laws.a_small_history.Goals as goal

pub returns-clause-history : goal.returns-clause-history
returns-clause-history c = small_is_one

pub returns-clause-rows : goal.returns-clause-rows
unfolding rows_in key_cmp same_key
returns-clause-rows c = refl

pub returns-clause-written : goal.returns-clause-written
unfolding rows_in key_cmp same_key
returns-clause-written c = refl

pub returns-clause-committed : goal.returns-clause-committed
unfolding rows_in key_cmp same_key
returns-clause-committed c = refl

pub returns-clause-base : goal.returns-clause-base
returns-clause-base c = small_is_base

pub returns-clause-second : goal.returns-clause-second
returns-clause-second c = second_is_one

pub returns-clause-rows_again : goal.returns-clause-rows_again
returns-clause-rows_again c = rows_again

pub returns-clause-whole_body : goal.returns-clause-whole_body
returns-clause-whole_body c = second_shown

pub returns-clause-logged : goal.returns-clause-logged
returns-clause-logged c = second_logged
