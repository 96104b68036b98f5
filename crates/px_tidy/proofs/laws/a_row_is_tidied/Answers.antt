use Rattle.std.proofs.Common.{refl}
use Rattle.px_history.specs.Steps.{after_steps}
use Rattle.px_tidy.specs.Steps.{tidying_row}
use Rattle.px_tidy.proofs.OneRow.{one_row, tidy_row}
use Rattle.px_tidy.proofs.laws.a_row_is_tidied.Goals as goal

pub returns-clause-steps : goal.returns-clause-steps
returns-clause-steps c = λ short store t row sound. tidy_row short store t row sound

pub returns-clause-one_row : goal.returns-clause-one_row
returns-clause-one_row c = λ short store t row sound used.
    let a = tidy_row short store t row sound in
    one_row short store (after_steps store (tidying_row store t row)) t row a.done (a.tidied t row (refl, refl)) used
