use Rattle.px_tidy.proofs.Stores.{last_steps, next_steps}
use Rattle.px_tidy.proofs.laws.rows_between_have_no_steps.Goals as goal

pub returns-clause-next : goal.returns-clause-next
returns-clause-next c = λ short store t last row sound next. next_steps short store t last row sound next

pub returns-clause-end : goal.returns-clause-end
returns-clause-end c = λ short store t last sound none. last_steps short store t last sound none
