use Rattle.px_laid.proofs.Unused.{unused_header, unused_pointer, never_used}
use Rattle.px_laid.proofs.laws.what_is_not_laid_was_never_used.Goals as goal

pub returns-clause-header : goal.returns-clause-header
returns-clause-header c = λ places table none. rw none unused_header

pub returns-clause-pointer : goal.returns-clause-pointer
returns-clause-pointer c = λ places table number none. rw none unused_pointer

pub returns-clause-slot : goal.returns-clause-slot
returns-clause-slot c = λ short places table number none. rw none (never_used short)
