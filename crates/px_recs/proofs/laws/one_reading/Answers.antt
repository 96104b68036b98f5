use Rattle.std.proofs.Common.{sym, ◌∙◌}
use Rattle.px_recs.proofs.Texts.{one_header, one_pointer}
use Rattle.px_recs.proofs.Slots.{one_slot}
use Rattle.px_recs.proofs.laws.one_reading.Goals as goal

pub returns-clause-header : goal.returns-clause-header
returns-clause-header c = λ bytes a b at_a at_b. one_header a b at_a.fits at_b.fits (sym at_a.text ∙ at_b.text)

pub returns-clause-pointer : goal.returns-clause-pointer
returns-clause-pointer c = λ bytes a b at_a at_b. one_pointer a b at_a.fits at_b.fits (sym at_a.text ∙ at_b.text)

pub returns-clause-slot : goal.returns-clause-slot
returns-clause-slot c = one_slot
