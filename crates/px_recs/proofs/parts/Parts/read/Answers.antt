use Rattle.px_recs.proofs.Slots.{parts_size}
use Rattle.px_recs.proofs.parts.Parts.read.Goals as goal

pub returns-in_err-raw-clause-none : goal.returns-in_err-raw-clause-none
returns-in_err-raw-clause-none c = rw c.from_residual.ensures (λ slot at. c.in_err-raw.ensures.none (parts_size c.args.short c.args.bytes.now slot at))
