use Rattle.px_frame.proofs.Frames.{one_number, one_payload}
use Rattle.px_frame.proofs.laws.one_reading.Goals as goal

pub returns : goal.returns
returns c = λ bytes m n p q at_p at_q. (one_number bytes m n p q at_p at_q, one_payload bytes m n p q at_p at_q)
