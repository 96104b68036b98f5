use Rattle.px_frame.proofs.Frames.{payload_at-found, payload_at-again}
use Rattle.px_frame.proofs.laws.test_is_exact.Goals as goal

pub returns : goal.returns
returns c = λ bytes number payload. (payload_at-found bytes number payload, payload_at-again bytes number payload)
