use Rattle.std.proofs.Common.{◌+◌, length, drop}
use Rattle.px_frame.specs.declared.frame.TheConstants.{HEADER_SIZE}
use Rattle.px_frame.proofs.laws.read_is_written.Goals as goal

pub returns : goal.returns
returns c = λ bytes number payload at. (drop (HEADER_SIZE + length payload) bytes, at.front)
