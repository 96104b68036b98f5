use Rattle.std.proofs.Common.{length, drop}
use Rattle.px_dlog.specs.Part.{part_size}
use Rattle.px_dlog.proofs.laws.read_is_written.Goals as goal

pub returns : goal.returns
returns c = λ text table slot bytes at. (drop (part_size (length bytes)) text, at.front)
