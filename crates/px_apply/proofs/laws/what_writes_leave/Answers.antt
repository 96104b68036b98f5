use Rattle.px_apply.proofs.Laid.{contents_after, now_after, told_after}
use Rattle.px_apply.proofs.laws.what_writes_leave.Goals as goal

pub returns : goal.returns
returns c = record { contents = contents_after; now = now_after; told = told_after }
