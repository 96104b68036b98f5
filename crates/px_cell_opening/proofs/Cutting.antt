-- The log is cut behind calls that only read.
use Rattle.std.proofs.Common.{◌≡◌, subst}
use Rattle.px_log.specs.Log.{OnlyGrew, ReadsAsBefore}
use Rattle.px_site.specs.State.{EachMoment, OnFile, State}
use Rattle.px_xlog.specs.Contents.{the_log}

-- at each moment of it the log reads as it could before
abbrev CutsBetween : (old new : State) → Type 0
CutsBetween old new =
    OnlyGrew (old.now.files the_log) (old.content the_log) → EachMoment (OnFile the_log old.now (ReadsAsBefore (old.now.files the_log))) old new

pub cut_behind : (old middle new : State) → middle ≡ old → CutsBetween middle new → CutsBetween old new
cut_behind old middle new same cuts = subst (λ (s : State). CutsBetween s new) same cuts
