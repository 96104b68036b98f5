use Rattle.std.proofs.Common.{◌≡◌, take}
use Rattle.px_laid.specs.Places.{none_laid, places}
use Rattle.px_opened.specs.Opened.{changes_over}
use Rattle.px_opened.proofs.laying.lay_all.Given as goal

abbrev pub invariant-loop-change : goal.invariant-loop-change
invariant-loop-change l = places l.laid ≡ changes_over none_laid (take l.change-index l.changes)
