use Rattle.std.proofs.Common.{◌≡◌, take}
use Rattle.px_life.specs.Front.{done_by}
use Rattle.px_tidy.specs.Numbers.{done_of}
use Rattle.px_tidying.proofs.numbers.done_by.Given as goal

abbrev pub invariant-loop-change : goal.invariant-loop-change
invariant-loop-change l = done_of l.done ≡ done_by l.restart (take l.change-index l.changes)
