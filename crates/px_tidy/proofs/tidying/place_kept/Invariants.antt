use Rattle.std.proofs.Common.{◌<◌, ◌^◌, length}
use Rattle.px_tidy.specs.Numbers.{done_of}
use Rattle.px_tidy.proofs.Walks.{IsYet}
use Rattle.px_tidy.proofs.tidying.place_kept.Given as goal

abbrev pub invariant-loop-slot : goal.invariant-loop-slot
invariant-loop-slot l = IsYet (done_of l.done) l.place l.slot-iterator l.initial.slot-iterator × (length l.initial.slot-iterator < 2 ^ 32)
