use Rattle.px_realsite.specs.Traffic.{NoBytes}
use Rattle.px_realsite.proofs.walk.Walk.next.Given as goal

abbrev pub invariant-loop-at : goal.invariant-loop-at
invariant-loop-at g l = NoBytes l.initial.system.traffic l.system.traffic
