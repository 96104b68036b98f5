use Rattle.std.proofs.Common.{◌≡◌, drop}
use Rattle.std.specs.Prelude.{fold}
use Rattle.px_chain.specs.Links.{placed, freed}
use Rattle.px_chain.specs.Near.{near_slots}
use Rattle.px_chain.proofs.unlinking.unlinked_slots.Given as goal

abbrev pub invariant-loop-i : goal.invariant-loop-i
invariant-loop-i l = fold placed l.slots.items (freed (drop l.i l.cut.gone) l.header.free_slot) ≡ near_slots l.header l.cut
