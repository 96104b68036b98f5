use Rattle.std.proofs.Common.{◌≡◌, ℕ, ◌+◌, List, ◌∷◌, [], ◌++◌, length, Option, IfSome, sym, subst, arith}
use Rattle.std.proofs.lemmas.Grind.{common_steps}
use Rattle.px_cells.specs.declared.slot.Slot.{Slot}
use Rattle.px_laid.specs.Places.{places}
use Rattle.px_laid.specs.Whole.{AllFrom, IsLaidSlot}
use Rattle.px_laid.proofs.Numbers.{AllFrom-push}
use Rattle.px_laid.proofs.laid.Laid.all_slots.Goals as goal

pub loop-index-preserved : goal.loop-index-preserved
loop-index-preserved c =
    let At = IsLaidSlot c.args.short (places c.args.self.now) c.args.table in
    let before = c.loop-index.slots.items in
    let pushed : c.push.new.self.items ≡ before ++ c.in-Some.slot ∷ [] = grind (arith, common_steps) in
    let number : c.loop-index.index + 1 ≡ 1 + length before = omega (arith, c.loop-index.invariant.long) in
    let here : At (c.loop-index.index + 1) c.in-Some.slot = subst (λ (read : Option Slot). IfSome read (At (c.loop-index.index + 1))) c.in-Some.is c.in_ok-slot.ensures.some in
    record {
      long = grind (arith, common_steps);
      each = subst (λ (slots : List Slot). AllFrom At 1 slots) (sym pushed)
          (AllFrom-push At 1 before c.in-Some.slot c.loop-index.invariant.each (subst (λ (n : ℕ). At n c.in-Some.slot) number here));
    }
