use Rattle.std.proofs.Common.{◌≡◌, ℕ, ◌+◌, List, ◌∷◌, [], ◌++◌, length, sym, subst, arith}
use Rattle.std.proofs.lemmas.Grind.{common_steps}
use Rattle.px_cells.specs.declared.pointer.Pointer.{Pointer}
use Rattle.px_laid.specs.Places.{places}
use Rattle.px_laid.specs.Whole.{AllFrom, IsLaidPointer}
use Rattle.px_laid.proofs.Numbers.{AllFrom-push}
use Rattle.px_laid.proofs.laid.Laid.all_pointers.Goals as goal

pub loop-index-preserved : goal.loop-index-preserved
loop-index-preserved c =
    let At = IsLaidPointer (places c.args.self.now) c.args.table in
    let before = c.loop-index.pointers.items in
    let pushed : c.push.new.self.items ≡ before ++ c.in-Some.pointer ∷ [] = grind (arith, common_steps) in
    let number : c.loop-index.index + 1 ≡ 1 + length before = omega (arith, c.loop-index.invariant.long) in
    record {
      long = grind (arith, common_steps);
      each = subst (λ (pointers : List Pointer). AllFrom At 1 pointers) (sym pushed)
          (AllFrom-push At 1 before c.in-Some.pointer c.loop-index.invariant.each (subst (λ (n : ℕ). At n c.in-Some.pointer) number c.in-Some.ensures.some));
    }
