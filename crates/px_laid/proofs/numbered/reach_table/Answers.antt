use Rattle.std.proofs.Common.{◌≡◌, List, sym, subst, ◌∙◌, arith}
use Rattle.std.proofs.lemmas.Grind.{common_steps}
use Rattle.px_laid.specs.declared.numbered.NumberedCells.{NumberedCells}
use Rattle.px_laid.specs.Numbered.{bytes_in}
use Rattle.px_laid.proofs.Putting.{added_empty}
use Rattle.px_laid.proofs.numbered.reach_table.Goals as goal

pub loop-added-preserved : goal.loop-added-preserved
loop-added-preserved c = record {
  long = grind (arith, common_steps);
  same = λ t number.
      subst (λ (tables : List NumberedCells). bytes_in tables t number ≡ bytes_in c.args.tables.now.items t number) (sym c.in_ok-push.ensures.items)
      (added_empty c.loop-added.tables.items c.new.result c.new.ensures t number ∙ c.loop-added.invariant.same t number);
}
