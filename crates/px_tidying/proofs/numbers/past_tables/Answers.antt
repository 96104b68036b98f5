use Rattle.std.proofs.Common.{ℕ, ◌+◌, subst, ◌∙◌, arith}
use Rattle.px_held.specs.Errors.{IfDamage}
use Rattle.px_held.specs.Numbers.{IsUnstoredAt}
use Rattle.px_site.proofs.Causes.{then_none_fell}
use Rattle.px_tidying.specs.Numbers.{IsUnstoredIn}
use Rattle.px_tidying.proofs.Next.{if_err, unstored_in}
use Rattle.px_tidying.proofs.Past.{one_table_past}
use Rattle.px_tidying.proofs.numbers.past_tables.Goals as goal

pub loop-before-preserved : goal.loop-before-preserved
loop-before-preserved g c =
    let so_far = c.loop-before.invariant in
    record {
      past = λ store serves. one_table_past c.args.first store.tables c.loop-before.before c.loop-before.next c.in_ok-next.next
          (so_far.past store serves) (c.in_ok-next.ensures.past store (so_far.keeps store serves));
      end = c.in_ok-next.ensures.stored;
      form = record { short = c.number_past.ensures.form.short ∙ so_far.form.short; count = c.number_past.ensures.form.count ∙ so_far.form.count };
      keeps = λ store serves. c.number_past.ensures.keeps store (so_far.keeps store serves);
      same = λ tells. c.number_past.ensures.same tells ∙ so_far.same tells;
      none_fell = then_none_fell so_far.none_fell c.number_past.ensures.none_fell;
    }

pub returns-in_err-next-clause-unstored : goal.returns-in_err-next-clause-unstored
returns-in_err-next-clause-unstored g c = λ t store serves.
    let so_far = c.loop-before.invariant in
    let number = c.loop-before.before + 1 in
    let error = c.in_err-next.field-0.0 in
    if_err c.from_residual.result (IfDamage (IsUnstoredIn c.args.held.now.short c.args.tables store.tables)) error c.from_residual.ensures.1
    (unstored_in c.args.held.now.short c.args.tables number store.tables error (omega arith, omega (arith, c.loop-before-test.true))
    (subst (λ (short : ℕ). IfDamage (IsUnstoredAt short number (store.tables number)) error) so_far.form.short
    (c.in_err-next.ensures.unstored t store (so_far.keeps store serves))))
