use Rattle.std.proofs.Common.{◌≡◌, ℕ, ◌+◌, List, ◌∷◌, [], ◌++◌, sym, subst, arith}
use Rattle.std.proofs.lemmas.Grind.{common_steps}
use Rattle.px_laid.specs.Places.{places}
use Rattle.px_tables.specs.Held.{Held}
use Rattle.px_opened.specs.Damage.{IsErrorIn}
use Rattle.px_opened.specs.Opened.{AreOpened}
use Rattle.px_opened.proofs.Counted.{AreCounted, all_counted, one_counted}
use Rattle.px_opened.proofs.Found.{error_in, found, if_err, one_more}
use Rattle.px_opened.proofs.opening.open_tables.Goals as goal

pub returns-in_err-table-clause-err : goal.returns-in_err-table-clause-err
returns-in_err-table-clause-err c =
    if_err c.from_residual.result (IsErrorIn c.args.short c.args.tables (places c.args.laid.now)) c.in_err-table.field-0.0 c.from_residual.ensures.1
    (error_in c.args.short c.args.tables c.loop-before.before (places c.args.laid.now) c.loop-before.opened.items c.in_err-table.field-0.0 c.loop-before.invariant.opened
    c.loop-before-test.true c.in_err-table.ensures.err)

pub loop-before-preserved : goal.loop-before-preserved
loop-before-preserved c =
    let before = c.loop-before.opened.items in
    let pushed : c.push.new.self.items ≡ before ++ c.in_ok-table.table ∷ [] = grind (arith, common_steps) in
    record {
      opened = subst (λ (tables : List Held). AreOpened c.args.short (c.loop-before.before + 1) (places c.args.laid.now) tables) (sym pushed)
          (one_more c.args.short c.loop-before.before (places c.args.laid.now) before c.in_ok-table.table c.loop-before.invariant.opened c.in_ok-table.ensures.ok);
      counted = subst (AreCounted 1) (sym pushed) (one_counted before c.in_ok-table.table c.loop-before.invariant.counted c.in_ok-table.ensures.counted);
    }

pub returns-clause-counted : goal.returns-clause-counted
returns-clause-counted c = all_counted c.loop-before.opened.items c.loop-before.invariant.counted

pub returns-clause-opens : goal.returns-clause-opens
returns-clause-opens c =
    let all : c.loop-before.before ≡ c.args.tables = omega arith in
    found c.args.short c.args.tables (places c.args.laid.now) c.loop-before.opened.items
    (subst (λ (n : ℕ). AreOpened c.args.short n (places c.args.laid.now) c.loop-before.opened.items) all c.loop-before.invariant.opened)
