use Rattle.std.proofs.Common.{◌≡◌, ℕ, length, ap, ◌∙◌, arith}
use Rattle.px_answers.proofs.Leaving.{stays_here, then_stays}
use Rattle.px_recovery.proofs.Counted.{all_tables, next_table, no_tables, rows_up_to}
use Rattle.px_held.proofs.Unlinked.{used_there}
use Rattle.px_recovery.proofs.counting.count_rows.Goals as goal

pub loop-before-init : goal.loop-before-init
loop-before-init g c = record {
  stays = stays_here g.W.Site.tells g.W.Site.state g.W.Site.counts c.args.site.now c.args.held.now;
  count = λ tells store rows serves has. no_tables rows;
}

pub loop-before-preserved : goal.loop-before-preserved
loop-before-preserved g c = record {
  stays = then_stays c.loop-before.invariant.stays c.count_keys.ensures.stays;
  count = λ tells store rows serves has.
      let before = c.loop-before.invariant.count tells store rows serves has in
      let more = c.in_ok-more.ensures.count tells store rows (c.loop-before.invariant.stays.keeps store serves) has in
      omega (arith, c.in-Some.ensures, before, more, next_table c.loop-before.before rows);
}

pub returns-clause-count : goal.returns-clause-count
returns-clause-count g c = λ tells store rows serves has tables.
    let all : c.loop-before.before ≡ c.args.tables = omega (arith, c.loop-before-test.false, c.loop-before.auto.before-end) in
    c.loop-before.invariant.count tells store rows serves has
    ∙ ap (λ (n : ℕ). length (rows_up_to n rows)) (all ∙ tables)
    ∙ all_tables c.args.held.now store rows has (λ t row used. used_there (g.W.Site.state c.args.site.now) c.args.held.now store t row serves used)
