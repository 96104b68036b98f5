use Rattle.std.proofs.Common.{rules, ◌≡◌, ◌<◌, ◌+◌, ℕ, List, Option, sym, subst, arith}
use Rattle.std.specs.Option.{option_copied}
use Rattle.px_logged.specs.Recounting.{rows_now}
use Rattle.px_held.specs.Errors.{HasReadCause, IsPassing}
use Rattle.px_answers.proofs.Leaving.{if_err, reads_behind, sees_still, stays_here, then_stays}
use Rattle.px_committed.specs.Walking.{IsFirstIn, first_table, key_in}
use Rattle.px_committed.proofs.Firsts.{HasNoneBelow, first_found, none_to, some_first}
use Rattle.px_committed.proofs.Now.{none_below_first, none_of_all, rows_are_in_order}
use Rattle.px_committed.proofs.rows.next_row.Goals as goal
use Rattle.px_committed.proofs.rows.next_row.Goals.{else-loop-table-test, then-loop-table-test+in_ok-row+in_default+else-table-tables}

pub loop-table-init : goal.loop-table-init
loop-table-init g c = record {
  stays = stays_here g.W.Site.tells g.W.Site.state g.W.Site.counts c.args.site.now c.args.held.now;
  begun = let same : c.first_table-table.result ≡ first_table (option_copied c.args.after) = c.first_table-table.ensures in omega (arith, same);
  none = λ tells holders m store sees. subst (HasNoneBelow (rows_now m) (option_copied c.args.after)) (sym c.first_table-table.ensures) (none_below_first (option_copied c.args.after) sees);
}

pub returns-in_err-row-clause-reads : goal.returns-in_err-row-clause-reads
returns-in_err-row-clause-reads g c =
    reads_behind c.from_residual.result c.loop-table.invariant.stays c.row_past.ensures.reads.stays
    (if_err (HasReadCause (g.W.Site.counts c.loop-table.site) (g.W.Site.counts c.row_past.new.site)) c.from_residual.result c.in_err-row.field-0.0 c.from_residual.ensures.1
    c.in_err-row.ensures.reads.cause.fault)
    (λ tells short store serves still are. if_err IsPassing c.from_residual.result c.in_err-row.field-0.0 c.from_residual.ensures.1
    (c.in_err-row.ensures.reads.cause.sound tells short store still are))

pub returns-in-Some-clause-row : goal.returns-in-Some-clause-row
returns-in-Some-clause-row g c = λ tells count holders m store sees.
    let after = option_copied c.args.after in
    let first = subst (λ (k : Option (List ℕ)). IsFirstIn (rows_now m) c.loop-table.table k c.in_ok-row.field-0) c.key_in.ensures
    (c.in_ok-row.ensures.row tells holders m store (sees_still tells c.loop-table.invariant.stays sees)) in
    sym (some_first after (rows_now m) c.in-Some.row (rows_are_in_order sees)
    (first_found (rows_now m) after c.loop-table.table c.in-Some.row c.loop-table.invariant.begun (c.loop-table.invariant.none tells holders m store sees)
    (subst (IsFirstIn (rows_now m) c.loop-table.table (key_in after c.loop-table.table)) c.in-Some.is first)))

pub loop-table-preserved : goal.loop-table-preserved
loop-table-preserved g c = record {
  stays = then_stays c.loop-table.invariant.stays c.row_past.ensures.reads.stays;
  begun = let from = c.loop-table.invariant.begun in omega (arith, from);
  none = λ tells holders m store sees.
      let after = option_copied c.args.after in
      let first = subst (λ (k : Option (List ℕ)). IsFirstIn (rows_now m) c.loop-table.table k c.in_ok-row.field-0) c.key_in.ensures
      (c.in_ok-row.ensures.row tells holders m store (sees_still tells c.loop-table.invariant.stays sees)) in
      none_to (rows_now m) after c.loop-table.table (c.loop-table.invariant.none tells holders m store sees)
      (subst (IsFirstIn (rows_now m) c.loop-table.table (key_in after c.loop-table.table)) c.in_default.is first);
}

pub returns-clause-row : goal.returns-clause-row
returns-clause-row g c = λ tells count holders m store sees.
    let after = option_copied c.args.after in
    let below = c.loop-table.invariant.none tells holders m store sees in
    elim c.loop-table-test.branch [
      | else-loop-table-test w ↦
          let past : c.args.tables < c.loop-table.table = w.loop-table-test.false in
          sym (none_of_all after c.loop-table.table sees (omega (arith, count, past)) below)
      | then-loop-table-test+in_ok-row+in_default+else-table-tables w ↦
          let first = subst (λ (k : Option (List ℕ)). IsFirstIn (rows_now m) c.loop-table.table k w.in_ok-row.field-0) w.key_in.ensures
          (w.in_ok-row.ensures.row tells holders m store (sees_still tells c.loop-table.invariant.stays sees)) in
          sym (none_of_all after (c.loop-table.table + 1) sees (search rules)
          (none_to (rows_now m) after c.loop-table.table below (subst (IsFirstIn (rows_now m) c.loop-table.table (key_in after c.loop-table.table)) w.in_default.is first)))
    ]
