use Rattle.std.proofs.Common.{◌≡◌, List, length}
use Rattle.px_answers.specs.Reading.{Stays}
use Rattle.px_held.specs.Serving.{Serves}
use Rattle.px_history.specs.Store.{Store}
use Rattle.px_model.specs.declared.row.Row.{Row}
use Rattle.px_recovery.specs.Counting.{HasRows}
use Rattle.px_recovery.proofs.Counted.{rows_up_to}
use Rattle.px_recovery.proofs.counting.count_rows.Given as goal

-- the rows of the tables 1 to `before` were counted
abbrev pub invariant-loop-before : goal.invariant-loop-before
invariant-loop-before g l = record {
  stays : Stays g.W.Site.tells g.W.Site.state g.W.Site.counts l.fn.site l.site l.fn.held l.held;
  count : g.W.Site.tells → (store : Store) (rows : List Row) → Serves (g.W.Site.state l.fn.site) l.fn.held store → HasRows store rows
      → l.count ≡ length (rows_up_to l.before rows);
}
