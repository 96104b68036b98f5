use Rattle.std.proofs.Common.{◌≡◌, List, length}
use Rattle.px_answers.specs.Reading.{Stays, rows_to}
use Rattle.px_held.specs.Serving.{Serves}
use Rattle.px_history.specs.Store.{Store}
use Rattle.px_model.specs.declared.row.Row.{Row}
use Rattle.px_recovery.specs.Counting.{HasRows}
use Rattle.px_recovery.proofs.counting.count_keys.Given as goal

-- the keys up to the last one were counted
abbrev pub invariant-loop-count : goal.invariant-loop-count
invariant-loop-count g l = record {
  stays : Stays g.W.Site.tells g.W.Site.state g.W.Site.counts l.initial.site l.site l.initial.held l.held;
  count : g.W.Site.tells → (store : Store) (rows : List Row) → Serves (g.W.Site.state l.initial.site) l.initial.held store → HasRows store rows
      → l.count ≡ length (rows_to l.table l.last rows);
}
