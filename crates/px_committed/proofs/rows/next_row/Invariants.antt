use Rattle.std.proofs.Common.{◌≡◌, ◌<◌, ◌≤◌, None, true}
use Rattle.std.specs.Option.{option_copied}
use Rattle.px_answers.specs.Reading.{Stays}
use Rattle.px_answers.specs.Seeing.{Sees}
use Rattle.px_history.specs.Store.{Store}
use Rattle.px_locks.specs.Holders.{Holders}
use Rattle.px_logged.specs.Recounting.{rows_now}
use Rattle.px_model.specs.Machine.{Machine}
use Rattle.px_model.specs.Rows.{Key, row_at}
use Rattle.px_committed.proofs.Firsts.{is_past_key}
use Rattle.px_committed.specs.Walking.{first_table}
use Rattle.px_committed.proofs.rows.next_row.Given as goal

abbrev pub invariant-loop-table : goal.invariant-loop-table
invariant-loop-table g l = record {
  stays : Stays g.W.Site.tells g.W.Site.state g.W.Site.counts l.initial.site l.site l.initial.held l.held;
  begun : first_table (option_copied l.after) ≤ l.table;
  none : g.W.Site.tells → (holders : Holders) (m : Machine) (store : Store) → Sees (g.W.Site.state l.initial.site) l.initial.held l.xacts holders m store
      → (key : Key) → is_past_key (option_copied l.after) key ≡ true → key.0 < l.table → row_at key (rows_now m) ≡ None;
}
