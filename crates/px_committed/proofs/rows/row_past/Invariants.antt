use Rattle.std.proofs.Common.{option_map}
use Rattle.px_answers.specs.Reading.{Stays}
use Rattle.px_answers.specs.Seeing.{Sees}
use Rattle.px_history.specs.Store.{Store}
use Rattle.px_locks.specs.Holders.{Holders}
use Rattle.px_logged.specs.Recounting.{rows_now}
use Rattle.px_model.specs.Machine.{Machine}
use Rattle.px_committed.specs.Walking.{HasCome, last_passed}
use Rattle.px_committed.proofs.rows.row_past.Given as goal

abbrev pub invariant-loop-key : goal.invariant-loop-key
invariant-loop-key g l =
    let after = option_map (λ key. key.now) l.after in
    record {
      stays : Stays g.W.Site.tells g.W.Site.state g.W.Site.counts l.initial.site l.site l.initial.held l.held;
      come : g.W.Site.tells → (holders : Holders) (m : Machine) (store : Store) → Sees (g.W.Site.state l.initial.site) l.initial.held l.xacts holders m store
          → HasCome (rows_now m) l.table after (last_passed after l.passed);
    }
