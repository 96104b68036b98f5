use Rattle.std.proofs.Common.{◌≡◌}
use Rattle.px_held.specs.Serving.{Serves}
use Rattle.px_held_tests.specs.declared.making.TheConstants.{SHORT}
use Rattle.px_history.specs.Store.{Store}
use Rattle.px_site.specs.State.{State}
use Rattle.px_held_tests.proofs.making.held.Given as goal

abbrev pub invariant-loop-key : goal.invariant-loop-key
invariant-loop-key l = record {
  short : l.held.short ≡ SHORT;
  serves : (site : State) → (store : Store) × Serves site l.held store;
}
