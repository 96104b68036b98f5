-- A site is opened by the restart that counts there.
use Rattle.std.proofs.Common.{ℕ, List}
use Rattle.px_model.specs.declared.row.Row.{Row}
use Rattle.px_restart.specs.Restart.{IsPicked}
use Rattle.px_restart.specs.declared.restart.Restart.{Restart}
use Rattle.px_site.specs.State.{State}
use Rattle.px_standing.specs.Files.{first_restart, second_restart}
use Rattle.px_standing.specs.Resting.{RestartsRest}
use Rattle.px_cell_opening.specs.Opened.{MayOpen}
use Rattle.px_cell_standing.specs.Settled.{IsAlone}
use Rattle.px_cell_standing.specs.Standing.{StandsFor}

pub may_open : (s : State) (commits : ℕ) (rows : List Row) (restart : Restart) → IsAlone s → StandsFor s.content commits rows → RestartsRest s.now s.content
    → IsPicked (first_restart s.content) (second_restart s.content) restart → MayOpen restart commits rows s
may_open s commits rows restart alone stands rests picked = record {
  valid = record { first = first_restart s.content; second = second_restart s.content; first_rests = rests.first; second_rests = rests.second; picked = picked };
  alone = alone;
  stands = stands;
}
