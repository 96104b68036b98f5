-- What an opening touches: the log and the two restart files, and how often.
use Rattle.std.specs.Prelude.{◌≡◌, ◌⊎◌, ℕ, ◌+◌, false, List}
use Rattle.px_log.specs.Touching.{ChangesAtMost}
use Rattle.px_model.specs.declared.row.Row.{Row}
use Rattle.px_restart.specs.Restart.{IsPicked}
use Rattle.px_restart.specs.declared.restart.Restart.{Restart}
use Rattle.px_site.specs.Names.{same_file}
use Rattle.px_site.specs.State.{EachMoment, Moment, State}
use Rattle.px_site.specs.declared.name.FileName.{FileName}
use Rattle.px_standing.specs.Files.{Files, first_restart, second_restart}
use Rattle.px_standing.specs.Images.{IsPlainImage}
use Rattle.px_xlog.specs.Contents.{the_log}
use Rattle.px_cell_standing.specs.Settled.{IsAtRest, Settled}
use Rattle.px_cell_standing.specs.Touching.{TouchesOwn}
use Rattle.px_cell_opening.specs.Opened.{Unlinks}

-- so many versions of the store in these files are unlinked
pub record UnlinksIn (files : Files) (count : ℕ) : Type 0 where
  pub restart : Restart
  pub picked : IsPicked (first_restart files) (second_restart files) restart
  pub unlinks : Unlinks restart (files the_log) count

-- At each moment every file but the log is as it was, and a restart file may be durable as it read. Afterwards every file but the log reads
-- as before. Two calls sync the restart files, two cut what is torn behind the log, and there is one for each version that was to be
-- unlinked, and a sync. Where it didn't come so far, no version was.
pub record TouchesOwnFiles (old new : State) : Type 0 where
  pub count : ℕ
  pub unlinked : (count ≡ 0) ⊎ UnlinksIn old.content count
  pub own : EachMoment (TouchesOwn old) old new
  pub few : ChangesAtMost (5 + count) old new
  pub others : (name : FileName) → same_file the_log name ≡ false → new.content name ≡ old.content name

-- whatever a crash then leaves is settled for these commits and rows, once the machine is up again: so it may be opened again
pub record SettlesLater (commits : ℕ) (rows : List Row) (now : Moment) : Type 0 where
  pub each : (image : Files) (later : State) → IsPlainImage now image → IsAtRest image later → Settled later commits rows
