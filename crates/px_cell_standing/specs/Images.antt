-- What all that a crash may leave of a store stands for: at one moment, while a machine works on the store, and while it is made.
use Rattle.std.specs.Prelude.{◌≡◌, ◌⊎◌, ℕ, false, List, []}
use Rattle.px_logged.specs.Recounting.{rows_now}
use Rattle.px_model.specs.Machine.{Machine, commits}
use Rattle.px_model.specs.declared.row.Row.{Row}
use Rattle.px_shown.specs.Parts.{no_parts}
use Rattle.px_site.specs.Disk.{at_rest}
use Rattle.px_site.specs.Names.{same_file}
use Rattle.px_site.specs.State.{Moment, State}
use Rattle.px_site.specs.declared.name.FileName.{FileName}
use Rattle.px_site.specs.declared.name.FileName.TheVariants.{Restart as RestartFile}
use Rattle.px_standing.specs.Images.{IsPlainImage, LeavesOthers}
use Rattle.px_standing.specs.Files.{Files, HasNoRestart}
use Rattle.px_working.specs.Lasts as working
use Rattle.px_cell_standing.specs.Standing.{StandsFor}

-- whatever a crash at this moment leaves stands for these commits and rows
pub record ImagesStandFor (commits : ℕ) (rows : List Row) (m : Moment) : Type 0 where
  pub each : (image : Files) → IsPlainImage m image → StandsFor image commits rows

-- the same, and nothing is told meanwhile
pub record KeepsStanding (commits : ℕ) (rows : List Row) (before m : Moment) : Type 0 where
  pub images : ImagesStandFor commits rows m
  pub told : m.told ≡ before.told
  pub telling : m.telling ≡ []

-- ---- while a machine works on the store

-- the files stand for all that the machine has committed
abbrev pub HasCommitted : Machine → Files → Type 0
HasCommitted m image = StandsFor image (commits m) (rows_now m)

-- the files stand for what the machine published by a commit from `least` to `most`
abbrev pub HasBetween : (least most : ℕ) → Machine → Files → Type 0
HasBetween least most m image = working.HasBetween no_parts least most m image

-- whatever a crash at this moment leaves stands for what the machine published by such a commit, and nothing is told meanwhile
pub record StandsBetween (least most : ℕ) (m : Machine) (before now : Moment) : Type 0 where
  pub each : (image : Files) → IsPlainImage now image → HasBetween least most m image
  pub told : now.told ≡ before.told
  pub telling : now.telling ≡ []

-- a moment within a session's call
pub record IsWithin (least most : ℕ) (m : Machine) (before now : Moment) : Type 0 where
  pub stands : StandsBetween least most m before now
  pub others : LeavesOthers before now

-- ---- while a store is made

-- whatever a crash at this moment leaves has no restart, or stands for no commits and no rows
pub record ImagesAreNew (m : Moment) : Type 0 where
  pub each : (image : Files) → IsPlainImage m image → HasNoRestart image ⊎ StandsFor image 0 []

-- a store may be made here: only the first restart file has unsynced changes, and no crash leaves a store with a commit
pub record CanMake (s : State) : Type 0 where
  pub others : (name : FileName) → same_file (RestartFile 0) name ≡ false → s.now.files name ≡ at_rest (s.content name)
  pub images : ImagesAreNew s.now
