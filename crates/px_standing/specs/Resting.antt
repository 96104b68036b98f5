-- What reads return, and restart files that are on the disk.
use Rattle.std.specs.Prelude.{◌≡◌}
use Rattle.px_site.specs.declared.name.FileName.{FileName}
use Rattle.px_site.specs.declared.name.FileName.TheVariants.{Restart as RestartFile}
use Rattle.px_site.specs.Disk.{IsImage, at_rest}
use Rattle.px_site.specs.State.{Moment, State}
use Rattle.px_standing.specs.Files.{Files, first_restart, second_restart}

-- both restart files are on the disk as they read
pub record RestartsRest (m : Moment) (files : Files) : Type 0 where
  pub first : m.files (RestartFile 0) ≡ at_rest (first_restart files)
  pub second : m.files (RestartFile 1) ≡ at_rest (second_restart files)

-- what a read returns is what a crash may leave, as each site promises
abbrev pub ReadsImages : State → Type 0
ReadsImages s = (name : FileName) → IsImage (s.now.files name) (s.content name)
