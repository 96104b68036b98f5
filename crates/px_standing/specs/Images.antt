-- What a crash may leave of a store, where no torn record's sum matches by chance and no record comes back that
-- was cut away or overwritten before the last sync.
use Rattle.std.specs.Prelude.{◌≡◌, ℕ, false, List}
use Rattle.px_site.specs.declared.name.FileName.TheVariants.{Restart as RestartFile}
use Rattle.px_site.specs.declared.name.FileName.{FileName}
use Rattle.px_site.specs.Names.{same_file}
use Rattle.px_site.specs.Disk.{FileState, IsImage}
use Rattle.px_site.specs.State.{Moment}
use Rattle.px_model.specs.Machine.{Machine, commits}
use Rattle.px_restart.specs.declared.restart.Restart.{Restart}
use Rattle.px_restart.specs.Restart.{RestartAt, restart_text}
use Rattle.px_restart.specs.declared.text.TheConstants.{VERSION}
use Rattle.px_xlog.specs.Contents.{the_log}
use Rattle.px_xlog.specs.Written.{WasWritten, IsPlainLog}
use Rattle.px_standing.specs.Files.{Files, first_restart, second_restart}

-- a restart file that checks was written so
abbrev pub IsPlainRestart : FileState → List ℕ → Type 0
IsPlainRestart file image = (restart : Restart) → RestartAt image restart → WasWritten file 0 (restart_text VERSION restart)

-- what a crash at this moment may leave of the files
pub record IsPlainImage (m : Moment) (image : Files) : Type 0 where
  pub each : (name : FileName) → IsImage (m.files name) (image name)
  pub first : IsPlainRestart (m.files (RestartFile 0)) (first_restart image)
  pub second : IsPlainRestart (m.files (RestartFile 1)) (second_restart image)
  pub log : IsPlainLog (m.files the_log) (image the_log)

-- ---- while a machine works on the store

-- how many commits the machine has acknowledged: each that it made
abbrev pub acked : Machine → ℕ
acked m = commits m

-- no file but the log's is changed
abbrev pub LeavesOthers : Moment → Moment → Type 0
LeavesOthers before now = (name : FileName) → same_file the_log name ≡ false → now.files name ≡ before.files name
