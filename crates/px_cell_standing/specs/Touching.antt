-- What the calls of a run may touch.
use Rattle.std.specs.Prelude.{◌≡◌, ◌⊎◌, false}
use Rattle.px_site.specs.Disk.{at_rest}
use Rattle.px_site.specs.Names.{same_file}
use Rattle.px_site.specs.State.{Moment, State}
use Rattle.px_site.specs.declared.name.FileName.{FileName}
use Rattle.px_site.specs.declared.name.FileName.TheVariants.{Restart as RestartFile}
use Rattle.px_xlog.specs.Contents.{the_log}

-- the file is as it was, or its content is on the disk as it read
abbrev pub IsAsRead : FileName → State → Moment → Type 0
IsAsRead name before now = (now.files name ≡ before.now.files name) ⊎ (now.files name ≡ at_rest (before.content name))

-- No file but the log is changed: a restart file may be made durable as it reads, and every other file is as it was.
pub record TouchesOwn (before : State) (now : Moment) : Type 0 where
  pub first : IsAsRead (RestartFile 0) before now
  pub second : IsAsRead (RestartFile 1) before now
  pub others : (name : FileName) → same_file the_log name ≡ false → same_file (RestartFile 0) name ≡ false → same_file (RestartFile 1) name ≡ false
      → now.files name ≡ before.now.files name
