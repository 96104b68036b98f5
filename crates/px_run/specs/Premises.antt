-- Where a call of the program is bound to succeed, want of memory aside.
use Rattle.std.specs.Prelude.{◌≡◌, ◌<◌, ◌≤◌, ℕ, List, [], length}
use Rattle.px_site.specs.declared.error.Fault.{Fault}
use Rattle.px_site.specs.declared.name.FileName.{FileName}
use Rattle.px_site.specs.Cause.{Counts, Rose}
use Rattle.px_calls.specs.declared.status.Status.{Status}
use Rattle.px_calls.specs.declared.status.Status.TheVariants.{Done, OutOfMemory}
use Rattle.px_script.specs.Lines.{lines_at_end}
use Rattle.px_script.specs.Progress.{longest_input}
use Rattle.px_log.specs.Log.{most_frames}
use Rattle.px_cell_standing.specs.Found.{Found}
use Rattle.px_engine.specs.Requests.{after_requests}
use Rattle.px_standing.specs.Files.{Files}
use Rattle.px_play.specs.Input.{AreCommands, script_of}
use Rattle.px_run.specs.Running.{engine_of}

-- no call of the site failed
pub record NoneRose (old new : Counts) : Type 0 where
  pub faults : (fault : Fault) → Rose (old.faults fault) (new.faults fault) → ⊥
  pub tell_faults : Rose old.tell_faults new.tell_faults → ⊥
  pub shorts : Rose old.shorts new.shorts → ⊥

abbrev pub IsDoneOrShort : Status → Type 0
IsDoneOrShort Done = Unit {0}
IsDoneOrShort OutOfMemory = Unit {0}
IsDoneOrShort _ = ⊥

-- no file has a byte
abbrev pub IsEmpty : Files → Type 0
IsEmpty files = (name : FileName) → files name ≡ []

-- the log takes each frame of an opening
abbrev pub HasRoom : Found → Type 0
HasRoom found = found.frames ≤ most_frames

-- an input that `run` can answer whole
pub record CanRun (found : Found) (input : List ℕ) : Type 0 where
  pub commands : AreCommands (lines_at_end input)
  pub below : length input < longest_input
  pub numbers : (after_requests (engine_of found) (script_of input)).frames ≤ most_frames
