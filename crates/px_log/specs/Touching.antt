-- What the calls of a log touch: no file but its own, and how often.
use Rattle.std.specs.Prelude.{◌≡◌, ⊤, ℕ, ◌*◌, ◌≤◌, false, List, ◌++◌, length}
use Rattle.px_site.specs.Names.{same_file}
use Rattle.px_site.specs.State.{EachMoment, Moment, OnFile, State, history}
use Rattle.px_site.specs.declared.name.FileName.{FileName}
use Rattle.px_xlog.specs.Contents.{the_log}

-- a moment in which every file but the log is as before, and in which nothing is told
abbrev pub LogAlone : (before now : Moment) → Type 0
LogAlone before now = OnFile the_log before (λ file. ⊤) now

-- at most so many changing calls were made since: each has two moments
pub record ChangesAtMost (calls : ℕ) (old new : State) : Type 0 where
  pub added : List Moment
  pub grown : history new ≡ added ++ history old
  pub few : length added ≤ 2 * calls

-- Nothing but the log was touched, in at most so many changing calls: at each moment the other files are as before and nothing is told,
-- and after them the others read as before.
pub record TouchesLog (calls : ℕ) (old new : State) : Type 0 where
  pub alone : EachMoment (LogAlone old.now) old new
  pub few : ChangesAtMost calls old new
  pub others : (name : FileName) → same_file the_log name ≡ false → new.content name ≡ old.content name
