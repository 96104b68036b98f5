-- What a call of the program tells: pieces in order, and then the line that it ends with.
use Rattle.std.specs.Prelude.{◌≡◌, ◌⊎◌, ℕ, ◌<◌, List, ◌++◌, length, take}
use Rattle.px_site.specs.State.{State, Moment, EachMoment}
use Rattle.px_site.specs.Cause.{Counts, Rose}
use Rattle.px_calls.specs.declared.status.Status.{Status}
use Rattle.px_calls.specs.declared.status.Status.TheVariants.{OutputFault}
use Rattle.px_calls.specs.Closing.{closing_line}
use Rattle.px_play.specs.Told.{joined, last_piece}

-- the files, and all that a crash may leave of them, are as before
pub record HasFilesOf (before m : Moment) : Type 0 where
  pub same : m.files ≡ before.files

-- nothing was done but to tell
pub record OnlyTells (old new : State) : Type 0 where
  pub content : new.content ≡ old.content
  pub files : new.now.files ≡ old.now.files
  pub moments : EachMoment (HasFilesOf old.now) old new

abbrev pub TellFailed : Counts → Counts → Type 0
TellFailed old new = Rose old.tell_faults new.tell_faults ⊎ Rose old.shorts new.shorts

-- what is told behind the whole pieces: at an output's fault the next piece, else the line that the status ends with
abbrev pub last_text : List (List ℕ) → ℕ → Status → List ℕ
last_text pieces whole OutputFault = last_piece pieces whole OutputFault
last_text pieces whole status = closing_line status

-- so many pieces were told whole, and then a front of the last text, all of it unless a tell failed
pub record TellsInAll (pieces : List (List ℕ)) (whole : ℕ) (status : Status) (old new : State) (counts counts_now : Counts) : Type 0 where
  pub front : ℕ
  pub text : new.now.told ≡ old.now.told ++ joined (take whole pieces) ++ take front (last_text pieces whole status)
  pub cut : front < length (last_text pieces whole status) → TellFailed counts counts_now
