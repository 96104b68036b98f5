-- Stopped at any moment, the files have the rows after a prefix of the commits that holds each acknowledged one, and at
-- most one more.
use Rattle.std.specs.Prelude.{◌≡◌, ℕ, ◌+◌, ◌-◌, ◌^◌, ◌≤◌, List, [], ◌∷◌, ◌++◌, length, take, drop, codes, nat_eq, Option, None, unwrap_or, if◌then◌else◌}
use Rattle.std.specs.List.{starts_with}
use Rattle.px_site.specs.State.{Moment}
use Rattle.px_model.specs.Machine.{Machine, commits, published}
use Rattle.px_script.specs.Lines.{complete_lines, open_line}
use Rattle.px_script.specs.Words.{number_of}
use Rattle.px_cell_standing.specs.Standing.{StandsFor}
use Rattle.px_standing.specs.Files.{Files}
use Rattle.px_standing.specs.Images.{IsPlainImage}

-- the number in a line `committed n`
abbrev pub committed_in : List ℕ → Option ℕ
committed_in line = if starts_with nat_eq line (codes "committed ") then number_of (2 ^ 64 - 1) (drop 10 line) else None

-- the number in the last of the lines that has one, else this
abbrev pub last_committed_in : ℕ → List (List ℕ) → ℕ
last_committed_in last [] = last
last_committed_in last (line ∷ lines) = last_committed_in (unwrap_or (committed_in line) last) lines

-- the commit that was acknowledged last, where it was this one before
unfoldable pub acknowledged : ℕ → List ℕ → ℕ
acknowledged before told = last_committed_in before (complete_lines told)

-- nothing is told behind its last line feed
abbrev pub TellsWhole : List ℕ → Type 0
TellsWhole told = open_line told ≡ []

-- what may have gone out by this moment: all that was told, and a front of what is being told
pub record IsOut (m : Moment) (out : List ℕ) : Type 0 where
  pub front : ℕ
  pub text : out ≡ m.told ++ take front m.telling

-- the files have each acknowledged commit and at most one more, and the rows after so many
pub record HoldsAcknowledged (m : Machine) (told : List ℕ) (files : Files) : Type 0 where
  pub count : ℕ
  pub no_less : acknowledged m.before told ≤ count
  pub one_ahead : count ≤ acknowledged m.before told + 1
  pub made : count ≤ commits m
  pub stands : StandsFor files count (published m (count - m.before))

-- whatever a crash at this moment leaves, with what was told by then since a run's begin
pub record KeepsAcknowledged (m : Machine) (before : List ℕ) (now : Moment) : Type 0 where
  pub each : (image : Files) (out : List ℕ) → IsPlainImage now image → IsOut now out → HoldsAcknowledged m (drop (length before) out) image
  pub told_later : (told : List ℕ) × (now.told ≡ before ++ told)
