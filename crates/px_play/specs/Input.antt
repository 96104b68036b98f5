-- How the input was read where a run ends.
use Rattle.std.specs.Prelude.{◌≡◌, ◌⊎◌, ℕ, ◌+◌, ◌<◌, ◌≤◌, List, [], ◌++◌, length}
use Rattle.px_engine.specs.Requests.{Request}
use Rattle.px_calls.specs.declared.status.Status.{Status}
use Rattle.px_calls.specs.declared.status.Status.TheVariants.{Done, BadLine, SourceFault, TooLong}
use Rattle.px_script.specs.Grammar.{requests_of, longest_line}
use Rattle.px_script.specs.Lines.{complete_lines, open_line, lines_at_end}
use Rattle.px_script.specs.Progress.{longest_input, longest_piece}

-- what the lines of an input ask for, up to the first one that is no command
unfoldable pub script_of : List ℕ → List Request
script_of input = requests_of (lines_at_end input)

abbrev pub AreCommands : List (List ℕ) → Type 0
AreCommands lines = length (requests_of lines) ≡ length lines

-- line k, from 1, is the first that is no command
pub record IsFirstBad (lines : List (List ℕ)) (k : ℕ) : Type 0 where
  pub there : length (requests_of lines) < length lines
  pub number : k ≡ length (requests_of lines) + 1

-- the end of the input was answered
pub record IsAtEnd (taken left : List ℕ) : Type 0 where
  pub nothing_left : left ≡ []
  pub below : length taken < longest_input

-- all that was taken is commands, but for a last line that isn't complete and not too long
pub record IsBetween (taken : List ℕ) : Type 0 where
  pub commands : AreCommands (complete_lines taken)
  pub short_enough : length (open_line taken) ≤ longest_line

-- a line is read whose bytes are more than a line may have
pub record IsOverlong (taken : List ℕ) (k : ℕ) : Type 0 where
  pub commands : AreCommands (complete_lines taken)
  pub too_long : longest_line < length (open_line taken)
  pub number : k ≡ length (complete_lines taken) + 1

abbrev pub EndsAt : (taken left : List ℕ) → Status → Type 0
EndsAt taken left Done = IsAtEnd taken left × AreCommands (lines_at_end taken)
EndsAt taken left (BadLine k) =
    IsFirstBad (complete_lines taken) k ⊎ (IsOverlong taken k ⊎ (IsAtEnd taken left × IsFirstBad (lines_at_end taken) k))
EndsAt taken left TooLong = (length taken ≡ longest_input) × IsBetween taken
EndsAt taken left SourceFault = (length taken < longest_input) × IsBetween taken
EndsAt taken left _ = Unit {0}

-- what was taken of the input, and how that fits the status
pub record EndsInput (before left : List ℕ) (status : Status) : Type 0 where
  pub taken : List ℕ
  pub in_order : before ≡ taken ++ left
  pub within : length taken ≤ longest_input
  pub fits : EndsAt taken left status

-- so many lines were answered; of what stands behind them one line, its line feed and one piece were taken, at most
pub record TakesLittle (before left : List ℕ) (lines : ℕ) : Type 0 where
  pub answered : List ℕ
  pub beyond : List ℕ
  pub in_order : before ≡ answered ++ beyond ++ left
  pub count : length (lines_at_end answered) ≡ lines
  pub little : length beyond ≤ longest_line + 1 + longest_piece
