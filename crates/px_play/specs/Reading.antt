-- How far a script was read, and what may come next.
use Rattle.std.specs.Prelude.{◌≡◌, ◌⊎◌, ⊤, ℕ, ◌+◌, ◌<◌, ◌≤◌, true, List, [], ◌++◌, length, Some, None, slice_get}
use Rattle.px_site.specs.declared.error.Fault.{Fault}
use Rattle.px_site.specs.declared.name.FileName.{FileName}
use Rattle.px_source.specs.Source.{Rose}
use Rattle.px_engine.specs.Requests.{Request}
use Rattle.px_calls.specs.declared.status.Status.{Status}
use Rattle.px_calls.specs.declared.status.Status.TheVariants.{Done, BadLine, SourceFault, OutOfMemory, TooLong, Damaged, DiskFault, OutputFault, LogFull}
use Rattle.px_script.specs.Grammar.{command_line}
use Rattle.px_script.specs.Lines.{complete_lines, open_line, lines_at_end}
use Rattle.px_script.specs.Progress.{Progress, ahead, longest_input, longest_piece}
use Rattle.px_play.specs.Input.{AreCommands, EndsAt, TakesLittle, script_of}

-- the last line was handed out, and had no line feed
pub record IsOver (progress : Progress) (left : List ℕ) : Type 0 where
  pub nothing_ahead : ahead progress left ≡ []
  pub ended : progress.ended ≡ true

-- so many lines were handed out, each a command
pub record IsRead (input : List ℕ) (progress : Progress) (left : List ℕ) (lines : ℕ) : Type 0 where
  pub handed : List ℕ
  pub in_order : input ≡ handed ++ ahead progress left
  pub count : length (lines_at_end handed) ≡ lines
  pub commands : AreCommands (lines_at_end handed)
  pub cut : (open_line handed ≡ []) ⊎ IsOver progress left
  pub long : lines ≤ length handed
  pub counted : progress.count + length left ≡ length input
  pub within : progress.count ≤ longest_input
  pub behind : length progress.held ≤ longest_piece
  pub at_end : progress.ended ≡ true → left ≡ []
  pub below : progress.ended ≡ true → progress.count < longest_input

-- how many lines are answered where a run ends with this status
abbrev pub CountsLines : (taken : List ℕ) → (lines : ℕ) → Status → Type 0
CountsLines taken lines Done = lines ≡ length (lines_at_end taken)
CountsLines taken lines (BadLine k) = lines + 1 ≡ k
CountsLines taken lines SourceFault = lines ≡ length (complete_lines taken)
CountsLines taken lines TooLong = lines ≡ length (complete_lines taken)
CountsLines taken lines _ = Unit {0}

-- after so many answered lines a run may end with this status, for all that concerns the input
pub record MayEnd (input left : List ℕ) (lines : ℕ) (status : Status) : Type 0 where
  pub taken : List ℕ
  pub in_order : input ≡ taken ++ left
  pub within : length taken ≤ longest_input
  pub fits : EndsAt taken left status
  pub read_before : lines ≤ length (lines_at_end taken)
  pub counts : CountsLines taken lines status
  pub little : TakesLittle input left lines

-- a line was handed out, and is to be answered
pub record IsAsked (input : List ℕ) (progress : Progress) (left : List ℕ) (lines : ℕ) : Type 0 where
  pub command : (request : Request) → command_line progress.line ≡ Some request → (slice_get (script_of input) lines ≡ Some request) × IsRead input progress left (lines + 1)
  pub bad : command_line progress.line ≡ None → MayEnd input left lines (BadLine (lines + 1))
  pub damage : (file : FileName) (place : ℕ) → MayEnd input left lines (Damaged file place)
  pub disk : (fault : Fault) → MayEnd input left lines (DiskFault fault)
  pub output : MayEnd input left lines OutputFault
  pub memory : MayEnd input left lines OutOfMemory
  pub full : (n : ℕ) → MayEnd input left lines (LogFull n)

-- why no line was handed out, by how many reads of the source failed
abbrev pub HasReadEnd : (faults faults_now : ℕ) → Status → Type 0
HasReadEnd faults faults_now Done = ⊤
HasReadEnd faults faults_now (BadLine k) = ⊤
HasReadEnd faults faults_now SourceFault = Rose faults faults_now
HasReadEnd faults faults_now OutOfMemory = ⊤
HasReadEnd faults faults_now TooLong = ⊤
HasReadEnd faults faults_now _ = ⊥
