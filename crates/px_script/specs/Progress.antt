-- How far the reading of an input has come, and what a reader of lines answers.
use Rattle.std.specs.Prelude.{◌≡◌, ◌≢◌, ◌⊎◌, ℕ, ◌+◌, ◌^◌, ◌<◌, ◌≤◌, ◌==◌, Bool, true, false, List, [], ◌∷◌, ◌++◌, length, take, Result, Ok, Err}
use Rattle.std.specs.declared.alloc.AllocError.{AllocError}
use Rattle.px_source.specs.Source.{one_more}
use Rattle.px_script.specs.declared.lines.NextLine.{NextLine}
use Rattle.px_script.specs.declared.lines.NextLine.TheVariants.{Line, End, Fault, TooLong, LongLine}
use Rattle.px_script.specs.Grammar.{longest_line}
use Rattle.px_script.specs.Lines.{complete_lines, lines_at_end}
use Rattle.px_script.specs.Piece.{Appends}

-- the longest input in bytes that is read
abbrev pub longest_input : ℕ
longest_input = 2 ^ 30

-- how many bytes are read at once, at most
abbrev pub longest_piece : ℕ
longest_piece = 65536

-- `held` was read and isn't handed out, `line` was handed out last, `count` bytes were read in all, and `ended` tells that a read answered the end
pub record Progress : Type 0 where
  pub held : List ℕ
  pub line : List ℕ
  pub count : ℕ
  pub ended : Bool

abbrev pub nothing_read : Progress
nothing_read = record { held = []; line = []; count = 0; ended = false }

-- what isn't handed out of an input: the bytes that are held, and those that the source has left
abbrev pub ahead : Progress → List ℕ → List ℕ
ahead progress left = progress.held ++ left

-- a line that isn't complete and may still be one
pub record IsOpen (bytes : List ℕ) : Type 0 where
  pub incomplete : complete_lines bytes ≡ []
  pub short : length bytes ≤ longest_line

-- the first line of these has more bytes than a line may have
pub record IsOverlong (bytes : List ℕ) : Type 0 where
  pub incomplete : complete_lines (take (longest_line + 1) bytes) ≡ []
  pub long : longest_line < length bytes

-- no complete line waits, and the source is to be read
pub record IsReadable (progress : Progress) : Type 0 where
  pub open_line : IsOpen progress.held
  pub below : progress.count < longest_input
  pub going : progress.ended ≡ false

-- the cause of each answer
abbrev pub HasCause : Progress → NextLine → Type 0
HasCause progress Line = IsOpen progress.line
HasCause progress End = (progress.held ≡ []) × (progress.ended ≡ true)
HasCause progress Fault = IsReadable progress
HasCause progress TooLong = IsOpen progress.held × (progress.count ≡ longest_input) × (progress.ended ≡ false)
HasCause progress LongLine = IsOverlong progress.held

-- a line is taken from the front: up to its line feed, or all that is left where the input is at its end
abbrev pub TakesLine : (before now : List ℕ) → Progress → Type 0
TakesLine before now progress =
    (before ≡ progress.line ++ 10 ∷ now)
    ⊎ ((before ≡ progress.line) × (now ≡ []) × (progress.line ≢ []) × (progress.ended ≡ true))

-- what an answer takes of the input: nothing where it isn't a line
abbrev pub Moves : (before now : List ℕ) → Progress → NextLine → Type 0
Moves before now progress Line = TakesLine before now progress
Moves before now progress _ = now ≡ before

-- the same in the words of the whole input: a line is its first one, and at the end it has none
abbrev pub IsInOrder : (before now : List ℕ) → Progress → NextLine → Type 0
IsInOrder before now progress Line = lines_at_end before ≡ progress.line ∷ lines_at_end now
IsInOrder before now progress End = lines_at_end before ≡ []
IsInOrder before now progress _ = lines_at_end now ≡ lines_at_end before

-- in which bytes an answer was found: those that weren't handed out, and a line's own among them
abbrev pub IsFoundIn : List ℕ → Progress → Result NextLine AllocError → Type 0
IsFoundIn bytes progress (Ok next) = Moves bytes progress.held progress next
IsFoundIn bytes progress (Err _) = progress.held ≡ bytes

-- the source was read no further than for this answer: before the last piece came, no line was complete, nor too long for one
pub record ReadsNoFurther (progress : Progress) (result : Result NextLine AllocError) : Type 0 where
  pub before : List ℕ
  pub piece : List ℕ
  pub unfinished : IsOpen before
  pub small : length piece ≤ longest_piece
  pub found : IsFoundIn (before ++ piece) progress result

-- the count of failed reads after an answer: a read that failed is answered, and so it is the last one
abbrev pub faults_by : Result NextLine AllocError → ℕ → ℕ
faults_by (Ok Fault) faults = one_more faults
faults_by _ faults = faults

-- all but the line handed out last is as it was
pub record Keeps (old new : Progress) : Type 0 where
  pub held : new.held ≡ old.held
  pub count : new.count ≡ old.count
  pub ended : new.ended ≡ old.ended

-- one read added a piece, none at the end of the input alone
pub record AddsPiece (tells : Type 0) (old new : Progress) (left left_now : List ℕ) : Type 0 where
  pub room : ℕ
  pub added : ℕ
  pub piece : Appends tells old.held new.held left left_now room added
  pub small : room ≤ longest_piece
  pub within : old.count + room ≤ longest_input
  pub count : new.count ≡ old.count + added
  pub ended : new.ended ≡ (added == 0)
