-- What the playing of a script tells and leaves, by a core that is an engine, with an input that tells its bytes.
use Rattle.std.specs.Prelude.{◌≡◌, ◌≢◌, ◌⊎◌, ℕ, ◌+◌, ◌<◌, ◌≤◌, List, ◌++◌, length, take, Some, slice_get}
use Rattle.px_site.specs.State.{State}
use Rattle.px_site.specs.Cause.{Counts, Rose}
use Rattle.px_calls.specs.declared.call.Call.TheVariants.{Commit}
use Rattle.px_calls.specs.declared.status.Status.{Status}
use Rattle.px_calls.specs.declared.status.Status.TheVariants.{Done, Usage, BadLine, NoStore, NotEmpty, Damaged, DiskFault, SourceFault, OutputFault, OutOfMemory, LogFull, TooLong}
use Rattle.px_calls.specs.Histories.{Step, by}
use Rattle.px_engine.specs.Engine.{Engine}
use Rattle.px_engine.specs.Frames.{step_frames}
use Rattle.px_engine.specs.Requests.{Request, Ask, after_requests, answer_texts}
use Rattle.px_script.specs.Lines.{complete_lines, lines_at_end}
use Rattle.px_log.specs.Log.{most_frames}
use Rattle.px_core.specs.declared.state.Kept.{Kept}
use Rattle.px_play.specs.Engine.{IsEngine}
use Rattle.px_play.specs.Input.{TakesLittle, script_of}
use Rattle.px_play.specs.Told.{IsTold}

-- the text of each answer
unfoldable pub pieces_of : Engine → List Request → List (List ℕ)
pieces_of e requests = answer_texts e requests

-- the request behind the answered ones is a step that was to write a frame for which the log has no number
pub record StopsFull (e : Engine) (script : List Request) (answered n : ℕ) : Type 0 where
  pub step : Step
  pub there : slice_get script answered ≡ Some (Ask step)
  pub writes : step_frames (after_requests e (take answered script)).machine step ≢ 0
  pub number : n ≡ (after_requests e (take answered script)).frames
  pub none_left : most_frames ≤ n

-- how many answers were told whole, by the status
abbrev pub StopsAfter : Engine → (script : List Request) → (taken : List ℕ) → (whole : ℕ) → Status → Type 0
StopsAfter e script taken whole Done = whole ≡ length (lines_at_end taken)
StopsAfter e script taken whole Usage = ⊥
StopsAfter e script taken whole (BadLine k) = whole + 1 ≡ k
StopsAfter e script taken whole NoStore = ⊥
StopsAfter e script taken whole NotEmpty = ⊥
StopsAfter e script taken whole (Damaged file place) = ⊥
StopsAfter e script taken whole (DiskFault fault) = whole < length script
StopsAfter e script taken whole SourceFault = whole ≡ length (complete_lines taken)
StopsAfter e script taken whole OutputFault = whole < length script
StopsAfter e script taken whole OutOfMemory = whole ≤ length script
StopsAfter e script taken whole (LogFull n) = StopsFull e script whole n
StopsAfter e script taken whole TooLong = whole ≡ length (complete_lines taken)

-- no frame was written that has no number
abbrev pub AreNumbered : Engine → List Request → Type 0
AreNumbered e requests = ((after_requests e requests).frames ≡ e.frames) ⊎ ((after_requests e requests).frames ≤ most_frames)

-- how many requests were answered where so many answers were told whole: at an output's fault one more
abbrev pub answers_made : Status → (whole : ℕ) → ℕ
answers_made OutputFault whole = whole + 1
answers_made status whole = whole

-- the statuses by which no call failed that changes the site
abbrev pub UnlessBroken : Status → Type 0 → Type 0
UnlessBroken Done P = P
UnlessBroken (BadLine k) P = P
UnlessBroken TooLong P = P
UnlessBroken SourceFault P = P
UnlessBroken OutputFault P = P
UnlessBroken (LogFull n) P = P
UnlessBroken _ P = Unit {0}

-- the request behind the answered ones is a commit, in which the site wanted memory
pub record StopsShort (script : List Request) (answered : ℕ) (before now : Counts) : Type 0 where
  pub session : ℕ
  pub there : slice_get script answered ≡ Some (Ask (by session Commit))
  pub rose : Rose before.shorts now.shorts

abbrev pub OnShort : Status → Type 0 → Type 0
OnShort OutOfMemory P = P
OnShort _ P = Unit {0}

-- where memory was wanted, all is as after the answered requests, or as after one more, but for a commit in which the site wanted it
abbrev pub IsSpared : (Holds : List Request → Type 0) → (script : List Request) → (answered : ℕ) → (before now : Counts) → Type 0
IsSpared Holds script answered before now = Holds (take answered script) ⊎ (Holds (take (answered + 1) script) ⊎ StopsShort script answered before now)

-- what was told, and what it left
pub record PlaysRight {W : Type 0} (state : W → State) (counts : W → Counts) (e : Engine) (old new : Kept W) (input left : List ℕ) (status : Status) : Type 0 where
  pub taken : List ℕ
  pub in_order : input ≡ taken ++ left
  pub whole : ℕ
  pub read_before : whole ≤ length (lines_at_end taken)
  pub little : TakesLittle input left whole
  pub stops : StopsAfter e (script_of input) taken whole status
  pub told : IsTold (pieces_of e (script_of input)) whole status (state old.site) (state new.site)
  pub holds : UnlessBroken status (IsEngine state new (after_requests e (take (answers_made status whole) (script_of input))))
  pub spared : OnShort status (IsSpared (λ requests. IsEngine state new (after_requests e requests)) (script_of input) whole (counts old.site) (counts new.site))
  pub numbered : AreNumbered e (take (answers_made status whole) (script_of input))
