-- `run` on a store that is found in the files, with an input that tells its bytes.
use Rattle.std.specs.Prelude.{◌≡◌, ℕ, zero, suc, ◌+◌, ◌-◌, ◌<◌, ◌≤◌, List, ◌∷◌, ◌++◌, length, take}
use Rattle.px_site.specs.State.{State}
use Rattle.px_site.specs.Cause.{Counts}
use Rattle.px_model.specs.Machine.{Machine}
use Rattle.px_calls.specs.declared.status.Status.{Status}
use Rattle.px_calls.specs.declared.status.Status.TheVariants.{Done, Usage, BadLine, NoStore, NotEmpty, Damaged, DiskFault, SourceFault, OutputFault, OutOfMemory, LogFull, TooLong}
use Rattle.px_calls.specs.Histories.{FirstCommitterWins}
use Rattle.px_calls.specs.Texts.{opened_line}
use Rattle.px_engine.specs.Engine.{Engine}
use Rattle.px_engine.specs.Requests.{Request, after_requests}
use Rattle.px_script.specs.Lines.{complete_lines, lines_at_end}
use Rattle.px_cell_standing.specs.Found.{Found, HoldsStore, machine_of}
use Rattle.px_log.specs.Log.{most_frames}
use Rattle.px_play.specs.Input.{TakesLittle, script_of}
use Rattle.px_play.specs.Playing.{AreNumbered, IsSpared, OnShort, StopsFull, UnlessBroken, pieces_of}
use Rattle.px_run.specs.Told.{TellsInAll}

-- what an opening tells of a store
abbrev pub opening_line : Found → List ℕ
opening_line found = opened_line found.commits (length found.rows) found.redone

-- the engine that starts there: the opening synced each frame
abbrev pub engine_of : Found → Engine
engine_of found = record { machine = machine_of found; frames = found.frames; durable = found.frames }

-- the opened line, and what is answered to each request
unfoldable pub run_pieces : Found → List Request → List (List ℕ)
run_pieces found requests = opening_line found ∷ pieces_of (engine_of found) requests

-- the machine after these requests
abbrev pub machine_after : Found → List Request → Machine
machine_after found requests = (after_requests (engine_of found) requests).machine

-- the opening was to unlink a version in a frame of this number, which the log doesn't take
pub record FindsNoRoom (found : Found) (n : ℕ) : Type 0 where
  pub none_left : most_frames ≤ n
  pub below : n < found.frames

-- the log took no more: while the store was opened, or at a step
abbrev pub EndsFull : Found → (script : List Request) → (whole n : ℕ) → Type 0
EndsFull found script zero n = FindsNoRoom found n
EndsFull found script (suc answered) n = StopsFull (engine_of found) script answered n

-- how many pieces were told whole, by the status: the opened line counts as one
abbrev pub RunEnds : Found → (script : List Request) → (taken : List ℕ) → (whole : ℕ) → Status → Type 0
RunEnds found script taken whole Done = whole ≡ 1 + length (lines_at_end taken)
RunEnds found script taken whole Usage = ⊥
RunEnds found script taken whole (BadLine k) = whole ≡ k
RunEnds found script taken whole NoStore = ⊥
RunEnds found script taken whole NotEmpty = ⊥
RunEnds found script taken whole (Damaged file place) = ⊥
RunEnds found script taken whole (DiskFault fault) = whole ≤ length script
RunEnds found script taken whole SourceFault = whole ≡ 1 + length (complete_lines taken)
RunEnds found script taken whole OutputFault = whole ≤ length script
RunEnds found script taken whole OutOfMemory = whole ≤ 1 + length script
RunEnds found script taken whole (LogFull n) = EndsFull found script whole n
RunEnds found script taken whole TooLong = whole ≡ 1 + length (complete_lines taken)

-- how many requests were answered where so many pieces were told whole: at an output's fault one whose answer wasn't, but for the opened line's
abbrev pub answers_made : Status → (whole : ℕ) → ℕ
answers_made OutputFault whole = whole
answers_made status whole = whole - 1

-- the machine after the requests that were answered
abbrev pub machine_left : Found → (script : List Request) → (whole : ℕ) → Status → Machine
machine_left found script whole status = machine_after found (take (answers_made status whole) script)

-- but where the log had no room for the opening
abbrev pub UnlessNoRoom : Status → (whole : ℕ) → Type 0 → Type 0
UnlessNoRoom (LogFull n) zero P = Unit {0}
UnlessNoRoom (LogFull n) (suc answered) P = P
UnlessNoRoom _ whole P = P

-- what `run` told, and what it left: the site has all that the requests did, and nothing else whatever a crash leaves of it
pub record RunsRight (found : Found) (input left : List ℕ) (old new : State) (counts counts_now : Counts) (status : Status) : Type 0 where
  pub taken : List ℕ
  pub in_order : input ≡ taken ++ left
  pub whole : ℕ
  pub read_before : whole ≤ 1 + length (lines_at_end taken)
  pub ends : RunEnds found (script_of input) taken whole status
  pub told : TellsInAll (run_pieces found (script_of input)) whole status old new counts counts_now
  pub holds : UnlessNoRoom status whole (UnlessBroken status (HoldsStore (machine_left found (script_of input) whole status) new))
  -- where memory was wanted once the opened line was told
  pub spared : OnShort status (1 ≤ whole → IsSpared (λ requests. HoldsStore (machine_after found requests) new) (script_of input) (whole - 1) counts counts_now)
  pub numbered : AreNumbered (engine_of found) (take (answers_made status whole) (script_of input))
  -- of two transactions that the requests committed with a key in common the later one began after the earlier one ended
  pub first_committer_wins : FirstCommitterWins (machine_left found (script_of input) whole status).ended

-- so many pieces were told whole: before the opened line was, nothing was taken of the input, and then little beyond the answered lines
abbrev pub TakesBehind : (input left : List ℕ) → (whole : ℕ) → Type 0
TakesBehind input left zero = left ≡ input
TakesBehind input left (suc answered) = TakesLittle input left answered

-- what `run` told, and that it took little more of its input than it answered
pub record TakesAsTold (found : Found) (input left : List ℕ) (old new : State) (counts counts_now : Counts) (status : Status) : Type 0 where
  pub whole : ℕ
  pub told : TellsInAll (run_pieces found (script_of input)) whole status old new counts counts_now
  pub taken : TakesBehind input left whole
