-- One line of a script: what it asks for is answered, and the answer is told.
use Rattle.std.specs.Prelude.{◌≡◌, ◌≢◌, ◌⊎◌, ⊤, ℕ, ◌≤◌, List, ◌∷◌, ◌++◌, take, Some, None, Result, Ok, Err}
use Rattle.px_site.specs.State.{State, EachMoment, spoke}
use Rattle.px_site.specs.Cause.{Counts, Rose}
use Rattle.px_model.specs.Machine.{Machine, commits}
use Rattle.px_calls.specs.declared.call.Call.TheVariants.{Commit}
use Rattle.px_calls.specs.declared.status.Status.{Status}
use Rattle.px_calls.specs.declared.status.Status.TheVariants.{BadLine, Damaged, DiskFault, OutputFault, OutOfMemory, LogFull}
use Rattle.px_calls.specs.Histories.{Step, by, sweep}
use Rattle.px_engine.specs.Engine.{Engine}
use Rattle.px_engine.specs.Frames.{step_frames}
use Rattle.px_engine.specs.Requests.{Request, Ask, Stat, after_request, after_requests, answer_text}
use Rattle.px_script.specs.Grammar.{command_line}
use Rattle.px_log.specs.Log.{most_frames}
use Rattle.px_core.specs.declared.state.Kept.{Kept}
use Rattle.px_play.specs.declared.commands.Asked.{Asked}
use Rattle.px_play.specs.declared.commands.Asked.TheVariants.{Call as AskedCall, Sweep as AskedSweep, Stat as AskedStat}
use Rattle.px_play.specs.Acknowledged.{TellsWhole, acknowledged, KeepsAcknowledged}
use Rattle.px_play.specs.Engine.{IsEngine}

-- the request that a line's value is
abbrev pub request_asked : Asked → Request
request_asked (AskedCall session call) = Ask (by session call)
request_asked AskedSweep = Ask sweep
request_asked AskedStat = Stat

-- what the bytes of a line ask for: a request, or that they are no command
abbrev pub ReadsCommand : (line : List ℕ) (number : ℕ) → Result Asked Status → Type 0
ReadsCommand line number (Ok asked) = command_line line ≡ Some (request_asked asked)
ReadsCommand line number (Err (BadLine k)) = (command_line line ≡ None) × (k ≡ number)
ReadsCommand line number (Err OutOfMemory) = ⊤
ReadsCommand line number (Err _) = ⊥

-- why an answer isn't told
abbrev pub HasTellEnd : Counts → Counts → Status → Type 0
HasTellEnd old new OutputFault = Rose old.tell_faults new.tell_faults
HasTellEnd old new OutOfMemory = ⊤
HasTellEnd old new _ = ⊥

-- a text is told whole, or a front of it at an output's fault, or nothing
abbrev pub TellsText : (text : List ℕ) → State → State → Result (Unit {0}) Status → Type 0
TellsText text old new (Ok _) = new ≡ spoke text text old
TellsText text old new (Err OutputFault) = (n : ℕ) × (new ≡ spoke text (take n text) old)
TellsText text old new (Err _) = new ≡ old

-- the statuses by which a step or the telling of its reply ends a run
abbrev pub HasAnswerEnd : Status → Type 0
HasAnswerEnd (Damaged file place) = ⊤
HasAnswerEnd (DiskFault fault) = ⊤
HasAnswerEnd OutputFault = ⊤
HasAnswerEnd (LogFull n) = ⊤
HasAnswerEnd OutOfMemory = ⊤
HasAnswerEnd _ = ⊥

-- a line's command, where a run ends at it with this status
abbrev pub HasTurnEnd : (line : List ℕ) (number : ℕ) → Status → Type 0
HasTurnEnd line number (BadLine k) = (command_line line ≡ None) × (k ≡ number)
HasTurnEnd line number (Damaged file place) = (request : Request) × (command_line line ≡ Some request)
HasTurnEnd line number (DiskFault fault) = (request : Request) × (command_line line ≡ Some request)
HasTurnEnd line number OutputFault = (request : Request) × (command_line line ≡ Some request)
HasTurnEnd line number (LogFull n) = (request : Request) × (command_line line ≡ Some request)
HasTurnEnd line number OutOfMemory = ⊤
HasTurnEnd line number _ = ⊥

-- what was asked for was done: the core is the engine after it, and wrote no frame that has no number
pub record WasMade {W : Type 0} (state : W → State) (e : Engine) (request : Request) (new : Kept W) : Type 0 where
  pub engine : IsEngine state new (after_request e request)
  pub numbered : ((after_request e request).frames ≡ e.frames) ⊎ ((after_request e request).frames ≤ most_frames)

-- it was done, and of its answer this was told
pub record Answered {W : Type 0} (state : W → State) (e : Engine) (request : Request) (text : List ℕ) (old new : Kept W) : Type 0 where
  pub made : WasMade state e request new
  pub told : (state new.site).now.told ≡ (state old.site).now.told ++ text

-- the step was to write a frame for which the log has no number
abbrev pub WritesFrame : Engine → Request → Type 0
WritesFrame e (Ask step) = step_frames e.machine step ≢ 0
WritesFrame e Stat = ⊥

-- the log has no number for what the step was to write, and the core is the engine as before
pub record FoundFull {W : Type 0} (state : W → State) (e : Engine) (request : Request) (old new : Kept W) (n : ℕ) : Type 0 where
  pub still : IsEngine state new e
  pub told : (state new.site).now.told ≡ (state old.site).now.told
  pub writes : WritesFrame e request
  pub number : n ≡ e.frames
  pub none_left : most_frames ≤ n

-- the request is a commit
abbrev pub IsCommit : Request → Type 0
IsCommit request = (session : ℕ) × (request ≡ Ask (by session Commit))

-- memory was wanted: before the step, or behind it, or by the site within a commit
pub record FoundShort {W : Type 0} (state : W → State) (counts : W → Counts) (e : Engine) (request : Request) (old new : Kept W) : Type 0 where
  pub told : (state new.site).now.told ≡ (state old.site).now.told
  pub left : IsEngine state new e ⊎ (WasMade state e request new ⊎ (IsCommit request × Rose (counts old.site).shorts (counts new.site).shorts))

-- what a turn tells, and what it leaves
abbrev pub TurnsRight : {W : Type 0} → (W → State) → (W → Counts) → Engine → Request → (old new : Kept W) → Result (Unit {0}) Status → Type 0
TurnsRight state counts e request old new (Ok _) = Answered state e request (answer_text e request) old new
TurnsRight state counts e request old new (Err OutputFault) = (front : ℕ) × Answered state e request (take front (answer_text e request)) old new
TurnsRight state counts e request old new (Err (LogFull n)) = FoundFull state e request old new n
TurnsRight state counts e request old new (Err OutOfMemory) = FoundShort state counts e request old new
TurnsRight state counts e request old new (Err _) = (state new.site).now.told ≡ (state old.site).now.told

-- what was told since then is told whole, and acknowledges just what the machine has committed
pub record Acknowledges (before : List ℕ) (m : Machine) (s : State) : Type 0 where
  pub so_far : List ℕ
  pub told : s.now.told ≡ before ++ so_far
  pub whole : TellsWhole so_far
  pub all : acknowledged m.before so_far ≡ commits m

-- each moment of a turn keeps what was acknowledged, whatever is asked for behind it
abbrev pub KeepsWithin : Engine → Request → (before now : State) → Type 0
KeepsWithin e request before now =
    (told : List ℕ) → Acknowledges told e.machine before → (requests : List Request) → EachMoment (KeepsAcknowledged (after_requests e (request ∷ requests)).machine told) before now
