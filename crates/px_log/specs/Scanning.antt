-- How the log is read: change by change, from its first frame on.
use Rattle.std.specs.Prelude.{◌≡◌, ◌≢◌, ℕ, ◌+◌, true, List, ◌++◌, length, map, drop}
use Rattle.px_change.specs.declared.change.Change.{Change}
use Rattle.px_change.specs.Grammar.{may_hold}
use Rattle.px_change.specs.Text.{change_text}
use Rattle.px_frame.specs.Frame.{FrameAt}
use Rattle.px_restart.specs.declared.restart.Restart.{Restart}
use Rattle.px_scan.specs.Scan.{frames_of}
use Rattle.px_log.specs.declared.error.LogOpenError.{LogOpenError}
use Rattle.px_log.specs.declared.error.LogOpenError.TheVariants.{OutOfMemory, Fault as FaultOf, Damaged}
use Rattle.px_log.specs.Contents.{log_text, HoldsNone}
use Rattle.px_xlog.specs.Contents.{the_log}

-- the payload is no change that this frame may hold
abbrev pub IsForeign : Restart → (number : ℕ) → List ℕ → Type 0
IsForeign restart number payload = (change : Change) → may_hold restart.tables number restart.short change ≡ true → payload ≢ change_text change

-- a frame of this change stands at the front of the rest
pub record IsNext (rest : List ℕ) (number : ℕ) (change : Change) (size : ℕ) : Type 0 where
  pub frame : FrameAt rest number (change_text change)
  pub size_is : size ≡ 16 + length (change_text change)

-- a frame with a foreign payload stands there
pub record HasForeign (rest : List ℕ) (restart : Restart) (number : ℕ) : Type 0 where
  pub payload : List ℕ
  pub frame : FrameAt rest number payload
  pub foreign : IsForeign restart number payload

-- what Damaged says where the next frame is read
abbrev pub FindsForeign : List ℕ → Restart → (number place : ℕ) → LogOpenError → Type 0
FindsForeign rest restart number place OutOfMemory = Unit {0}
FindsForeign rest restart number place (FaultOf fault) = Unit {0}
FindsForeign rest restart number place (Damaged file at) = (file ≡ the_log) × (at ≡ place) × HasForeign rest restart number

-- and where all of them are
abbrev pub FindsDamage : Restart → List ℕ → LogOpenError → Type 0
FindsDamage restart content OutOfMemory = Unit {0}
FindsDamage restart content (FaultOf fault) = Unit {0}
FindsDamage restart content (Damaged file place) = (file ≡ the_log) × HoldsNone restart content place

-- the scan of the content gives these changes, and stops there
pub record ScansTo (content : List ℕ) (changes : List Change) (stop : ℕ) : Type 0 where
  pub scanned : frames_of content 0 ≡ map change_text changes
  pub front : content ≡ log_text changes ++ drop stop content
  pub place : stop ≡ length (log_text changes)
