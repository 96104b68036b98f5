-- When what a core keeps is sound, and its calls by what they do.
use Rattle.std.specs.Prelude.{◌≡◌, ◌⊎◌, ⊤, ℕ, ◌≤◌, Bool, true, false, Some}
use Rattle.px_site.specs.declared.error.Fault.{Fault}
use Rattle.px_site.specs.declared.error.Fault.TheVariants.{Read, Sync, Write}
use Rattle.px_site.specs.Cause.{Counts, Rose}
use Rattle.px_site.specs.State.{State}
use Rattle.px_active.specs.Active.{AreStored}
use Rattle.px_calls.specs.declared.call.Call.{Call}
use Rattle.px_calls.specs.declared.call.Call.TheVariants.{Begin, Get, Hold, Fetch, Find, Scan, Insert, Update, Delete, Commit, Rollback}
use Rattle.px_history.specs.Store.{Store}
use Rattle.px_log.specs.Log.{most_frames}
use Rattle.px_tidying.specs.Opening.{HasStore, Opening, opening}
use Rattle.px_core.specs.declared.state.Kept.{Kept}
use Rattle.px_core.specs.declared.error.CoreError.{CoreError}
use Rattle.px_core.specs.declared.error.CoreError.TheVariants.{OutOfMemory, Fault as FaultOf, LogFull, Damaged, Broken}

-- its site, its tables and its log
abbrev pub opening_of : {W : Type 0} → (W → State) → Kept W → Opening
opening_of state core = opening (state core.site) core.held core.log

-- Whatever the site has: the tables are those of some store, the log takes its changes, each commit has a frame, and each unswept write a
-- stored number.
pub record IsWell {W : Type 0} (state : W → State) (core : Kept W) : Type 0 where
  pub store : Store
  pub has : HasStore store (opening_of state core)
  pub few : core.active.commits ≤ core.log.frames
  pub stored : AreStored core.active.xacts

-- the number of the next frame
abbrev pub frames_of : {W : Type 0} → Kept W → ℕ
frames_of core = core.log.frames

-- how many frames are synced
abbrev pub durable_of : {W : Type 0} → Kept W → ℕ
durable_of core = core.log.durable

-- ---- calls by what they do to the cells and to the log

abbrev pub adds_nothing : Call → Bool
adds_nothing Begin = true
adds_nothing (Get table key) = true
adds_nothing (Hold table key) = true
adds_nothing (Fetch ticket) = true
adds_nothing (Find table tag) = true
adds_nothing (Scan table) = true
adds_nothing _ = false

abbrev pub is_write : Call → Bool
is_write (Insert table key tag body) = true
is_write (Update table key tag body) = true
is_write (Delete table key) = true
is_write _ = false

-- an end takes no memory: it wants some only where the site does
abbrev pub UnlessEnd : Call → Type 0 → Type 0
UnlessEnd Commit P = P
UnlessEnd Rollback P = P
UnlessEnd _ P = ⊤

-- only a commit changes the site twice: its frame is written, and then synced
abbrev pub OnlyCommit : Call → Type 0 → Type 0
OnlyCommit Commit P = P
OnlyCommit _ P = ⊥

-- the faults that a call may meet
abbrev pub MayMeet : Call → Fault → Type 0
MayMeet Begin fault = ⊥
MayMeet (Get table key) fault = fault ≡ Read
MayMeet (Hold table key) fault = fault ≡ Read
MayMeet (Fetch ticket) fault = ⊥
MayMeet (Find table tag) fault = fault ≡ Read
MayMeet (Scan table) fault = fault ≡ Read
MayMeet (Insert table key tag body) fault = (fault ≡ Read) ⊎ (fault ≡ Write)
MayMeet (Update table key tag body) fault = (fault ≡ Read) ⊎ (fault ≡ Write)
MayMeet (Delete table key) fault = (fault ≡ Read) ⊎ (fault ≡ Write)
MayMeet Commit fault = (fault ≡ Write) ⊎ (fault ≡ Sync)
MayMeet Rollback fault = fault ≡ Write

-- ---- why a call gives up

-- the cause of a session call's error
abbrev pub HasCallCause : {W : Type 0} → (W → Counts) → Call → Kept W → Kept W → CoreError → Type 0
HasCallCause counts call old new OutOfMemory = UnlessEnd call (Rose (counts old.site).shorts (counts new.site).shorts)
HasCallCause counts call old new (FaultOf fault) = MayMeet call fault × Rose ((counts old.site).faults fault) ((counts new.site).faults fault)
HasCallCause counts call old new (LogFull n) = (n ≡ frames_of old) × (most_frames ≤ n)
HasCallCause counts call old new (Damaged file place) = ⊤
HasCallCause counts call old new (Broken error) = old.error ≡ Some error

-- the cause of an error where the committed rows are asked for: a fault is one of a read, and was counted
abbrev pub HasRowCause : {W : Type 0} → (W → Counts) → Kept W → Kept W → CoreError → Type 0
HasRowCause counts old new OutOfMemory = ⊤
HasRowCause counts old new (FaultOf fault) = (fault ≡ Read) × Rose ((counts old.site).faults Read) ((counts new.site).faults Read)
HasRowCause counts old new (LogFull n) = ⊥
HasRowCause counts old new (Damaged file place) = ⊤
HasRowCause counts old new (Broken error) = old.error ≡ Some error
