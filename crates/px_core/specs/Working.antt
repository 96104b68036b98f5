-- A core that works for a machine, and what a session's call does to it.
use Rattle.std.specs.Prelude.{◌≡◌, ◌≢◌, ◌⊎◌, ℕ, ◌+◌, ◌≤◌, true, [], length, Some, None, if◌then◌else◌}
use Rattle.px_site.specs.declared.error.Fault.{Fault}
use Rattle.px_site.specs.declared.error.Fault.TheVariants.{Read}
use Rattle.px_site.specs.declared.error.SiteError.{SiteError}
use Rattle.px_site.specs.declared.error.SiteError.TheVariants.{OutOfMemory as SiteShort, Fault as SiteFault}
use Rattle.px_site.specs.State.{State, EachMoment}
use Rattle.px_site.specs.Cause.{Counts, Rose}
use Rattle.px_model.specs.Machine.{Machine, commits}
use Rattle.px_model.specs.Rows.{in_order}
use Rattle.px_calls.specs.declared.call.Call.{Call}
use Rattle.px_calls.specs.declared.reply.Reply.{Reply}
use Rattle.px_calls.specs.Histories.{Step, by}
use Rattle.px_calls.specs.Steps.{reply_of, state_after}
use Rattle.px_active.specs.Active.{IsActiveOf}
use Rattle.px_active.specs.declared.active.Active.{Active}
use Rattle.px_cell_laws.specs.Locating.{AreWrittenAt}
use Rattle.px_cell_standing.specs.Found.{CanBeFound}
use Rattle.px_cell_standing.specs.Images.{StandsBetween}
use Rattle.px_engine.specs.Engine.{Engine}
use Rattle.px_engine.specs.Frames.{step_frames, syncs}
use Rattle.px_life.specs.Life.{Life}
use Rattle.px_log.specs.Log.{most_frames}
use Rattle.px_logged.specs.Logged.{logged}
use Rattle.px_reached.specs.Reachable.{Marks}
use Rattle.px_restart.specs.declared.restart.Restart.{Restart}
use Rattle.px_shown.specs.Parts.{no_parts}
use Rattle.px_standing.specs.Images.{acked}
use Rattle.px_tidying.specs.Opening.{HasLife, Opening}
use Rattle.px_working.specs.Follows.{last_store}
use Rattle.px_working.specs.Works.{Works}
use Rattle.px_xacts.specs.Transactions as xacts
use Rattle.px_core.specs.Core.{HasCallCause, OnlyCommit, durable_of, frames_of, opening_of}
use Rattle.px_core.specs.declared.state.Kept.{Kept}
use Rattle.px_core.specs.declared.error.CoreError.{CoreError}
use Rattle.px_core.specs.declared.error.CoreError.TheVariants.{OutOfMemory, Fault as FaultOf, LogFull, Damaged, Broken}

-- The core works for the machine: it keeps no error. A life of the machine's store lasts on its site, where each commit is durable, and
-- the machine's chains lie in the cells of its last front. The sessions have what the machine's have, and each of their writes names its slot.
-- What is left on the site can be found again.
pub record WorksFor {W : Type 0} (state : W → State) (core : Kept W) (m : Machine) : Type 0 where
  pub whole : core.error ≡ None
  pub life : Life
  pub restart : Restart
  pub marks : Marks
  pub order : in_order m.opening ≡ true
  pub has : HasLife no_parts (acked m) m life restart marks (opening_of state core)
  pub works : Works no_parts m life restart
  pub active : IsActiveOf m core.active
  pub written_at : AreWrittenAt core.active.xacts (last_store life)
  pub found : CanBeFound m life restart (state core.site).now

-- The machine may begin to work there: a life of its store lasts, in whose last front its chains lie, what is left on the site can be found
-- again, and no session has begun.
pub record MayBegin (m : Machine) (life : Life) (restart : Restart) (marks : Marks) (o : Opening) (active : Active) : Type 0 where
  pub order : in_order m.opening ≡ true
  pub has : HasLife no_parts (acked m) m life restart marks o
  pub works : Works no_parts m life restart
  pub found : CanBeFound m life restart o.site.now
  pub active_is : IsActiveOf m active
  pub fresh : active.xacts ≡ xacts.fresh m.base

-- the engine that a core is, where it works for the machine
abbrev pub engine_of : {W : Type 0} → Kept W → Machine → Engine
engine_of core m = record { machine = m; frames = frames_of core; durable = durable_of core }

-- ---- a session's call

-- how many frames are synced after a step of the machine: all of them where it syncs
abbrev pub durable_after : {W : Type 0} → Machine → Step → (old : Kept W) → ℕ
durable_after m step old = if syncs m step then frames_of old + step_frames m step else durable_of old

-- it was answered: as the machine replies, for which the core works on; and what it adds to the log is on the site
pub record Answers {W : Type 0} (state : W → State) (session : ℕ) (call : Call) (m : Machine) (old new : Kept W) (reply : Reply) : Type 0 where
  pub reply_is : reply ≡ reply_of m session call
  pub works : WorksFor state new (state_after m session call)
  pub frames : frames_of new ≡ frames_of old + length (logged m session call)
  pub durable : durable_of new ≡ durable_after m (by session call) old
  -- where the log takes no more, nothing was to be added
  pub room : most_frames ≤ frames_of old → logged m session call ≡ []

-- whatever a crash within the call leaves stands for what was published by an acknowledged commit or a later one, up to what the call commits
abbrev pub StandsWithin : {W : Type 0} → (W → State) → ℕ → Call → Machine → Kept W → Kept W → Type 0
StandsWithin state session call m old new =
    EachMoment (StandsBetween (acked m) (commits (state_after m session call)) (state_after m session call) (state old.site).now) (state old.site) (state new.site)

-- ---- what an error leaves

-- all but the site's counts is as it was
pub record AsBefore {W : Type 0} (tells : Type 0) (state : W → State) (old new : Kept W) : Type 0 where
  pub error : new.error ≡ old.error
  pub frames : frames_of new ≡ frames_of old
  pub durable : durable_of new ≡ durable_of old
  pub site : tells → state new.site ≡ state old.site
  pub works : tells → (m : Machine) → WorksFor state old m → WorksFor state new m

-- the core keeps this error, and works for no machine any more
abbrev pub Breaks : {W : Type 0} → SiteError → Kept W → Type 0
Breaks error new = new.error ≡ Some error

-- a read changes nothing; any other fault breaks the core
abbrev pub LeavesAtFault : {W : Type 0} → Type 0 → (W → State) → Fault → Kept W → Kept W → Type 0
LeavesAtFault tells state Read old new = AsBefore tells state old new
LeavesAtFault tells state fault old new = Breaks (SiteFault fault) new

-- the core is as before, or broken by a call that changes the site
abbrev pub Leaves : {W : Type 0} → Type 0 → (W → State) → (W → Counts) → Call → Kept W → Kept W → CoreError → Type 0
Leaves tells state counts call old new OutOfMemory =
    AsBefore tells state old new ⊎ OnlyCommit call (Breaks SiteShort new × Rose (counts old.site).shorts (counts new.site).shorts)
Leaves tells state counts call old new (FaultOf fault) = LeavesAtFault tells state fault old new
Leaves tells state counts call old new (LogFull n) = AsBefore tells state old new
Leaves tells state counts call old new (Damaged file place) = AsBefore tells state old new
Leaves tells state counts call old new (Broken error) = AsBefore tells state old new

-- it gave up: what that leaves, and why
pub record Refuses {W : Type 0} (tells : Type 0) (state : W → State) (counts : W → Counts) (call : Call) (old new : Kept W) (error : CoreError) : Type 0 where
  pub leaves : Leaves tells state counts call old new error
  pub cause : HasCallCause counts call old new error

-- at LogFull the call had a frame to write, for which the log has no number
abbrev pub FindsFull : {W : Type 0} → ℕ → Call → Machine → Kept W → CoreError → Type 0
FindsFull session call m old error =
    (n : ℕ) → error ≡ LogFull n → (logged m session call ≢ []) × (n ≡ frames_of old) × (most_frames ≤ n)
