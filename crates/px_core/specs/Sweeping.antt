-- What a step of the sweeper does to what a core keeps.
use Rattle.std.specs.Prelude.{◌≡◌, ◌≢◌, ◌⊎◌, ⊤, ℕ, ◌+◌, ◌≤◌, Option, Some, None, Result, IfOk, IfErr, IfSome, MatchOption, OnOk}
use Rattle.px_answers.specs.Reading.{Stays}
use Rattle.px_appending.specs.Unlinks.{GoesFrom, MayBeUnlinked}
use Rattle.px_calls.specs.declared.reply.Reply.{Reply}
use Rattle.px_calls.specs.Sweeps.{sweep_reply, swept_state}
use Rattle.px_cell_laws.specs.Sweeping.{sweep_count_of, sweep_of}
use Rattle.px_cell_standing.specs.Images.{StandsBetween}
use Rattle.px_engine.specs.Frames.{sweep_frames}
use Rattle.px_held.specs.declared.error.HeldError.{HeldError}
use Rattle.px_held.specs.declared.prepared.PreparedUnlink.{PreparedUnlink}
use Rattle.px_held.specs.Errors as held
use Rattle.px_held.specs.Errors.{HasReadCause}
use Rattle.px_held.specs.Sweeping.{IsSweepOf}
use Rattle.px_held.specs.Unlinking.{GoFrom, unlink_from}
use Rattle.px_history.specs.Store.{Store}
use Rattle.px_log.specs.Log.{most_frames}
use Rattle.px_model.specs.declared.machine.Flat.{Flat}
use Rattle.px_model.specs.Machine.{Machine, commits}
use Rattle.px_site.specs.Cause.{Counts, NoneFell, Rose}
use Rattle.px_site.specs.declared.error.Fault.TheVariants.{Read, Write}
use Rattle.px_site.specs.State.{EachMoment, State}
use Rattle.px_standing.specs.Images.{LeavesOthers, acked}
use Rattle.px_working.specs.Follows.{last_store}
use Rattle.px_xacts.specs.declared.answers.Due.{Due}
use Rattle.px_core.specs.Core.{IsWell, durable_of, frames_of, opening_of}
use Rattle.px_core.specs.Errors.{IsPassing}
use Rattle.px_core.specs.Working.{AsBefore, LeavesAtFault, WorksFor}
use Rattle.px_core.specs.declared.error.CoreError.{CoreError}
use Rattle.px_core.specs.declared.error.CoreError.TheVariants.{OutOfMemory, Fault as FaultOf, LogFull, Damaged, Broken}
use Rattle.px_core.specs.declared.state.Kept.{Kept}

-- it was answered: as the machine's sweeper replies, for which the core works on; and its frame, if it has one, is on the site, not synced
pub record AnswersSweep {W : Type 0} (state : W → State) (m : Machine) (old new : Kept W) (reply : Reply) : Type 0 where
  pub reply_is : reply ≡ sweep_reply m
  pub works : WorksFor state new (swept_state m)
  pub frames : frames_of new ≡ frames_of old + sweep_frames m
  pub durable : durable_of new ≡ durable_of old
  -- where the log takes no more, nothing was to be added
  pub room : most_frames ≤ frames_of old → sweep_frames m ≡ 0

-- whatever a crash within it leaves stands for what was published by an acknowledged commit or a later one
abbrev pub StandsWithinSweep : {W : Type 0} → (W → State) → Machine → Kept W → Kept W → Type 0
StandsWithinSweep state m old new =
    EachMoment (StandsBetween (acked m) (commits (swept_state m)) (swept_state m) (state old.site).now) (state old.site) (state new.site)

-- ---- what an error leaves

-- the core is as before, or broken by a fault of the frame's write
abbrev pub LeavesSweep : {W : Type 0} → Type 0 → (W → State) → Kept W → Kept W → CoreError → Type 0
LeavesSweep tells state old new OutOfMemory = AsBefore tells state old new
LeavesSweep tells state old new (FaultOf fault) = LeavesAtFault tells state fault old new
LeavesSweep tells state old new (LogFull n) = AsBefore tells state old new
LeavesSweep tells state old new (Damaged file place) = AsBefore tells state old new
LeavesSweep tells state old new (Broken error) = AsBefore tells state old new

-- the cause of its error: a fault is one of a read or of a write, and was counted
abbrev pub HasSweepCause : {W : Type 0} → (W → Counts) → Kept W → Kept W → CoreError → Type 0
HasSweepCause counts old new OutOfMemory = ⊤
HasSweepCause counts old new (FaultOf fault) = ((fault ≡ Read) ⊎ (fault ≡ Write)) × Rose ((counts old.site).faults fault) ((counts new.site).faults fault)
HasSweepCause counts old new (LogFull n) = (n ≡ frames_of old) × (most_frames ≤ n)
HasSweepCause counts old new (Damaged file place) = ⊤
HasSweepCause counts old new (Broken error) = old.error ≡ Some error

-- it gave up: what that leaves, and why
pub record RefusesSweep {W : Type 0} (tells : Type 0) (state : W → State) (counts : W → Counts) (old new : Kept W) (error : CoreError) : Type 0 where
  pub leaves : LeavesSweep tells state old new error
  pub cause : HasSweepCause counts old new error

-- at LogFull it had a frame to write, for which the log has no number
abbrev pub FindsFullSweep : {W : Type 0} → Machine → Kept W → CoreError → Type 0
FindsFullSweep m old error = (n : ℕ) → error ≡ LogFull n → (sweep_frames m ≢ 0) × (n ≡ frames_of old) × (most_frames ≤ n)

-- ---- where no error is kept

-- What it does. Of a machine that the core works for it is said where this is so.
pub record Sweeps {W : Type 0} (tells : Type 0) (state : W → State) (counts : W → Counts) (old new : Kept W)
    (Holds : (m : Machine) → WorksFor state old m → Type 0) (result : Result Reply CoreError) : Type 0 where
  pub answered : tells → (m : Machine) (works : WorksFor state old m) → Holds m works → IfOk result (AnswersSweep state m old new)
  pub moments : tells → (m : Machine) (works : WorksFor state old m) → Holds m works → StandsWithinSweep state m old new
  pub others : tells → (m : Machine) → WorksFor state old m → EachMoment (LeavesOthers (state old.site).now) (state old.site) (state new.site)
  pub refused : IfErr result (RefusesSweep tells state counts old new)
  pub full : tells → (m : Machine) (works : WorksFor state old m) → Holds m works → IfErr result (FindsFullSweep m old)
  pub sound : tells → (m : Machine) → WorksFor state old m → IfErr result IsPassing
  pub steady : OnOk result (new.error ≡ None)
  pub well : IsWell state new
  pub none_fell : NoneFell (counts old.site) (counts new.site)

-- the write that is due is the machine's, and its sweep takes nothing
pub record TakesNothing (m : Machine) (store : Store) (due : Due) : Type 0 where
  pub w : Flat
  pub place : ℕ
  pub is : IsSweepOf m store due w place
  pub none : sweep_count_of store w due.table due.row place ≡ 0

-- the write that is due is the machine's, and what is prepared is the unlink of its sweep
pub record MaySweep (m : Machine) (store : Store) (due : Due) (prepared : PreparedUnlink) : Type 0 where
  pub w : Flat
  pub place : ℕ
  pub is : IsSweepOf m store due w place
  pub some : 1 ≤ sweep_count_of store w due.table due.row place
  pub from : ℕ
  pub stand : GoFrom store prepared from
  pub step : unlink_from prepared from ≡ sweep_of store w due.table due.row place

-- versions of some store that the core's tables serve are prepared, and their frame may be appended
pub record IsUnlinkOf {W : Type 0} (state : W → State) (core : Kept W) (due : Due) (prepared : PreparedUnlink) : Type 0 where
  pub ready : MayBeUnlinked core.held prepared (core.active.xacts.base + due.number)
  pub store : Store
  pub from : ℕ
  pub goes : GoesFrom store prepared from (opening_of state core)

-- What goes with a write that is due, or that nothing does.
pub record FindsGone {W : Type 0} (tells : Type 0) (state : W → State) (counts : W → Counts) (due : Due) (old new : Kept W)
    (result : Result (Option PreparedUnlink) HeldError) : Type 0 where
  pub rest : new ≡ record old { site = new.site; held = new.held }
  pub stays : Stays tells state counts old.site new.site old.held new.held
  pub fault : IfErr result (HasReadCause (counts old.site) (counts new.site))
  pub sound : tells → (m : Machine) → WorksFor state old m → IfErr result held.IsPassing
  pub ready : IfOk result (λ found. IfSome found (IsUnlinkOf state new due))
  pub goes : (m : Machine) (works : WorksFor state old m)
      → IfOk result (λ found. MatchOption found (TakesNothing m (last_store works.life) due) (MaySweep m (last_store works.life) due))
