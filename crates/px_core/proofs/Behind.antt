-- A call behind another one that only read.
use Rattle.std.proofs.Common.{◌≡◌, ℕ, ◌+◌, ◌≤◌, cond, length, Result, Ok, Err, sym, ap, subst, ◌∙◌, inl, inr, arith}
use Rattle.std.specs.Prelude.{IfErr, IfOk}
use Rattle.px_calls.specs.Histories.{by}
use Rattle.px_calls.specs.declared.call.Call.{Call}
use Rattle.px_calls.specs.declared.call.Call.TheVariants.{Begin, Get, Hold, Fetch, Find, Scan, Insert, Update, Delete, Commit, Rollback}
use Rattle.px_calls.specs.declared.reply.Reply.{Reply}
use Rattle.px_calls.specs.Steps.{state_after}
use Rattle.px_calls.specs.Sweeps.{swept_state}
use Rattle.px_cell_standing.specs.Images.{StandsBetween}
use Rattle.px_engine.specs.Frames.{sweep_frames, syncs}
use Rattle.px_log.specs.Log.{Log}
use Rattle.px_logged.specs.Logged.{logged}
use Rattle.px_model.specs.Machine.{Machine, commits}
use Rattle.px_site.proofs.Causes.{then_none_fell}
use Rattle.px_site.specs.Cause.{Counts, NoneFell, Rose}
use Rattle.px_site.specs.declared.error.Fault.{Fault}
use Rattle.px_site.specs.declared.error.Fault.TheVariants.{Read, Write, Sync, Remove, List as ListFault, Tell}
use Rattle.px_site.specs.declared.error.SiteError.TheVariants.{OutOfMemory as SiteShort}
use Rattle.px_site.specs.State.{EachMoment, State}
use Rattle.px_standing.specs.Images.{LeavesOthers, acked}
use Rattle.px_core.specs.Core.{HasCallCause, OnlyCommit, UnlessEnd}
use Rattle.px_core.specs.Serving.{Does}
use Rattle.px_core.specs.Sweeping.{AnswersSweep, FindsFullSweep, HasSweepCause, LeavesSweep, RefusesSweep, Sweeps}
use Rattle.px_core.specs.Working.{Answers, AsBefore, Breaks, FindsFull, Leaves, LeavesAtFault, Refuses, WorksFor}
use Rattle.px_core.specs.declared.error.CoreError.{CoreError}
use Rattle.px_core.specs.declared.error.CoreError.TheVariants.{OutOfMemory, Fault as FaultOf, LogFull, Damaged, Broken}
use Rattle.px_core.specs.declared.state.Kept.{Kept}
use Rattle.px_core.proofs.Still.{Still, works_same}

module _ {W : Type 0} (tells : Type 0) (state : W → State) (counts : W → Counts) (old mid new : Kept W)
    (still : Still tells state old mid) (same : mid.active ≡ old.active) (fell : NoneFell (counts old.site) (counts mid.site)) where
  pub frames : mid.log.frames ≡ old.log.frames
  frames = ap (λ (l : Log). l.frames) still.log

  abbrev pub later_works : tells → (m : Machine) → WorksFor state old m → WorksFor state mid m
  later_works t m works = works_same tells state old mid still t same m works

  pub before_behind : AsBefore tells state mid new → AsBefore tells state old new
  before_behind before = record {
    error = before.error ∙ still.error;
    frames = before.frames ∙ frames;
    durable = before.durable ∙ ap (λ (l : Log). l.durable) still.log;
    site = λ t. before.site t ∙ still.same t;
    works = λ t m works. before.works t m (later_works t m works);
  }

  pub rose_behind : (f : Counts → ℕ) → f (counts old.site) ≤ f (counts mid.site) → Rose (f (counts mid.site)) (f (counts new.site))
      → Rose (f (counts old.site)) (f (counts new.site))
  rose_behind f below rose = omega (arith, below, rose)

  pub fault_behind : (fault : Fault) → LeavesAtFault tells state fault mid new → LeavesAtFault tells state fault old new
  fault_behind Read leaves = before_behind leaves
  fault_behind Write leaves = leaves
  fault_behind Sync leaves = leaves
  fault_behind Remove leaves = leaves
  fault_behind ListFault leaves = leaves
  fault_behind Tell leaves = leaves

module _ {W : Type 0} (tells : Type 0) (state : W → State) (counts : W → Counts) (session : ℕ) (call : Call) (old mid new : Kept W)
    (still : Still tells state old mid) (same : mid.active ≡ old.active) (fell : NoneFell (counts old.site) (counts mid.site)) where
  answers_behind : (m : Machine) (result : Result Reply CoreError) → IfOk result (Answers state session call m mid new) → IfOk result (Answers state session call m old new)
  answers_behind m (Err error) answers = tt
  answers_behind m (Ok reply) answers = record {
    reply_is = answers.reply_is;
    works = answers.works;
    frames = answers.frames ∙ ap (λ (n : ℕ). n + length (logged m session call)) (frames tells state counts old mid new still same fell);
    durable = answers.durable ∙ ap (λ (l : Log). cond (syncs m (by session call)) (l.frames + length (logged m session call)) l.durable) still.log;
    room = λ full. answers.room (omega (arith, full, frames tells state counts old mid new still same fell));
  }

  only_behind : (call : Call) → OnlyCommit call (Breaks SiteShort new × Rose (counts mid.site).shorts (counts new.site).shorts)
      → OnlyCommit call (Breaks SiteShort new × Rose (counts old.site).shorts (counts new.site).shorts)
  only_behind Commit broken = (broken.0, rose_behind tells state counts old mid new still same fell (λ c. c.shorts) fell.shorts broken.1)
  only_behind Rollback broken = broken
  only_behind Begin broken = broken
  only_behind (Get table key) broken = broken
  only_behind (Hold table key) broken = broken
  only_behind (Fetch ticket) broken = broken
  only_behind (Find table tag) broken = broken
  only_behind (Scan table) broken = broken
  only_behind (Insert table key tag body) broken = broken
  only_behind (Update table key tag body) broken = broken
  only_behind (Delete table key) broken = broken

  unless_behind : (call : Call) → UnlessEnd call (Rose (counts mid.site).shorts (counts new.site).shorts) → UnlessEnd call (Rose (counts old.site).shorts (counts new.site).shorts)
  unless_behind Commit rose = rose_behind tells state counts old mid new still same fell (λ c. c.shorts) fell.shorts rose
  unless_behind Rollback rose = rose_behind tells state counts old mid new still same fell (λ c. c.shorts) fell.shorts rose
  unless_behind Begin rose = rose
  unless_behind (Get table key) rose = rose
  unless_behind (Hold table key) rose = rose
  unless_behind (Fetch ticket) rose = rose
  unless_behind (Find table tag) rose = rose
  unless_behind (Scan table) rose = rose
  unless_behind (Insert table key tag body) rose = rose
  unless_behind (Update table key tag body) rose = rose
  unless_behind (Delete table key) rose = rose

  leaves_behind : (error : CoreError) → Leaves tells state counts call mid new error → Leaves tells state counts call old new error
  leaves_behind OutOfMemory (inl before) = inl (before_behind tells state counts old mid new still same fell before)
  leaves_behind OutOfMemory (inr broken) = inr (only_behind call broken)
  leaves_behind (FaultOf fault) leaves = fault_behind tells state counts old mid new still same fell fault leaves
  leaves_behind (LogFull n) before = before_behind tells state counts old mid new still same fell before
  leaves_behind (Damaged file place) before = before_behind tells state counts old mid new still same fell before
  leaves_behind (Broken kept) before = before_behind tells state counts old mid new still same fell before

  cause_behind : (error : CoreError) → HasCallCause counts call mid new error → HasCallCause counts call old new error
  cause_behind OutOfMemory cause = unless_behind call cause
  cause_behind (FaultOf fault) cause = (cause.0, rose_behind tells state counts old mid new still same fell (λ c. c.faults fault) (fell.faults fault) cause.1)
  cause_behind (LogFull n) cause = (cause.0 ∙ frames tells state counts old mid new still same fell, cause.1)
  cause_behind (Damaged file place) cause = tt
  cause_behind (Broken kept) cause = sym still.error ∙ cause

  refused_behind : (result : Result Reply CoreError) → IfErr result (Refuses tells state counts call mid new) → IfErr result (Refuses tells state counts call old new)
  refused_behind (Ok reply) refuses = tt
  refused_behind (Err error) refuses = record { leaves = leaves_behind error refuses.leaves; cause = cause_behind error refuses.cause }

  full_behind : (m : Machine) (result : Result Reply CoreError) → IfErr result (FindsFull session call m mid) → IfErr result (FindsFull session call m old)
  full_behind m (Ok reply) full = tt
  full_behind m (Err error) full = λ n is. let found = full n is in (found.0, found.1 ∙ frames tells state counts old mid new still same fell, found.2)

  pub does_behind : (Before : (m : Machine) → WorksFor state old m → Type 0) (Behind : (m : Machine) → WorksFor state mid m → Type 0) (result : Result Reply CoreError)
      → ((t : tells) (m : Machine) (works : WorksFor state old m) → Before m works → Behind m (later_works tells state counts old mid new still same fell t m works))
      → Does tells state counts session call mid new Behind result → Does tells state counts session call old new Before result
  does_behind Before Behind result then does = record {
    answered = λ t m works holds. answers_behind m result (does.answered t m (later_works tells state counts old mid new still same fell t m works) (then t m works holds));
    moments = λ t m works holds.
        subst (λ (s : State). EachMoment (StandsBetween (acked m) (commits (state_after m session call)) (state_after m session call) s.now) s (state new.site)) (still.same t)
        (does.moments t m (later_works tells state counts old mid new still same fell t m works) (then t m works holds));
    others = λ t m works.
        subst (λ (s : State). EachMoment (LeavesOthers s.now) s (state new.site)) (still.same t) (does.others t m (later_works tells state counts old mid new still same fell t m works));
    refused = refused_behind result does.refused;
    full = λ t m works holds. full_behind m result (does.full t m (later_works tells state counts old mid new still same fell t m works) (then t m works holds));
    sound = does.sound;
    steady = does.steady;
    well = does.well;
    none_fell = then_none_fell fell does.none_fell;
  }

-- ---- a step of the sweeper

module _ {W : Type 0} (tells : Type 0) (state : W → State) (counts : W → Counts) (old mid new : Kept W)
    (still : Still tells state old mid) (same : mid.active ≡ old.active) (fell : NoneFell (counts old.site) (counts mid.site)) where
  sweep_answers : (m : Machine) (result : Result Reply CoreError) → IfOk result (AnswersSweep state m mid new) → IfOk result (AnswersSweep state m old new)
  sweep_answers m (Err error) answers = tt
  sweep_answers m (Ok reply) answers = record {
    reply_is = answers.reply_is;
    works = answers.works;
    frames = answers.frames ∙ ap (λ (n : ℕ). n + sweep_frames m) (frames tells state counts old mid new still same fell);
    durable = answers.durable ∙ ap (λ (l : Log). l.durable) still.log;
    room = λ full. answers.room (omega (arith, full, frames tells state counts old mid new still same fell));
  }

  sweep_leaves : (error : CoreError) → LeavesSweep tells state mid new error → LeavesSweep tells state old new error
  sweep_leaves OutOfMemory before = before_behind tells state counts old mid new still same fell before
  sweep_leaves (FaultOf fault) leaves = fault_behind tells state counts old mid new still same fell fault leaves
  sweep_leaves (LogFull n) before = before_behind tells state counts old mid new still same fell before
  sweep_leaves (Damaged file place) before = before_behind tells state counts old mid new still same fell before
  sweep_leaves (Broken kept) before = before_behind tells state counts old mid new still same fell before

  sweep_cause : (error : CoreError) → HasSweepCause counts mid new error → HasSweepCause counts old new error
  sweep_cause OutOfMemory cause = tt
  sweep_cause (FaultOf fault) cause = (cause.0, rose_behind tells state counts old mid new still same fell (λ c. c.faults fault) (fell.faults fault) cause.1)
  sweep_cause (LogFull n) cause = (cause.0 ∙ frames tells state counts old mid new still same fell, cause.1)
  sweep_cause (Damaged file place) cause = tt
  sweep_cause (Broken kept) cause = sym still.error ∙ cause

  sweep_refused : (result : Result Reply CoreError) → IfErr result (RefusesSweep tells state counts mid new) → IfErr result (RefusesSweep tells state counts old new)
  sweep_refused (Ok reply) refuses = tt
  sweep_refused (Err error) refuses = record { leaves = sweep_leaves error refuses.leaves; cause = sweep_cause error refuses.cause }

  sweep_full : (m : Machine) (result : Result Reply CoreError) → IfErr result (FindsFullSweep m mid) → IfErr result (FindsFullSweep m old)
  sweep_full m (Ok reply) full = tt
  sweep_full m (Err error) full = λ n is. let found = full n is in (found.0, found.1 ∙ frames tells state counts old mid new still same fell, found.2)

  pub sweeps_behind : (Before : (m : Machine) → WorksFor state old m → Type 0) (Behind : (m : Machine) → WorksFor state mid m → Type 0) (result : Result Reply CoreError)
      → ((t : tells) (m : Machine) (works : WorksFor state old m) → Before m works → Behind m (later_works tells state counts old mid new still same fell t m works))
      → Sweeps tells state counts mid new Behind result → Sweeps tells state counts old new Before result
  sweeps_behind Before Behind result then sweeps =
      let later : tells → (m : Machine) → WorksFor state old m → WorksFor state mid m = λ t m works. later_works tells state counts old mid new still same fell t m works in
      record {
        answered = λ t m works holds. sweep_answers m result (sweeps.answered t m (later t m works) (then t m works holds));
        moments = λ t m works holds.
            subst (λ (s : State). EachMoment (StandsBetween (acked m) (commits (swept_state m)) (swept_state m) s.now) s (state new.site)) (still.same t)
            (sweeps.moments t m (later t m works) (then t m works holds));
        others = λ t m works.
            subst (λ (s : State). EachMoment (LeavesOthers s.now) s (state new.site)) (still.same t) (sweeps.others t m (later t m works));
        refused = sweep_refused result sweeps.refused;
        full = λ t m works holds. sweep_full m result (sweeps.full t m (later t m works) (then t m works holds));
        sound = λ t m works. sweeps.sound t m (later t m works);
        steady = sweeps.steady;
        well = sweeps.well;
        none_fell = then_none_fell fell sweeps.none_fell;
      }
