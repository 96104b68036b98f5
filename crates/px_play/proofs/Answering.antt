-- What a step and the telling of its answer leave.
use Rattle.std.proofs.Common.{◌≡◌, ◌≢◌, ◌⊎◌, ℕ, ◌+◌, ◌≤◌, ◌==◌, Bool, true, false, cond, List, [], ◌∷◌, ◌++◌, length, take, Option, Some, None, Result, Ok, Err, refl, sym, ap, subst, ◌∙◌, inl, inr, arith}
use Rattle.std.specs.Prelude.{slice_get}
use Rattle.std.specs.Result.{IfErr, OnOk}
use Rattle.std.proofs.lemmas.Bool.{cases_lt}
use Rattle.std.proofs.lemmas.List.{nil_from_length}
use Rattle.px_site.specs.declared.error.Fault.{Fault}
use Rattle.px_site.specs.declared.error.Fault.TheVariants.{Read, Tell, Write}
use Rattle.px_site.specs.State.{State, Moment, EachMoment, telling, told}
use Rattle.px_site.specs.Cause.{Counts, NoneFell, Rose}
use Rattle.px_site.proofs.Moments.{same_moment, then_moments, weaker_moments}
use Rattle.px_site.specs.declared.error.SiteError.TheVariants.{OutOfMemory as SiteShort, Fault as SiteFault}
use Rattle.px_site.specs.declared.name.FileName.{FileName}
use Rattle.px_model.specs.declared.machine.Flat.{Flat}
use Rattle.px_model.specs.declared.machine.Open.{Open}
use Rattle.px_model.specs.declared.write.Write.{Write as RowWrite}
use Rattle.px_model.specs.Machine.{Machine, flat}
use Rattle.px_calls.specs.declared.call.Call.{Call}
use Rattle.px_calls.specs.declared.call.Call.TheVariants.{Get, Hold, Find, Scan, Insert, Update, Delete, Commit, Rollback}
use Rattle.px_calls.specs.declared.reply.Reply.{Reply}
use Rattle.px_calls.specs.declared.status.Status.{Status}
use Rattle.px_calls.specs.declared.status.Status.TheVariants.{Damaged, DiskFault, OutputFault, OutOfMemory, LogFull}
use Rattle.px_calls.specs.Steps.{open_of, is_refusal, reply_of, state_after}
use Rattle.px_calls.specs.Histories.{Step, by, sweep, step_reply}
use Rattle.px_calls.specs.Texts.{reply_text}
use Rattle.px_told.specs.declared.change.Change.{Change}
use Rattle.px_log.specs.Log.{most_frames}
use Rattle.px_logged.specs.Logged.{put_of, end_of, logged_when_done, logged}
use Rattle.px_engine.specs.Counts.{census_of, marks_at}
use Rattle.px_engine.specs.Engine.{Engine, durable_with}
use Rattle.px_engine.specs.Frames.{frames_of_due, step_frames, sweep_frames, syncs}
use Rattle.px_engine.specs.Texts.{stat_text}
use Rattle.px_engine.specs.declared.census.Census.{Census}
use Rattle.px_engine.specs.declared.census.Marks.{Marks}
use Rattle.px_engine.specs.Requests.{Request, Ask, Stat, after_request, answer_text}
use Rattle.px_cell_standing.specs.Images.{StandsBetween}
use Rattle.px_standing.specs.Images.{LeavesOthers}
use Rattle.px_standing.proofs.Moments.{last_moment}
use Rattle.px_core.specs.declared.error.CoreError.{CoreError}
use Rattle.px_core.specs.declared.error.CoreError.TheVariants.{OutOfMemory as CoreShort, Fault as FaultOf, LogFull as FullAt, Damaged as DamagedAt, Broken}
use Rattle.px_core.specs.Core.{MayMeet, OnlyCommit, durable_of, frames_of}
use Rattle.px_core.specs.declared.state.Kept.{Kept}
use Rattle.px_core.specs.Errors.{IsPassing, status_of}
use Rattle.px_core.specs.Working.{Answers, AsBefore, FindsFull, Leaves, Refuses, StandsWithin, WorksFor, durable_after}
use Rattle.px_core.specs.Sweeping.{AnswersSweep, FindsFullSweep, LeavesSweep, RefusesSweep, StandsWithinSweep}
use Rattle.px_play.specs.Causes.{HasPlayCause, IsUndamaged}
use Rattle.px_play.specs.Engine.{IsEngine}
use Rattle.px_play.specs.Serving.{HasStepEnd, Replied, ServesRight, StepStands, idle_where_damaged}
use Rattle.px_play.specs.Turns.{HasAnswerEnd, HasTellEnd, IsCommit, TellsText, WasMade, TurnsRight, KeepsWithin}
use Rattle.px_play.proofs.Stays.{stands_whole}
use Rattle.px_play.proofs.Acking.{answer_moments, goes, spoke_moments, step_moments}

-- ---- the log has room

put_few : (m : Machine) (slot : Option Open) (write : RowWrite) → length (put_of m slot write) ≤ 1
put_few m None write = omega arith
put_few m (Some x) write = omega arith

end_few : (m : Machine) (slot : Option Open) (change : ℕ → Change) → length (end_of m slot change) ≤ 1
end_few m None change = omega arith
end_few m (Some x) change = by_writes (length x.writes == 0)
  where
    by_writes : (b : Bool) → length (cond b [] (change (m.base + x.number) ∷ [])) ≤ 1
    by_writes true = omega arith
    by_writes false = omega arith

done_few : (m : Machine) (slot : Option Open) (call : Call) → length (logged_when_done m slot call) ≤ 1
done_few m slot (Insert table key tag body) = put_few m slot _
done_few m slot (Update table key tag body) = put_few m slot _
done_few m slot (Delete table key) = put_few m slot _
done_few m slot Commit = end_few m slot _
done_few m slot Rollback = end_few m slot _
done_few m slot _ = omega arith

-- a call adds one frame at most
logged_few : (m : Machine) (session : ℕ) (call : Call) → length (logged m session call) ≤ 1
unfolding logged
logged_few m session call = unless_refused (is_refusal (reply_of m session call)) (logged_when_done m (open_of m session) call) (done_few m (open_of m session) call)
  where
    unless_refused : (refused : Bool) (changes : List Change) → length changes ≤ 1 → length (cond refused [] changes) ≤ 1
    unless_refused true changes few = omega arith
    unless_refused false changes few = few

-- no frame is written that has no number
numbered : (frames added : ℕ) → added ≤ 1 → (most_frames ≤ frames → added ≡ 0) → (frames + added ≡ frames) ⊎ (frames + added ≤ most_frames)
numbered frames added few room = elim (cases_lt frames most_frames) as (λ _. (frames + added ≡ frames) ⊎ (frames + added ≤ most_frames)) [
  | inl below ↦ inr (omega (arith, below, few))
  | inr full ↦ inl (omega (arith, room full))
]

-- a core that works for a machine is an engine
abbrev pub engine_at : {W : Type 0} → Kept W → Machine → Engine
engine_at core m = record { machine = m; frames = frames_of core; durable = durable_of core }

pub engine_is : {W : Type 0} {state : W → State} {core : Kept W} {m : Machine} → WorksFor state core m → IsEngine state core (engine_at core m)
engine_is works = record { works = works; frames = refl; durable = refl }

-- ---- a call was answered

-- what a step makes durable, by what the core had before
durable_alike : {W : Type 0} {state : W → State} {old : Kept W} (e : Engine) (step : Step) → IsEngine state old e → durable_after e.machine step old ≡ durable_with e step
durable_alike {W} {state} {old} e step engine =
    ap (λ (f : ℕ). cond (syncs e.machine step) (f + step_frames e.machine step) (durable_of old)) engine.frames
    ∙ ap (λ (d : ℕ). cond (syncs e.machine step) (e.frames + step_frames e.machine step) d) engine.durable

-- what was told is as it was
told_still : {least most : ℕ} {m : Machine} {a b : State} → EachMoment (StandsBetween least most m a.now) a b → b.now.told ≡ a.now.told
told_still {least} {most} {m} {a} {b} moments =
    elim (last_moment moments) [
      | inl same ↦ ap (λ (moment : Moment). moment.told) same
      | inr stands ↦ stands.told
    ]

pub call_replied : {W : Type 0} {state : W → State} (session : ℕ) (call : Call) (e : Engine) {old new : Kept W} {reply : Reply} → IsEngine state old e → StandsWithin state session call e.machine old new
    → Answers state session call e.machine old new reply → Replied state e (by session call) old new reply
call_replied {W} {state} session call e {old} {new} {reply} engine stands answers =
    let frames : frames_of new ≡ e.frames + length (logged e.machine session call) = omega (arith, answers.frames, engine.frames) in
    let durable : durable_of new ≡ durable_with e (by session call) = answers.durable ∙ durable_alike e (by session call) engine in
    record {
      made = record {
        engine = record { works = answers.works; frames = frames; durable = durable };
        numbered = numbered e.frames (length (logged e.machine session call)) (logged_few e.machine session call) (λ full. ap length (answers.room (omega (arith, full, engine.frames))));
      };
      reply_is = answers.reply_is;
      told = told_still stands;
    }

-- ---- the core gave up a call

no_error : {A : Type 0} (kept : Option A) (error : A) → kept ≡ None → kept ≡ Some error → ⊥
no_error kept error none some = cc (sym none ∙ some)

still : {W : Type 0} {tells : Type 0} {state : W → State} {e : Engine} {old new : Kept W} → tells → AsBefore tells state old new → IsEngine state old e → IsEngine state new e
still {W} {tells} {state} {e} told before engine = record { works = before.works told e.machine engine.works; frames = before.frames ∙ engine.frames; durable = before.durable ∙ engine.durable }

only_commit : {P : Type 0} (call : Call) → OnlyCommit call P → (call ≡ Commit) × P
only_commit Commit p = (refl, p)
only_commit _ none = absurd none

-- want of memory
left_short : {W : Type 0} {tells : Type 0} {state : W → State} (counts : W → Counts) (session : ℕ) (call : Call) {e : Engine} {old new : Kept W} → tells → Leaves tells state counts call old new CoreShort → IsEngine state old e
    → IsEngine state new e ⊎ (WasMade state e (Ask (by session call)) new ⊎ (IsCommit (Ask (by session call)) × Rose (counts old.site).shorts (counts new.site).shorts))
left_short counts session call told (inl before) engine = inl (still told before engine)
left_short counts session call told (inr only) engine = let one = only_commit call only in inr (inr ((session, ap (λ (c : Call). Ask (by session c)) one.0), one.1.1))

some_frames : (changes : List Change) → changes ≢ [] → length changes ≢ 0
some_frames changes some none = some (nil_from_length changes none)

pub call_refused : {W : Type 0} {tells : Type 0} {state : W → State} {counts : W → Counts} (session : ℕ) (call : Call) (e : Engine) {old new : Kept W} (error : CoreError) → tells → IsEngine state old e → StandsWithin state session call e.machine old new
    → Refuses tells state counts call old new error → FindsFull session call e.machine old error → ServesRight state counts e (by session call) old new (Err (status_of error))
call_refused {W} {tells} {state} {counts} session call e CoreShort told engine stands refuses full = record { told = told_still stands; left = left_short counts session call told refuses.leaves engine }
call_refused session call e (FaultOf fault) told engine stands refuses full = told_still stands
call_refused session call e (FullAt n) told engine stands refuses full =
    let is = full n refl in
    record {
      still = still told refuses.leaves engine;
      told = told_still stands;
      writes = some_frames (logged e.machine session call) is.0;
      number = is.1 ∙ engine.frames;
      none_left = is.2;
    }
call_refused session call e (DamagedAt file place) told engine stands refuses full = told_still stands
call_refused session call e (Broken SiteShort) told engine stands refuses full = record { told = told_still stands; left = inl (still told refuses.leaves engine) }
call_refused session call e (Broken (SiteFault fault)) told engine stands refuses full = told_still stands

pub core_ends : (error : CoreError) → HasStepEnd (status_of error)
core_ends CoreShort = tt
core_ends (FaultOf fault) = tt
core_ends (FullAt n) = tt
core_ends (DamagedAt file place) = tt
core_ends (Broken SiteShort) = tt
core_ends (Broken (SiteFault fault)) = tt

-- ---- a sweep

-- why a sweep ends a run, and that the core keeps no error where it doesn't
pub record SweepEnds {W : Type 0} (old new : Counts) (core : Kept W) (result : Result Reply Status) : Type 0 where
  pub ends : IfErr result HasStepEnd
  pub sound : IfErr result IsUndamaged
  pub cause : IfErr result (HasPlayCause old new 0 0)
  pub whole : OnOk result (core.error ≡ None)

-- it has one frame at most
sweep_few : (m : Machine) → sweep_frames m ≤ 1
unfolding sweep_frames
sweep_few m = by_next (slice_get (flat m) m.swept)
  where
    by_due : (due : Bool) → cond due 1 0 ≤ 1
    by_due true = omega arith
    by_due false = omega arith

    by_next : (next : Option Flat) → frames_of_due m next ≤ 1
    by_next None = omega arith
    by_next (Some w) = by_due _

pub sweep_replied : {W : Type 0} {state : W → State} (e : Engine) {old new : Kept W} {reply : Reply} → IsEngine state old e → StandsWithinSweep state e.machine old new → AnswersSweep state e.machine old new reply
    → Replied state e sweep old new reply
sweep_replied {W} {state} e {old} {new} {reply} engine stands answers = record {
  made = record {
    engine = record { works = answers.works; frames = omega (arith, answers.frames, engine.frames); durable = answers.durable ∙ engine.durable };
    numbered = numbered e.frames (sweep_frames e.machine) (sweep_few e.machine) (λ full. answers.room (omega (arith, full, engine.frames)));
  };
  reply_is = answers.reply_is;
  told = told_still stands;
}

pub sweep_refused : {W : Type 0} {tells : Type 0} {state : W → State} {counts : W → Counts} (e : Engine) {old new : Kept W} (error : CoreError) → tells → IsEngine state old e → StandsWithinSweep state e.machine old new
    → RefusesSweep tells state counts old new error → FindsFullSweep e.machine old error → IsPassing error → ServesRight state counts e sweep old new (idle_where_damaged error)
sweep_refused {W} {tells} {state} {counts} e CoreShort told engine stands refuses full passing = record { told = told_still stands; left = inl (still told refuses.leaves engine) }
sweep_refused e (FaultOf fault) told engine stands refuses full passing = told_still stands
sweep_refused e (FullAt n) told engine stands refuses full passing =
    let is = full n refl in
    record {
      still = still told refuses.leaves engine;
      told = told_still stands;
      writes = is.0;
      number = is.1 ∙ engine.frames;
      none_left = is.2;
    }
sweep_refused e (DamagedAt file place) told engine stands refuses full passing = absurd passing
sweep_refused e (Broken SiteShort) told engine stands refuses full passing = record { told = told_still stands; left = inl (still told refuses.leaves engine) }
sweep_refused e (Broken (SiteFault fault)) told engine stands refuses full passing = told_still stands

no_sweep_tell : (fault : Fault) → (fault ≡ Read) ⊎ (fault ≡ Write) → fault ≢ Tell
no_sweep_tell fault (inl read) told = cc (sym read ∙ told)
no_sweep_tell fault (inr write) told = cc (sym write ∙ told)

-- what is left of a sweep's error: its cause, and a whole core where the sweeper is idle
pub sweep_ended : {W : Type 0} {tells : Type 0} {state : W → State} {counts : W → Counts} {old new : Kept W} (error : CoreError) → old.error ≡ None → RefusesSweep tells state counts old new error
    → SweepEnds (counts old.site) (counts new.site) new (idle_where_damaged error)
sweep_ended CoreShort whole refuses = record { ends = tt; sound = tt; cause = tt; whole = tt }
sweep_ended (FaultOf fault) whole refuses = record { ends = tt; sound = tt; cause = (no_sweep_tell fault refuses.cause.0, refuses.cause.1); whole = tt }
sweep_ended (FullAt n) whole refuses = record { ends = tt; sound = tt; cause = refuses.cause.1; whole = tt }
sweep_ended (DamagedAt file place) whole refuses = record { ends = tt; sound = tt; cause = tt; whole = refuses.leaves.error ∙ whole }
sweep_ended (Broken SiteShort) whole refuses = record { ends = tt; sound = tt; cause = tt; whole = tt }
sweep_ended {W} {tells} {state} {counts} {old} (Broken (SiteFault fault)) whole refuses = absurd (no_error old.error (SiteFault fault) whole refuses.cause)

-- ---- the numbers of an engine

-- they are those of its machine and its log
pub numbers_are : {W : Type 0} {state : W → State} {core : Kept W} (e : Engine) (census : Census) (marks : Marks) → IsEngine state core e → census ≡ census_of e.machine → marks ≡ marks_at (frames_of core) (durable_of core)
    → stat_text census marks ≡ answer_text e Stat
numbers_are {W} {state} {core} e census marks engine counted marked =
    ap (λ (c : Census). stat_text c marks) counted ∙ ap (λ (k : Marks). stat_text (census_of e.machine) k) marked
    ∙ ap (λ (f : ℕ). stat_text (census_of e.machine) (marks_at f (durable_of core))) engine.frames
    ∙ ap (λ (d : ℕ). stat_text (census_of e.machine) (marks_at e.frames d)) engine.durable

-- ---- a step's reply is told

-- the core works for a machine still, wherever it did before its answer was told
abbrev pub WorksOn : {W : Type 0} → (W → State) → (mid new : Kept W) → Type 0
WorksOn state mid new = (m : Machine) → WorksFor state mid m → WorksFor state new m

engine_on : {W : Type 0} {state : W → State} {e : Engine} {mid new : Kept W} → IsEngine state mid e → WorksOn state mid new → new ≡ record mid { site = new.site } → IsEngine state new e
engine_on {W} {state} {e} engine on rest = record { works = on e.machine engine.works; frames = ap frames_of rest ∙ engine.frames; durable = ap durable_of rest ∙ engine.durable }

made_on : {W : Type 0} {state : W → State} {e : Engine} {request : Request} {mid new : Kept W} → WasMade state e request mid → WorksOn state mid new → new ≡ record mid { site = new.site } → WasMade state e request new
made_on made on rest = record { engine = engine_on made.engine on rest; numbered = made.numbered }

-- what was asked for was done, and its answer is told
told_right : {W : Type 0} (state : W → State) (counts : W → Counts) (e : Engine) (request : Request) (old mid new : Kept W) → WasMade state e request new → (state mid.site).now.told ≡ (state old.site).now.told → (result : Result (Unit {0}) Status)
    → TellsText (answer_text e request) (state mid.site) (state new.site) result → IfErr result (HasTellEnd (counts mid.site) (counts new.site)) → TurnsRight state counts e request old new result
told_right state counts e request old mid new made before (Ok done) spoken ends = record {
  made = made;
  told = ap (λ (s : State). s.now.told) spoken ∙ ap (λ (b : List ℕ). b ++ answer_text e request) before;
}
told_right state counts e request old mid new made before (Err OutputFault) spoken ends = (
  spoken.0,
  record {
    made = made;
    told = ap (λ (s : State). s.now.told) spoken.1 ∙ ap (λ (b : List ℕ). b ++ take spoken.0 (answer_text e request)) before;
  },
)
told_right state counts e request old mid new made before (Err (LogFull n)) same ends = absurd ends
told_right state counts e request old mid new made before (Err OutOfMemory) same ends = record { told = ap (λ (s : State). s.now.told) same ∙ before; left = inr (inl made) }
told_right state counts e request old mid new made before (Err _) same ends = absurd ends

-- the reply's text is the machine's
step_text : {W : Type 0} {state : W → State} {e : Engine} {step : Step} {old mid : Kept W} {reply : Reply} (a b : State) (result : Result (Unit {0}) Status) → Replied state e step old mid reply → TellsText (reply_text reply) a b result
    → TellsText (answer_text e (Ask step)) a b result
step_text {W} {state} {e} {step} {old} {mid} {reply} a b result replied tells = subst (λ (r : Reply). TellsText (reply_text r) a b result) replied.reply_is tells

pub replied_right : {W : Type 0} {state : W → State} (counts : W → Counts) {e : Engine} {step : Step} {old mid : Kept W} (new : Kept W) {reply : Reply} → Replied state e step old mid reply → WorksOn state mid new → new ≡ record mid { site = new.site }
    → (result : Result (Unit {0}) Status) → TellsText (reply_text reply) (state mid.site) (state new.site) result → IfErr result (HasTellEnd (counts mid.site) (counts new.site)) → TurnsRight state counts e (Ask step) old new result
replied_right {W} {state} counts {e} {step} {old} {mid} new replied on rest result tells ends =
    told_right state counts e (Ask step) old mid new (made_on replied.made on rest) replied.told result (step_text (state mid.site) (state new.site) result replied tells) ends

pub replied_moments : {W : Type 0} {state : W → State} {e : Engine} {step : Step} {old mid : Kept W} (new : Kept W) {reply : Reply} → Replied state e step old mid reply → StepStands state e.machine step old mid
    → (result : Result (Unit {0}) Status) → TellsText (reply_text reply) (state mid.site) (state new.site) result → KeepsWithin e (Ask step) (state old.site) (state new.site)
replied_moments {W} {state} {e} {step} {old} {mid} new replied stands result tells = λ told acks requests.
    let g = goes e (Ask step) requests in
    then_moments (step_moments g acks stands) (answer_moments g acks replied.told (stands_whole replied.made.engine.works) result (step_text (state mid.site) (state new.site) result replied tells))

-- a step that was given up
pub refused_moments : {W : Type 0} (state : W → State) (e : Engine) (step : Step) (old new : Kept W) → StepStands state e.machine step old new → KeepsWithin e (Ask step) (state old.site) (state new.site)
refused_moments state e step old new stands = λ told acks requests. step_moments (goes e (Ask step) requests) acks stands

pub step_ends : (status : Status) → HasStepEnd status → HasAnswerEnd status
step_ends (Damaged file place) ends = tt
step_ends (DiskFault fault) ends = tt
step_ends (LogFull n) ends = tt
step_ends OutOfMemory ends = tt
step_ends _ ends = absurd ends

-- ---- the numbers are told

pub numbers_right : {W : Type 0} {state : W → State} (counts : W → Counts) {e : Engine} {old : Kept W} (new : Kept W) → IsEngine state old e → WorksOn state old new → new ≡ record old { site = new.site }
    → (result : Result (Unit {0}) Status) → TellsText (answer_text e Stat) (state old.site) (state new.site) result → IfErr result (HasTellEnd (counts old.site) (counts new.site)) → TurnsRight state counts e Stat old new result
numbers_right {W} {state} counts {e} {old} new engine on rest result tells ends =
    told_right state counts e Stat old old new (record { engine = engine_on engine on rest; numbered = inl refl }) refl result tells ends

pub numbers_moments : {W : Type 0} {state : W → State} {e : Engine} {old : Kept W} (new : Kept W) → IsEngine state old e → (result : Result (Unit {0}) Status) → TellsText (answer_text e Stat) (state old.site) (state new.site) result
    → KeepsWithin e Stat (state old.site) (state new.site)
numbers_moments {W} {state} {e} {old} new engine result tells = λ told acks requests. answer_moments (goes e Stat requests) acks refl (stands_whole engine.works) result tells

-- ---- no file but the log's is changed

pub others_on : {a b c : State} → EachMoment (LeavesOthers a.now) a b → EachMoment (LeavesOthers b.now) b c → EachMoment (LeavesOthers a.now) a c
others_on {a} {b} {c} first later =
    then_moments first (weaker_moments (λ moment leaves. λ (name : FileName) other. leaves name other ∙ by_last (last_moment first) name other) later)
  where
    by_last : (b.now ≡ a.now) ⊎ LeavesOthers a.now b.now → LeavesOthers a.now b.now
    by_last (inl same) = λ name other. ap (λ (m : Moment). m.files name) same
    by_last (inr leaves) = leaves

pub told_others : (text : List ℕ) {a b : State} (result : Result (Unit {0}) Status) → TellsText text a b result → EachMoment (LeavesOthers a.now) a b
told_others text {a} {b} (Ok done) e = spoke_moments text text e (λ name other. refl) (λ name other. refl)
told_others text {a} {b} (Err OutputFault) e = spoke_moments text (take e.0 text) e.1 (λ name other. refl) (λ name other. refl)
told_others text (Err _) e = same_moment e

-- ---- why

no_tell : (call : Call) → MayMeet call Tell → ⊥
no_tell Commit (inl is) = cc is
no_tell Commit (inr is) = cc is
no_tell Rollback is = cc is
no_tell (Insert table key tag body) (inl is) = cc is
no_tell (Insert table key tag body) (inr is) = cc is
no_tell (Update table key tag body) (inl is) = cc is
no_tell (Update table key tag body) (inr is) = cc is
no_tell (Delete table key) (inl is) = cc is
no_tell (Delete table key) (inr is) = cc is
no_tell (Get table key) is = cc is
no_tell (Hold table key) is = cc is
no_tell (Find table tag) is = cc is
no_tell (Scan table) is = cc is
no_tell _ none = absurd none

pub refused_cause : {W : Type 0} {tells : Type 0} {state : W → State} {counts : W → Counts} {call : Call} {old new : Kept W} (error : CoreError) → old.error ≡ None → Refuses tells state counts call old new error
    → HasPlayCause (counts old.site) (counts new.site) 0 0 (status_of error)
refused_cause CoreShort whole refuses = tt
refused_cause {W} {tells} {state} {counts} {call} (FaultOf fault) whole refuses = (λ (is : fault ≡ Tell). no_tell call (subst (MayMeet call) is refuses.cause.0), refuses.cause.1)
refused_cause (FullAt n) whole refuses = refuses.cause.1
refused_cause (DamagedAt file place) whole refuses = tt
refused_cause (Broken SiteShort) whole refuses = tt
refused_cause {W} {tells} {state} {counts} {call} {old} (Broken (SiteFault fault)) whole refuses = absurd (no_error old.error (SiteFault fault) whole refuses.cause)

pub refused_sound : (error : CoreError) → IsPassing error → IsUndamaged (status_of error)
refused_sound CoreShort passing = tt
refused_sound (FaultOf fault) passing = tt
refused_sound (FullAt n) passing = tt
refused_sound (DamagedAt file place) passing = passing
refused_sound (Broken SiteShort) passing = tt
refused_sound (Broken (SiteFault fault)) passing = tt

pub rose_on : (before mid after : ℕ) → before ≤ mid → Rose mid after → Rose before after
rose_on before mid after rises rose = omega (arith, rises, rose)

pub tell_ends : (mid new : Counts) (result : Result (Unit {0}) Status) → IfErr result (HasTellEnd mid new) → IfErr result HasAnswerEnd
tell_ends mid new (Ok done) ends = tt
tell_ends mid new (Err OutputFault) ends = tt
tell_ends mid new (Err OutOfMemory) ends = tt
tell_ends mid new (Err _) ends = absurd ends

pub tell_sound : (mid new : Counts) (result : Result (Unit {0}) Status) → IfErr result (HasTellEnd mid new) → IfErr result IsUndamaged
tell_sound mid new (Ok done) ends = tt
tell_sound mid new (Err (Damaged file place)) ends = ends
tell_sound mid new (Err _) ends = tt

pub tell_cause : (old mid new : Counts) (result : Result (Unit {0}) Status) → NoneFell old mid → IfErr result (HasTellEnd mid new) → IfErr result (HasPlayCause old new 0 0)
tell_cause old mid new (Ok done) fell ends = tt
tell_cause old mid new (Err OutputFault) fell ends = rose_on old.tell_faults mid.tell_faults new.tell_faults fell.tell_faults ends
tell_cause old mid new (Err OutOfMemory) fell ends = tt
tell_cause old mid new (Err _) fell ends = absurd ends
