-- A frame more on the log of a core, and one that couldn't be appended.
use Rattle.std.proofs.Common.{◌≡◌, ◌≢◌, ℕ, ◌+◌, ◌≤◌, ◌<◌, Bool, cond, true, false, List, [], ◌∷◌, length, Option, Some, None, Ok, Err, refl, sym, ap, subst, ◌∙◌, inl, inr, arith}
use Rattle.std.specs.Prelude.{IsErrOf, nat_lt, unwrap_or}
use Rattle.std.proofs.lemmas.Bool.{cases_Bool, ltb-false, ltb-true}
use Rattle.px_active.specs.Active.{AreStored, IsActiveOf}
use Rattle.px_appending.specs.Appending.{GoesOn, LastsOn, MayGoOn}
use Rattle.px_log.proofs.Touching.{last_moment}
use Rattle.px_log.specs.Touching.{TouchesLog}
use Rattle.px_calls.specs.Histories.{by}
use Rattle.px_calls.specs.declared.call.Call.{Call}
use Rattle.px_calls.specs.declared.reply.Reply.{Reply}
use Rattle.px_calls.specs.Steps.{reply_of, state_after}
use Rattle.px_cell_laws.specs.Locating.{AreWrittenAt}
use Rattle.px_cell_standing.proofs.Going.{empty_still, follow_names}
use Rattle.px_cell_standing.specs.Found.{CanBeFound}
use Rattle.px_cell_standing.specs.Naming.{IsOneVersion}
use Rattle.px_engine.specs.Frames.{syncs}
use Rattle.px_held.proofs.Serving.{anywhere}
use Rattle.px_held.specs.Serving.{HeldTables, Serves}
use Rattle.px_history.specs.Steps.{Step, after_step}
use Rattle.px_history.specs.Store.{Store}
use Rattle.px_history.specs.Written.{change_of, writer_of}
use Rattle.px_log.specs.Errors.{HasLogCause, IsFaultOf, LeavesUntouched, OnShortage}
use Rattle.px_log.specs.Log.{Log, full_at, most_frames}
use Rattle.px_log.specs.declared.error.LogError.{LogError}
use Rattle.px_log.specs.declared.error.LogError.TheVariants as logs
use Rattle.px_logged.proofs.Grown.{opening_stays}
use Rattle.px_logged.specs.Logged.{logged}
use Rattle.px_model.specs.declared.row.Row.{Row}
use Rattle.px_model.specs.Machine.{Machine, commits}
use Rattle.px_model.specs.Rows.{in_order}
use Rattle.px_reached.specs.Reachable.{Marks}
use Rattle.px_shown.specs.Parts.{no_parts}
use Rattle.px_site.proofs.Moments.{weaker_moments}
use Rattle.px_site.specs.Cause.{Counts, NoneFell, Rose}
use Rattle.px_site.specs.declared.error.Fault.{Fault}
use Rattle.px_site.specs.declared.error.Fault.TheVariants.{Write}
use Rattle.px_site.specs.declared.error.SiteError.TheVariants.{Fault as SiteFault}
use Rattle.px_site.specs.State.{EachMoment, State}
use Rattle.px_standing.specs.Images.{LeavesOthers, acked}
use Rattle.px_tidying.specs.Opening.{HasLife, HasStore}
use Rattle.px_working.proofs.Grown.{last_more}
use Rattle.px_working.specs.Follows.{Follows, last_store, with_step}
use Rattle.px_working.specs.Works.{Works}
use Rattle.px_core.specs.Core.{IsWell, MayMeet, UnlessEnd, durable_of, frames_of, opening_of}
use Rattle.px_core.specs.Errors.{IsPassing, kept_after, of_log}
use Rattle.px_core.specs.Serving.{Does}
use Rattle.px_core.specs.Working.{FindsFull, LeavesAtFault, Refuses, StandsWithin, WorksFor}
use Rattle.px_core.specs.declared.error.CoreError.TheVariants.{LogFull}
use Rattle.px_core.specs.declared.state.Kept.{Kept}
use Rattle.px_core.proofs.Crashing.{each_stands}
use Rattle.px_core.proofs.Still.{Still, before_still, same_stored}

-- ---- the log's room

none_some : {A : Type 0} (x : A) → None ≡ Some x → ⊥
none_some x e = cc e

pub full_is : (log : Log) (n : ℕ) → full_at log ≡ Some n → (n ≡ log.frames) × (most_frames ≤ n)
full_is log n full = elim (cases_Bool (nat_lt log.frames most_frames)) [
  | inl below ↦ absurd (none_some n (sym (ap (λ b. cond b None (Some log.frames)) below) ∙ full))
  | inr past ↦
      let same : log.frames ≡ n = ap (λ (o : Option ℕ). unwrap_or o 0) (sym (ap (λ b. cond b None (Some log.frames)) past) ∙ full) in
      let from : most_frames ≤ log.frames = ltb-false log.frames most_frames past in
      (sym same, omega (arith, from, same))
]

not_both : {A E : Type 0} (done : A) (error : E) → Ok done ≡ Err error → ⊥
not_both done error e = cc e

-- an append that was done had room
pub had_room : {A : Type 0} (log : Log) (done : A) → (full_at log ≡ Some log.frames → IsErrOf (Ok done) (logs.LogFull log.frames)) → log.frames < most_frames
had_room log done none = elim (cases_Bool (nat_lt log.frames most_frames)) [
  | inl below ↦ ltb-true log.frames most_frames below
  | inr past ↦ absurd (not_both done (logs.LogFull log.frames) (none (ap (λ (b : Bool). cond b None (Some log.frames)) past)))
]

-- ---- a step that follows

-- the step of the machine's call, by which its life goes on
abbrev pub FollowsBy : {W : Type 0} (state : W → State) (session : ℕ) (call : Call) (old : Kept W) (m : Machine) (works : WorksFor state old m) → Step → Type 0
FollowsBy state session call old m works step =
    Follows no_parts m works.life works.restart step (change_of works.restart.short (last_store works.life) step) (state_after m session call)

module _ {W : Type 0} (tells : Type 0) (state : W → State) (session : ℕ) (call : Call) (old new : Kept W) (step : Step) (t : tells) (m : Machine)
    (works : WorksFor state old m) (follows : FollowsBy state session call old m works step) where
  abbrev next : Machine
  next = state_after m session call

  may_go_on : MayGoOn no_parts (acked m) m next works.life works.restart works.marks step (opening_of state old)
  may_go_on = record { has = works.has; follows = follows }

  pub stands_on : LastsOn tells step (opening_of state old) (opening_of state new) → StandsWithin state session call m old new
  stands_on moments =
      each_stands (acked m) next works.restart (state old.site) (state new.site)
      (moments t no_parts (acked m) m next works.life works.restart works.marks may_go_on)

  pub life_on : GoesOn tells step (opening_of state old) (opening_of state new)
      → HasLife no_parts (acked m) next (with_step works.restart.short works.life step) works.restart works.marks (opening_of state new)
  life_on goes = goes t no_parts (acked m) m next works.life works.restart works.marks may_go_on

  pub works_with : (marks : Marks) → new.error ≡ None
      → HasLife no_parts (acked next) next (with_step works.restart.short works.life step) works.restart marks (opening_of state new)
      → Works no_parts next (with_step works.restart.short works.life step) works.restart
      → IsActiveOf next new.active → AreWrittenAt new.active.xacts (after_step (last_store works.life) step)
      → CanBeFound next (with_step works.restart.short works.life step) works.restart (state new.site).now → WorksFor state new next
  works_with marks whole has goes active written found = record {
    whole = whole;
    life = with_step works.restart.short works.life step;
    restart = works.restart;
    marks = marks;
    order = subst (λ (rows : List Row). in_order rows ≡ true) (sym (opening_stays m ((session, call) ∷ [])).opening) works.order;
    has = has;
    works = goes;
    active = active;
    written_at = subst (AreWrittenAt new.active.xacts)
        (sym (last_more no_parts works.restart.short works.restart.tables (m.base + 1) m.opening works.life step (change_of works.restart.short (last_store works.life) step) works.has.lasts.is_life))
        written;
    found = found;
  }

  pub found_with : IsOneVersion step → writer_of (last_store works.life) step ≤ m.base + m.begun → LeavesOthers (state old.site).now (state new.site).now
      → CanBeFound next (with_step works.restart.short works.life step) works.restart (state new.site).now
  found_with one writer others = record {
    names = follow_names no_parts m works.life works.restart session call step works.has.lasts.is_life.count works.works follows one writer works.found.names;
    tables = empty_still (state old.site).now (state new.site).now others works.found.tables;
    redo = works.found.redo;
  }

pub others_on : {W : Type 0} (tells : Type 0) (state : W → State) (old new : Kept W) → (tells → TouchesLog 1 (state old.site) (state new.site))
    → tells → (m : Machine) → WorksFor state old m → EachMoment (LeavesOthers (state old.site).now) (state old.site) (state new.site)
others_on tells state old new touches t m works = weaker_moments (λ now on. on.others) (touches t).alone

pub last_others : {W : Type 0} (state : W → State) (old new : Kept W) → EachMoment (LeavesOthers (state old.site).now) (state old.site) (state new.site)
    → LeavesOthers (state old.site).now (state new.site).now
last_others state old new others = last_moment (LeavesOthers (state old.site).now) (λ name away. refl) others

-- ---- a frame that was appended

pub record Appends {W : Type 0} (tells : Type 0) (state : W → State) (counts : W → Counts) (step : Step) (old new : Kept W) : Type 0 where
  pub goes : GoesOn tells step (opening_of state old) (opening_of state new)
  pub store : (store : Store) → HasStore store (opening_of state old) → HasStore (after_step store step) (opening_of state new)
  pub moments : LastsOn tells step (opening_of state old) (opening_of state new)
  pub touches : tells → TouchesLog 1 (state old.site) (state new.site)
  pub frames : new.log.frames ≡ old.log.frames + 1
  pub durable : new.log.durable ≡ old.log.durable
  pub room : old.log.frames < most_frames
  pub none_fell : NoneFell (counts old.site) (counts new.site)

-- what the machine has where the call's step was added
pub record IsFramed {W : Type 0} (state : W → State) (session : ℕ) (call : Call) (old new : Kept W) (step : Step) (m : Machine) (works : WorksFor state old m) (reply : Reply)
    : Type 0 where
  pub reply_is : reply ≡ reply_of m session call
  pub follows : FollowsBy state session call old m works step
  pub goes : Works no_parts (state_after m session call) (with_step works.restart.short works.life step) works.restart
  pub active : IsActiveOf (state_after m session call) new.active
  pub written : AreWrittenAt new.active.xacts (after_step (last_store works.life) step)
  pub one : length (logged m session call) ≡ 1
  pub one_version : IsOneVersion step
  pub writer : writer_of (last_store works.life) step ≤ m.base + m.begun

-- one frame, which no sync follows
pub framed_does : {W : Type 0} (tells : Type 0) (state : W → State) (counts : W → Counts) (session : ℕ) (call : Call) (old new : Kept W)
    (Holds : (m : Machine) → WorksFor state old m → Type 0) (step : Step) (reply : Reply) → Appends tells state counts step old new → IsWell state old
    → new.error ≡ None → new.active.commits ≤ old.active.commits + 1 → (AreStored old.active.xacts → AreStored new.active.xacts)
    → ((m : Machine) → syncs m (by session call) ≡ false)
    → (tells → (m : Machine) (works : WorksFor state old m) → Holds m works
    → IsFramed state session call old new step m works reply × (commits (state_after m session call) ≡ commits m))
    → Does tells state counts session call old new Holds (Ok reply)
framed_does {W} tells state counts session call old new Holds step reply appends well whole count keeps quiet framed = record {
  answered = λ t m works holds.
      let is = (framed t m works holds).0 in
      let same = (framed t m works holds).1 in
      let next = state_after m session call in
      let has = life_on tells state session call old new step t m works is.follows appends.goes in
      record {
        reply_is = is.reply_is;
        works = works_with tells state session call old new step t m works is.follows works.marks whole
            (subst (λ (least : ℕ). HasLife no_parts least next (with_step works.restart.short works.life step) works.restart works.marks (opening_of state new)) (sym same) has)
            is.goes is.active is.written
            (found_with tells state session call old new step t m works is.follows is.one_version is.writer
            (last_others state old new (others_on tells state old new appends.touches t m works)));
        frames = omega (arith, appends.frames, is.one);
        durable = appends.durable ∙ sym (ap (λ (b : Bool). cond b (frames_of old + length (logged m session call)) (durable_of old)) (quiet m));
        room = λ full. absurd (omega (arith, full, appends.room));
      };
  moments = λ t m works holds. stands_on tells state session call old new step t m works (framed t m works holds).0.follows appends.moments;
  others = others_on tells state old new appends.touches;
  refused = tt;
  full = λ t m works holds. tt;
  sound = λ t. tt;
  steady = whole;
  well = record {
    store = after_step well.store step;
    has = appends.store well.store well.has;
    few = omega (arith, well.few, count, appends.frames);
    stored = keeps well.stored;
  };
  none_fell = appends.none_fell;
}

-- ---- a frame that wasn't appended

pub record Fails {W : Type 0} (tells : Type 0) (state : W → State) (counts : W → Counts) (old new : Kept W) (error : LogError) : Type 0 where
  pub held : new.held ≡ old.held
  pub log : new.log ≡ old.log
  pub active : new.active ≡ old.active
  pub error_is : new.error ≡ kept_after error old.error
  pub untouched : tells → LeavesUntouched (state old.site) (state new.site) error
  pub touches : tells → TouchesLog 1 (state old.site) (state new.site)
  pub cause : HasLogCause old.log (counts old.site) (counts new.site) error
  pub own : IsFaultOf Write error
  pub none_fell : NoneFell (counts old.site) (counts new.site)

module _ {W : Type 0} (tells : Type 0) (state : W → State) (counts : W → Counts) (old new : Kept W) (well : IsWell state old) where
  pub fails_still : (error : LogError) → Fails tells state counts old new error → kept_after error old.error ≡ old.error
      → (tells → state new.site ≡ state old.site) → Still tells state old new
  fails_still error fails kept same = record {
    form = record { short = ap (λ (h : HeldTables). h.short) fails.held; count = ap (λ (h : HeldTables). length h.tables) fails.held };
    keeps = λ store serves. anywhere (state old.site) (state new.site) new.held store
        (subst (λ (h : HeldTables). Serves (state old.site) h store) (sym fails.held) serves);
    same = same;
    log = fails.log;
    error = fails.error_is ∙ kept;
  }

  pub fails_well : (error : LogError) → Fails tells state counts old new error → IsWell state new
  fails_well error fails = record {
    store = well.store;
    has = record {
      serves = anywhere (state old.site) (state new.site) new.held well.store
          (subst (λ (h : HeldTables). Serves (state old.site) h well.store) (sym fails.held) well.has.serves);
      numbers = well.has.numbers;
      places = well.has.places;
      is_short = rw fails.held well.has.is_short;
      few = rw fails.log well.has.few;
      room = rw fails.log well.has.room;
      tables = rw (fails.held, fails.log) well.has.tables;
      short = rw (fails.held, fails.log) well.has.short;
    };
    few = rw (fails.active, fails.log) well.few;
    stored = same_stored old.active new.active fails.active well.stored;
  }

  pub write_fault : (fault : Fault) → fault ≡ Write → new.error ≡ Some (SiteFault fault) → LeavesAtFault tells state fault old new
  write_fault fault is error = subst (λ (f : Fault). new.error ≡ Some (SiteFault f) → LeavesAtFault tells state f old new) (sym is) (λ e. e) error

  pub passes : (error : LogError) → IsPassing (of_log error)
  passes logs.OutOfMemory = tt
  passes (logs.Fault fault) = tt
  passes (logs.LogFull n) = tt

module _ {W : Type 0} (tells : Type 0) (state : W → State) (counts : W → Counts) (session : ℕ) (call : Call) (old new : Kept W)
    (Holds : (m : Machine) → WorksFor state old m → Type 0) (well : IsWell state old) where
  refuses : (error : LogError) → Fails tells state counts old new error → OnShortage error (UnlessEnd call (Rose (counts old.site).shorts (counts new.site).shorts))
      → MayMeet call Write → Refuses tells state counts call old new (of_log error)
  refuses logs.OutOfMemory fails short meets = record {
    leaves = inl (before_still tells state old new (fails_still tells state counts old new well logs.OutOfMemory fails refl (λ t. fails.untouched t)) fails.active);
    cause = short;
  }
  refuses (logs.Fault fault) fails short meets = record {
    leaves = write_fault tells state counts old new well fault fails.own fails.error_is;
    cause = (subst (MayMeet call) (sym fails.own) meets, fails.cause);
  }
  refuses (logs.LogFull n) fails short meets = record {
    leaves = before_still tells state old new (fails_still tells state counts old new well (logs.LogFull n) fails refl (λ t. fails.untouched t)) fails.active;
    cause = full_is old.log n fails.cause;
  }

  finds_full : (error : LogError) → Fails tells state counts old new error → (m : Machine) → logged m session call ≢ [] → FindsFull session call m old (of_log error)
  finds_full logs.OutOfMemory fails m some n is = absurd cc
  finds_full (logs.Fault fault) fails m some n is = absurd cc
  finds_full (logs.LogFull frame) fails m some n is =
      let full = full_is old.log frame fails.cause in
      let same : frame ≡ n = full_number frame n is in
      (some, sym same ∙ full.0, omega (arith, same, full.1))
    where
      full_number : (a b : ℕ) → LogFull a ≡ LogFull b → a ≡ b
      full_number a b e = cc e

  pub fails_does : (error : LogError) → Fails tells state counts old new error
      → OnShortage error (UnlessEnd call (Rose (counts old.site).shorts (counts new.site).shorts)) → MayMeet call Write
      → (tells → (m : Machine) (works : WorksFor state old m) → Holds m works → logged m session call ≢ [])
      → (tells → (m : Machine) (works : WorksFor state old m) → Holds m works → StandsWithin state session call m old new)
      → Does tells state counts session call old new Holds (Err (of_log error))
  fails_does error fails short meets adds stands = record {
    answered = λ t m works holds. tt;
    moments = stands;
    others = others_on tells state old new fails.touches;
    refused = refuses error fails short meets;
    full = λ t m works holds. finds_full error fails m (adds t m works holds);
    sound = λ t. passes tells state counts old new well error;
    steady = tt;
    well = fails_well tells state counts old new well error fails;
    none_fell = fails.none_fell;
  }
