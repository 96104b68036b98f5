-- A call after which site, tables and log are as before: what it leaves of a core that works for a machine.
use Rattle.std.proofs.Common.{◌≡◌, ◌≢◌, ℕ, ◌+◌, Bool, cond, true, List, [], ◌∷◌, length, None, Ok, Err, refl, sym, ap, subst, ◌∙◌, inl, arith}
use Rattle.std.specs.Prelude.{nat_lt}
use Rattle.px_active.specs.Active.{AreStored, IsActiveOf}
use Rattle.px_active.specs.declared.active.Active.{Active}
use Rattle.px_answers.specs.Seeing.{Sees}
use Rattle.px_calls.specs.declared.call.Call.{Call}
use Rattle.px_calls.specs.declared.call.Call.TheVariants.{Begin, Get, Hold, Fetch, Find, Scan, Insert, Update, Delete, Commit, Rollback}
use Rattle.px_calls.specs.Histories.{by}
use Rattle.px_calls.specs.declared.reply.Reply.{Reply}
use Rattle.px_calls.specs.Steps.{reply_of, state_after}
use Rattle.px_cell_laws.specs.Locating.{AreWrittenAt}
use Rattle.px_cell_standing.proofs.Going.{call_names}
use Rattle.px_cell_standing.specs.Found.{CanBeFound}
use Rattle.px_held.proofs.Serving.{served}
use Rattle.px_held.specs.declared.error.HeldError.{HeldError}
use Rattle.px_held.specs.declared.error.HeldError.TheVariants as held
use Rattle.px_held.specs.Errors as held_errors
use Rattle.px_held.specs.Serving.{HasSameForm, Serves}
use Rattle.px_history.specs.Store.{Store}
use Rattle.px_log.specs.Log.{Log}
use Rattle.px_logged.proofs.Grown.{opening_stays}
use Rattle.px_logged.specs.Logged.{logged}
use Rattle.px_model.specs.declared.row.Row.{Row}
use Rattle.px_model.specs.Machine.{Machine, commits}
use Rattle.px_model.specs.Rows.{in_order}
use Rattle.px_shown.specs.Parts.{no_parts}
use Rattle.px_shown.specs.Tables.{AreSound}
use Rattle.px_site.proofs.Moments.{same_moment}
use Rattle.px_site.specs.Cause.{Counts, NoneFell, Rose}
use Rattle.px_site.specs.declared.error.Fault.{Fault}
use Rattle.px_site.specs.declared.error.Fault.TheVariants.{Read}
use Rattle.px_site.specs.State.{State}
use Rattle.px_standing.specs.Images.{acked}
use Rattle.px_tidying.proofs.Composing.{OnlyReads, still_life}
use Rattle.px_tidying.proofs.Readying.{held_reads}
use Rattle.px_tidying.specs.Opening.{HasLife, opening}
use Rattle.px_working.specs.Follows.{last_store}
use Rattle.px_working.specs.Lasts.{Lasts}
use Rattle.px_core.specs.Core.{IsWell, UnlessEnd, durable_of, frames_of, opening_of}
use Rattle.px_core.specs.Errors.{IsPassing, of_held}
use Rattle.px_core.specs.Serving.{Does, MeetsOwn}
use Rattle.px_core.specs.Working.{AsBefore, LeavesAtFault, Refuses, WorksFor, durable_after}
use Rattle.px_core.specs.declared.error.CoreError.{CoreError}
use Rattle.px_core.specs.declared.error.CoreError.TheVariants.{OutOfMemory, Fault as FaultOf, LogFull, Damaged}
use Rattle.px_core.specs.declared.state.Kept.{Kept}
use Rattle.px_core.proofs.Leaving.{LeavesCells}

pub same_stored : (old new : Active) → new ≡ old → AreStored old.xacts → AreStored new.xacts
same_stored old new same stored = subst (λ (a : Active). AreStored a.xacts) (sym same) stored

-- tables, transactions and held keys are the machine's
pub sees : {W : Type 0} (state : W → State) (core : Kept W) (m : Machine) (works : WorksFor state core m)
    → Sees (state core.site) core.held core.active.xacts core.active.locks m (last_store works.life)
sees state core m works = record {
  serves = works.has.store.serves;
  holds = works.works.holds;
  kept = works.works.kept;
  order = works.order;
  mirrors = works.active.mirrors;
  holders = works.active.holders;
  short = sym works.has.store.short ∙ works.has.short ∙ works.works.short;
  tables = works.has.store.tables ∙ works.has.tables ∙ works.works.tables;
}

-- what a core holds is sound, whatever the site has
pub well_sound : {W : Type 0} (state : W → State) (core : Kept W) (well : IsWell state core) → AreSound core.held.short well.store.tables well.store.layouts
well_sound state core well = (served (state core.site) core.held well.store well.has.serves).sound

-- a call that logs nothing syncs nothing
nothing_synced : {W : Type 0} (m : Machine) (session : ℕ) (call : Call) (old : Kept W) → logged m session call ≡ [] → durable_after m (by session call) old ≡ durable_of old
nothing_synced m session Commit old none = ap (λ (n : ℕ). cond (nat_lt 0 n) (frames_of old + n) (durable_of old)) (ap length none)
nothing_synced m session Begin old none = refl
nothing_synced m session (Get table key) old none = refl
nothing_synced m session (Hold table key) old none = refl
nothing_synced m session (Fetch ticket) old none = refl
nothing_synced m session (Find table tag) old none = refl
nothing_synced m session (Scan table) old none = refl
nothing_synced m session (Insert table key tag body) old none = refl
nothing_synced m session (Update table key tag body) old none = refl
nothing_synced m session (Delete table key) old none = refl
nothing_synced m session Rollback old none = refl

-- the tables serve what they served, and log and error are the same; where the site tells, nothing happened
pub record Still {W : Type 0} (tells : Type 0) (state : W → State) (old new : Kept W) : Type 0 where
  pub form : HasSameForm old.held new.held
  pub keeps : (store : Store) → Serves (state old.site) old.held store → Serves (state new.site) new.held store
  pub same : tells → state new.site ≡ state old.site
  pub log : new.log ≡ old.log
  pub error : new.error ≡ old.error

module _ {W : Type 0} (tells : Type 0) (state : W → State) (old new : Kept W) (still : Still tells state old new) where
  pub only_reads : OnlyReads tells (opening_of state old) (opening_of state new)
  only_reads = subst (λ (l : Log). OnlyReads tells (opening_of state old) (opening (state new.site) new.held l)) (sym still.log)
      (held_reads tells (state old.site) (state new.site) old.held new.held old.log still.keeps still.form still.same)

  same_frames : new.log.frames ≡ old.log.frames
  same_frames = ap (λ (l : Log). l.frames) still.log

  pub still_well : new.active.commits ≡ old.active.commits → (AreStored old.active.xacts → AreStored new.active.xacts) → IsWell state old → IsWell state new
  still_well commits keeps well = record {
    store = well.store;
    has = only_reads.store well.store well.has;
    few = omega (arith, well.few, commits, same_frames);
    stored = keeps well.stored;
  }

  abbrev pub still_has : tells → (m : Machine) (works : WorksFor state old m) → HasLife no_parts (acked m) m works.life works.restart works.marks (opening_of state new)
  still_has t m works =
      still_life tells no_parts (acked m) m works.life works.restart works.marks (opening_of state old) (opening_of state new) only_reads t works.has

  -- with the machine after a call that leaves the cells
  pub works_still : tells → (session : ℕ) (call : Call) (m : Machine) (works : WorksFor state old m) → LeavesCells m session call
      → IsActiveOf (state_after m session call) new.active → AreWrittenAt new.active.xacts (last_store works.life)
      → WorksFor state new (state_after m session call)
  works_still t session call m works leaves active written =
      let next = state_after m session call in
      let has = still_has t m works in
      let lasts : Lasts no_parts (acked m) next works.life works.restart works.marks (state new.site).now =
      leaves.lasts (acked m) works.life works.restart works.marks (state new.site).now has.lasts in
      let same : commits next ≡ commits m = sym lasts.all_commits ∙ has.lasts.all_commits in
      record {
        whole = still.error ∙ works.whole;
        life = works.life;
        restart = works.restart;
        marks = works.marks;
        order = subst (λ (rows : List Row). in_order rows ≡ true) (sym (opening_stays m ((session, call) ∷ [])).opening) works.order;
        has = record {
          lasts = subst (λ (least : ℕ). Lasts no_parts least next works.life works.restart works.marks (state new.site).now) (sym same) lasts;
          store = has.store;
          logged = has.logged;
          durable = has.durable;
          tables = has.tables;
          short = has.short;
        };
        works = leaves.works works.life works.restart works.works;
        active = active;
        written_at = written;
        found = subst (λ (s : State). CanBeFound next works.life works.restart s.now) (sym (still.same t))
            (record { names = call_names m works.life works.restart session call works.found.names; tables = works.found.tables; redo = works.found.redo });
      }

  -- with the same one
  abbrev pub works_same : tells → new.active ≡ old.active → (m : Machine) → WorksFor state old m → WorksFor state new m
  works_same t same m works = record {
    whole = still.error ∙ works.whole;
    life = works.life;
    restart = works.restart;
    marks = works.marks;
    order = works.order;
    has = still_has t m works;
    works = works.works;
    active = subst (IsActiveOf m) (sym same) works.active;
    written_at = subst (λ (a : Active). AreWrittenAt a.xacts (last_store works.life)) (sym same) works.written_at;
    found = subst (λ (s : State). CanBeFound m works.life works.restart s.now) (sym (still.same t)) works.found;
  }

  pub before_still : new.active ≡ old.active → AsBefore tells state old new
  before_still same = record {
    error = still.error;
    frames = same_frames;
    durable = ap (λ (l : Log). l.durable) still.log;
    site = still.same;
    works = λ t m works. works_same t same m works;
  }

-- ---- it was answered

-- what holds of a machine that answers so, where its cells stay
pub record IsAnswered {W : Type 0} (state : W → State) (session : ℕ) (call : Call) (old new : Kept W) (m : Machine) (works : WorksFor state old m) (reply : Reply)
    : Type 0 where
  pub reply_is : reply ≡ reply_of m session call
  pub leaves : LeavesCells m session call
  pub active : IsActiveOf (state_after m session call) new.active
  pub written : AreWrittenAt new.active.xacts (last_store works.life)

module _ {W : Type 0} (tells : Type 0) (state : W → State) (counts : W → Counts) (session : ℕ) (call : Call) (old new : Kept W)
    (Holds : (m : Machine) → WorksFor state old m → Type 0) (still : Still tells state old new) (well : IsWell state old) (whole : old.error ≡ None)
    (count : new.active.commits ≡ old.active.commits) (keeps : AreStored old.active.xacts → AreStored new.active.xacts) (fell : NoneFell (counts old.site) (counts new.site)) where
  pub still_answered : (reply : Reply)
      → (tells → (m : Machine) (works : WorksFor state old m) → Holds m works → IsAnswered state session call old new m works reply)
      → Does tells state counts session call old new Holds (Ok reply)
  still_answered reply answers = record {
    answered = λ t m works holds.
        let is = answers t m works holds in
        record {
          reply_is = is.reply_is;
          works = works_still tells state old new still t session call m works is.leaves is.active is.written;
          frames = omega (arith, ap (λ (l : Log). l.frames) still.log, ap length is.leaves.none);
          durable = ap (λ (l : Log). l.durable) still.log ∙ sym (nothing_synced m session call old is.leaves.none);
          room = λ full. is.leaves.none;
        };
    moments = λ t m works holds. same_moment (still.same t);
    others = λ t m works. same_moment (still.same t);
    refused = tt;
    full = λ t m works holds. tt;
    sound = λ t. tt;
    steady = still.error ∙ whole;
    well = still_well tells state old new still count keeps well;
    none_fell = fell;
  }

  -- ---- it gave up

  pub still_refused : new.active ≡ old.active → (error : CoreError) → Refuses tells state counts call old new error
      → ((n : ℕ) → error ≢ LogFull n) → (tells → IsPassing error)
      → Does tells state counts session call old new Holds (Err error)
  still_refused same error refuses other sound = record {
    answered = λ t m works holds. tt;
    moments = λ t m works holds. same_moment (still.same t);
    others = λ t m works. same_moment (still.same t);
    refused = refuses;
    full = λ t m works holds n is. absurd (other n is);
    sound = sound;
    steady = tt;
    well = still_well tells state old new still count keeps well;
    none_fell = fell;
  }

  pub out_of_memory : new.active ≡ old.active → UnlessEnd call (Rose (counts old.site).shorts (counts new.site).shorts)
      → Does tells state counts session call old new Holds (Err OutOfMemory)
  out_of_memory same rose =
      still_refused same OutOfMemory (record { leaves = inl (before_still tells state old new still same); cause = rose }) (λ n is. absurd cc) (λ t. tt)

  read_fault : (fault : Fault) → fault ≡ Read → AsBefore tells state old new → LeavesAtFault tells state fault old new
  read_fault fault is before = subst (λ (f : Fault). LeavesAtFault tells state f old new) (sym is) before

  pub read_refused : new.active ≡ old.active → ((P : Type 0) → UnlessEnd call P) → (error : HeldError)
      → held_errors.HasReadCause (counts old.site) (counts new.site) error → MeetsOwn call error
      → (tells → held_errors.IsPassing error)
      → Does tells state counts session call old new Holds (Err (of_held error))
  read_refused same no_end held.OutOfMemory cause meets sound = out_of_memory same (no_end (Rose (counts old.site).shorts (counts new.site).shorts))
  read_refused same no_end (held.Fault fault) cause meets sound =
      still_refused same (FaultOf fault)
      (record {
        leaves = read_fault fault cause.0 (before_still tells state old new still same);
        cause = (meets, subst (λ (f : Fault). Rose ((counts old.site).faults f) ((counts new.site).faults f)) (sym cause.0) cause.1);
      })
      (λ n is. absurd cc) (λ t. tt)
  read_refused same no_end (held.Damaged file place) cause meets sound =
      still_refused same (Damaged file place) (record { leaves = before_still tells state old new still same; cause = tt }) (λ n is. absurd cc) sound
