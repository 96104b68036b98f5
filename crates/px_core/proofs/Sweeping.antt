-- A step of the sweeper: the machine after it, the frame that it appends, and where it takes nothing.
use Rattle.std.proofs.Common.{◌≡◌, ◌≢◌, ℕ, ◌+◌, ◌-◌, ◌≤◌, ◌<◌, ◌&&◌, Bool, cond, true, false, not, List, [], ◌∷◌, length, Option, Some, None, Ok, Err, refl, sym, ap, subst, ◌∙◌, inr, arith}
use Rattle.std.specs.Prelude.{⊤, nat_lt, slice_get}
use Rattle.std.proofs.lemmas.Bool.{lt-ltb}
use Rattle.px_active.specs.Active.{AreStored, IsActiveOf}
use Rattle.px_active.specs.declared.active.Active.{Active}
use Rattle.px_appending.specs.Appending.{AddsOn, LastsAdding}
use Rattle.px_appending.specs.Unlinks.{GoesFrom, sweeping}
use Rattle.px_calls.specs.declared.reply.Reply.{Reply}
use Rattle.px_calls.specs.declared.reply.Reply.TheVariants.{Idle, Swept}
use Rattle.px_calls.specs.Sweeps.{due_below, sweep_reply, swept_state}
use Rattle.px_cell_laws.proofs.Covering.{sweep_follows as sweep_may}
use Rattle.px_cell_laws.proofs.Passing.{nothing_swept_written, sweep_written}
use Rattle.px_cell_laws.proofs.Showing.{committed_shown}
use Rattle.px_cell_laws.proofs.Swept.{nothing_goes, sweep_holds, two_at_most}
use Rattle.px_cell_laws.specs.Locating.{AreWrittenAt, without_first}
use Rattle.px_cell_laws.specs.Sweeping.{IsSweptAt, sweep_count, sweep_count_of, sweep_of}
use Rattle.px_cell_standing.proofs.Going.{empty_still, follow_sweep_names, swept_names}
use Rattle.px_cell_standing.specs.Found.{CanBeFound, NamesNumbers}
use Rattle.px_chain_laws.proofs.Keeping.{kept_sweep}
use Rattle.px_chain_laws.proofs.Sweeping.{idle_stays}
use Rattle.px_chain_laws.specs.Sweeping.{base_of}
use Rattle.px_engine.specs.Frames.{frames_of_due, sweep_frames, unlinks_over}
use Rattle.px_held.specs.declared.prepared.PreparedUnlink.{PreparedUnlink}
use Rattle.px_held.specs.Unlinking.{unlink_from}
use Rattle.px_history.proofs.Agreeing.{one_layout}
use Rattle.px_history.proofs.Holding.{change_held}
use Rattle.px_history.specs.Steps.{Step, after_step}
use Rattle.px_history.specs.Store.{Store, versions_of}
use Rattle.px_life.proofs.Fronts.{front_held}
use Rattle.px_life.specs.Life.{Life}
use Rattle.px_log.specs.Log.{most_frames}
use Rattle.px_log.specs.Touching.{TouchesLog}
use Rattle.px_log.specs.declared.error.LogError.{LogError}
use Rattle.px_log.specs.declared.error.LogError.TheVariants as logs
use Rattle.px_model.specs.Chains.{is_put}
use Rattle.px_model.specs.declared.machine.Flat.{Flat}
use Rattle.px_model.specs.declared.machine.Variation.{Variation}
use Rattle.px_model.specs.Machine.{Machine, commits, flat, horizon}
use Rattle.px_model.specs.Rows.{in_order, key_written}
use Rattle.px_opened.proofs.Kept.{steps_held}
use Rattle.px_restart.specs.declared.restart.Restart.{Restart}
use Rattle.px_shown.specs.Parts.{no_parts}
use Rattle.px_site.proofs.Moments.{same_moment}
use Rattle.px_site.specs.Cause.{Counts, NoneFell}
use Rattle.px_site.specs.State.{State}
use Rattle.px_standing.specs.Images.{LeavesOthers, acked}
use Rattle.px_tidying.specs.Opening.{HasLife, HasStore, opening}
use Rattle.px_working.proofs.Grown.{last_more}
use Rattle.px_working.proofs.Sweeping.{nothing_works, sweep_follows, sweep_works, swept_lasts}
use Rattle.px_working.specs.Follows.{Follows, last_store, swept_change, with_sweep}
use Rattle.px_working.specs.Lasts.{Lasts}
use Rattle.px_working.specs.Works.{Works}
use Rattle.px_xacts.specs.declared.answers.Due.{Due}
use Rattle.px_xacts.specs.Transactions as xacts
use Rattle.px_xacts.specs.Transactions.{Transactions}
use Rattle.px_xacts_laws.proofs.Marking.{due_mirrors}
use Rattle.px_xacts_laws.specs.Mirrors.{due_reply}
use Rattle.px_core.specs.Core.{IsWell, opening_of}
use Rattle.px_core.specs.Errors.{of_log}
use Rattle.px_core.specs.Sweeping.{AnswersSweep, FindsFullSweep, IsUnlinkOf, MaySweep, RefusesSweep, StandsWithinSweep, Sweeps, TakesNothing}
use Rattle.px_core.specs.Working.{WorksFor}
use Rattle.px_core.specs.declared.error.CoreError.TheVariants.{LogFull}
use Rattle.px_core.specs.declared.state.Kept.{Kept}
use Rattle.px_core.proofs.Appended.{Fails, fails_still, fails_well, full_is, last_others, others_on, passes, write_fault}
use Rattle.px_core.proofs.Crashing.{each_stands}
use Rattle.px_core.proofs.Still.{Still, before_still, still_has, still_well}

-- ---- how many frames a sweep has

abbrev one_if : Bool → ℕ
one_if more = cond more 1 0

abbrev over : (committed put : Bool) → List Variation → Bool
over committed put [] = not (committed && put)
over committed put (version ∷ base) = true

over_is : (w : Flat) (base : List Variation) → unlinks_over w base ≡ over w.committed (is_put w.write) base
over_is w [] = refl
over_is w (version ∷ base) = refl

some_over : (committed put : Bool) (place versions : ℕ) (base : List Variation) → versions ≡ place + 1 + length base → 1 ≤ sweep_count committed put place versions
    → over committed put base ≡ true
some_over true true place versions [] many some = absurd (omega (arith, many, some))
some_over true false place versions [] many some = refl
some_over false put place versions [] many some = refl
some_over committed put place versions (version ∷ base) many some = refl

none_over : (committed put : Bool) (place versions : ℕ) (base : List Variation) → versions ≡ place + 1 + length base → sweep_count committed put place versions ≡ 0
    → over committed put base ≡ false
none_over true true place versions [] many none = refl
none_over true false place versions [] many none = absurd (omega (arith, many, none))
none_over false put place versions [] many none = absurd (omega (arith, none))
none_over true true place versions (version ∷ base) many none = absurd (omega (arith, many, none))
none_over true false place versions (version ∷ base) many none = absurd (omega (arith, many, none))
none_over false put place versions (version ∷ base) many none = absurd (omega (arith, none))

frames_at : (m : Machine) (store : Store) (w : Flat) (t row place : ℕ) → IsSweptAt m store w t row place
    → sweep_frames m ≡ one_if (over w.committed (is_put w.write) (base_of m (key_written w.write)))
unfolding sweep_frames
frames_at m store w t row place at =
    let base = base_of m (key_written w.write) in
    ap (frames_of_due m) at.next
    ∙ ap (λ (b : Bool). one_if (b && unlinks_over w base)) (lt-ltb w.place (horizon m) at.due)
    ∙ ap one_if (over_is w base)

pub some_frame : (m : Machine) (store : Store) (w : Flat) (t row place : ℕ) → IsSweptAt m store w t row place → 1 ≤ sweep_count_of store w t row place → sweep_frames m ≡ 1
some_frame m store w t row place at some =
    frames_at m store w t row place at
    ∙ ap one_if
    (some_over w.committed (is_put w.write) place (length (versions_of store t row)) (base_of m (key_written w.write)) at.behind some)

pub no_frame : (m : Machine) (store : Store) (w : Flat) (t row place : ℕ) → IsSweptAt m store w t row place → sweep_count_of store w t row place ≡ 0 → sweep_frames m ≡ 0
no_frame m store w t row place at none =
    frames_at m store w t row place at
    ∙ ap one_if
    (none_over w.committed (is_put w.write) place (length (versions_of store t row)) (base_of m (key_written w.write)) at.behind none)

pub idle_frames : (m : Machine) → sweep_reply m ≡ Idle → sweep_frames m ≡ 0
unfolding sweep_reply sweep_frames
idle_frames m idle = by_next (slice_get (flat m) m.swept) idle
  where
    by_due : (due : Bool) (number : ℕ) (more : Bool) → cond due (Swept number) Idle ≡ Idle → one_if (due && more) ≡ 0
    by_due true number more e = absurd cc
    by_due false number more e = refl

    by_next : (next : Option Flat) → due_below (horizon m) next ≡ Idle → frames_of_due m next ≡ 0
    by_next None e = refl
    by_next (Some w) e = by_due (nat_lt w.place (horizon m)) w.number (unlinks_over w (base_of m (key_written w.write))) e

-- ---- the machine after a sweep

swept_order : (m : Machine) → in_order m.opening ≡ true → in_order (swept_state m).opening ≡ true
unfolding swept_state
swept_order m order = order

pub swept_commits : (m : Machine) → commits (swept_state m) ≡ commits m
unfolding swept_state commits
swept_commits m = refl

-- what is noted where a write is swept
pub record PassesOne {W : Type 0} (old new : Kept W) : Type 0 where
  pub active : (m : Machine) → IsActiveOf m old.active → IsActiveOf (swept_state m) new.active
  pub rest : new.active ≡ record old.active { xacts = without_first old.active.xacts }
  pub stored : AreStored old.active.xacts → AreStored new.active.xacts

passed_xacts : {W : Type 0} (old new : Kept W) → PassesOne old new → new.active.xacts ≡ without_first old.active.xacts
passed_xacts old new passes = ap (λ (a : Active). a.xacts) passes.rest

pub passed_commits : {W : Type 0} (old new : Kept W) → PassesOne old new → new.active.commits ≡ old.active.commits
passed_commits old new passes = ap (λ (a : Active). a.commits) passes.rest

-- the reply is the machine's
pub due_replied : {W : Type 0} (state : W → State) (core : Kept W) (m : Machine) (due : Due) → WorksFor state core m → xacts.due core.active.xacts ≡ Some due
    → Swept due.number ≡ sweep_reply m
due_replied state core m due works is = sym (ap due_reply is) ∙ due_mirrors m core.active.xacts works.active.mirrors

-- ---- nothing is due

module _ {W : Type 0} (tells : Type 0) (state : W → State) (counts : W → Counts) (core : Kept W) (well : IsWell state core) (whole : core.error ≡ None) where
  pub idle_sweeps : ((m : Machine) → IsActiveOf m core.active → Idle ≡ sweep_reply m) → NoneFell (counts core.site) (counts core.site)
      → Sweeps tells state counts core core (λ m works. ⊤) (Ok Idle)
  idle_sweeps idle fell = record {
    answered = λ t m works holds.
        let is = idle m works.active in
        record {
          reply_is = is;
          works = subst (WorksFor state core) (sym (idle_stays m (sym is))) works;
          frames = omega (arith, idle_frames m (sym is));
          durable = refl;
          room = λ full. idle_frames m (sym is);
        };
    moments = λ t m works holds. same_moment refl;
    others = λ t m works. same_moment refl;
    refused = tt;
    full = λ t m works holds. tt;
    sound = λ t m works. tt;
    steady = whole;
    well = well;
    none_fell = fell;
  }

-- ---- a sweep that takes nothing

module _ {W : Type 0} (tells : Type 0) (state : W → State) (counts : W → Counts) (old new : Kept W) (due : Due)
    (still : Still tells state old new) (passes : PassesOne old new) (is : xacts.due old.active.xacts ≡ Some due) where
  works_past : tells → (m : Machine) (works : WorksFor state old m) → TakesNothing m (last_store works.life) due → WorksFor state new (swept_state m)
  works_past t m works takes =
      let next = swept_state m in
      let store = last_store works.life in
      let has = still_has tells state old new still t m works in
      let lasts : Lasts no_parts (acked m) next works.life works.restart works.marks (state new.site).now =
      swept_lasts no_parts (acked m) m works.life works.restart works.marks (state new.site).now has.lasts in
      record {
        whole = still.error ∙ works.whole;
        life = works.life;
        restart = works.restart;
        marks = works.marks;
        order = swept_order m works.order;
        has = record {
          lasts = subst (λ (least : ℕ). Lasts no_parts least next works.life works.restart works.marks (state new.site).now) (sym (swept_commits m)) lasts;
          store = has.store;
          logged = has.logged;
          durable = has.durable;
          tables = has.tables;
          short = has.short;
        };
        works = nothing_works nothing_goes kept_sweep no_parts m works.life works.restart takes.w due.table due.row takes.place works.works takes.is.swept takes.none;
        active = passes.active m works.active;
        written_at = subst (λ (all : Transactions). AreWrittenAt all store) (sym (passed_xacts old new passes))
            (nothing_swept_written no_parts m old.active.xacts store takes.w due.table due.row takes.place works.active.mirrors works.works.holds works.written_at takes.is.swept);
        found = subst (λ (s : State). CanBeFound next works.life works.restart s.now) (sym (still.same t))
            (record { names = swept_names m works.life works.restart works.found.names; tables = works.found.tables; redo = works.found.redo });
      }

  pub passed_sweeps : IsWell state old → old.error ≡ None → NoneFell (counts old.site) (counts new.site)
      → ((m : Machine) (works : WorksFor state old m) → TakesNothing m (last_store works.life) due)
      → Sweeps tells state counts old new (λ m works. ⊤) (Ok (Swept due.number))
  passed_sweeps well whole fell takes = record {
    answered = λ t m works holds.
        let nothing = takes m works in
        let none = no_frame m (last_store works.life) nothing.w due.table due.row nothing.place nothing.is.swept nothing.none in
        record {
          reply_is = due_replied state old m due works is;
          works = works_past t m works nothing;
          frames = omega (arith, ap (λ (l : _). l.frames) still.log, none);
          durable = ap (λ (l : _). l.durable) still.log;
          room = λ full. none;
        };
    moments = λ t m works holds. same_moment (still.same t);
    others = λ t m works. same_moment (still.same t);
    refused = tt;
    full = λ t m works holds. tt;
    sound = λ t m works. tt;
    steady = still.error ∙ whole;
    well = still_well tells state old new still (passed_commits old new passes) passes.stored well;
    none_fell = fell;
  }

-- ---- a sweep with a frame

-- what the machine has where this step was added, in a frame with this number
record IsSwept (m : Machine) (life : Life) (restart : Restart) (all : Transactions) (step : Step) (xn : ℕ) : Type 0 where
  pub follows : Follows no_parts m life restart step (swept_change restart.short (last_store life) step xn) (swept_state m)
  pub goes : Works no_parts (swept_state m) (with_sweep restart.short life step xn) restart
  pub names : NamesNumbers (swept_state m) (with_sweep restart.short life step xn) restart
  pub written : AreWrittenAt (without_first all) (after_step (last_store life) step)

module _ {W : Type 0} (state : W → State) (core : Kept W) (due : Due) (prepared : PreparedUnlink) (m : Machine) (works : WorksFor state core m)
    (may : MaySweep m (last_store works.life) due prepared) where
  its_sweep : IsSwept m works.life works.restart core.active.xacts (sweep_of (last_store works.life) may.w due.table due.row may.place) (m.base + may.w.number)
  its_sweep =
      let store = last_store works.life in
      let now = (state core.site).now in
      let w = may.w in
      let at = may.is.swept in
      let follows = sweep_follows sweep_may sweep_holds two_at_most kept_sweep committed_shown change_held (front_held (steps_held one_layout)) no_parts (acked m) m
      works.life works.restart works.marks now w due.table due.row may.place works.has.lasts works.works at may.some in
      record {
        follows = follows;
        goes = sweep_works sweep_may sweep_holds two_at_most kept_sweep committed_shown change_held (front_held (steps_held one_layout)) no_parts (acked m) m
            works.life works.restart works.marks now w due.table due.row may.place works.has.lasts works.works at may.some;
        names = follow_sweep_names no_parts m works.life works.restart w due.table due.row may.place works.has.lasts.is_life.count works.works at follows works.found.names;
        written = sweep_written no_parts m core.active.xacts store w due.table due.row may.place works.active.mirrors works.works.holds works.works.kept works.written_at at may.some;
      }

  -- with what was prepared, and the number that the core knows
  prepared_sweep : IsSwept m works.life works.restart core.active.xacts (unlink_from prepared may.from) (core.active.xacts.base + due.number)
  prepared_sweep =
      let number : core.active.xacts.base + due.number ≡ m.base + may.w.number = omega (arith, works.active.mirrors.base, may.is.number) in
      subst (λ (n : ℕ). IsSwept m works.life works.restart core.active.xacts (unlink_from prepared may.from) n) (sym number)
      (subst (λ (s : Step). IsSwept m works.life works.restart core.active.xacts s (m.base + may.w.number)) (sym may.step) its_sweep)

  goes_from : GoesFrom (last_store works.life) prepared may.from (opening_of state core)
  goes_from = record { has = works.has.store; stand = may.stand }

-- it stands at each moment, whether its frame was appended or not
abbrev pub LastsSwept : (tells : Type 0) → {W : Type 0} (state : W → State) (xn : ℕ) (prepared : PreparedUnlink) (old new : Kept W) → Type 0
LastsSwept tells state xn prepared old new =
    (store : Store) (from : ℕ) → GoesFrom store prepared from (opening_of state old)
    → LastsAdding tells (unlink_from prepared from) (sweeping prepared from xn) (opening_of state old) (opening_of state new)

pub sweep_stands : {W : Type 0} (tells : Type 0) (state : W → State) (old new : Kept W) (due : Due) (prepared : PreparedUnlink)
    → LastsSwept tells state (old.active.xacts.base + due.number) prepared old new → tells → (m : Machine) (works : WorksFor state old m)
    → MaySweep m (last_store works.life) due prepared → StandsWithinSweep state m old new
sweep_stands tells state old new due prepared moments t m works may =
    each_stands (acked m) (swept_state m) works.restart (state old.site) (state new.site)
    (moments (last_store works.life) may.from (goes_from state old due prepared m works may) t no_parts (acked m) m (swept_state m) works.life works.restart works.marks
    (record { has = works.has; follows = (prepared_sweep state old due prepared m works may).follows }))

-- the frame was appended and its cells laid
pub record AppendsSweep {W : Type 0} (tells : Type 0) (state : W → State) (counts : W → Counts) (xn : ℕ) (prepared : PreparedUnlink) (old new : Kept W) : Type 0 where
  pub goes : (store : Store) (from : ℕ) → GoesFrom store prepared from (opening_of state old)
      → AddsOn tells (unlink_from prepared from) (sweeping prepared from xn) (opening_of state old) (opening_of state new)
  pub store : (store : Store) (from : ℕ) → GoesFrom store prepared from (opening_of state old)
      → HasStore (after_step store (unlink_from prepared from)) (opening_of state new)
  pub moments : LastsSwept tells state xn prepared old new
  pub touches : tells → TouchesLog 1 (state old.site) (state new.site)
  pub frames : new.log.frames ≡ old.log.frames + 1
  pub durable : new.log.durable ≡ old.log.durable
  pub room : old.log.frames < most_frames
  pub none_fell : NoneFell (counts old.site) (counts new.site)

module _ {W : Type 0} (tells : Type 0) (state : W → State) (counts : W → Counts) (old new : Kept W) (due : Due) (prepared : PreparedUnlink)
    (appends : AppendsSweep tells state counts (old.active.xacts.base + due.number) prepared old new) (passes : PassesOne old new) (whole : new.error ≡ None) where
  abbrev xn : ℕ
  xn = old.active.xacts.base + due.number

  works_swept : tells → (m : Machine) (works : WorksFor state old m) → MaySweep m (last_store works.life) due prepared → WorksFor state new (swept_state m)
  works_swept t m works may =
      let next = swept_state m in
      let step = unlink_from prepared may.from in
      let later = with_sweep works.restart.short works.life step xn in
      let is = prepared_sweep state old due prepared m works may in
      let has : HasLife no_parts (acked m) next later works.restart works.marks (opening_of state new) =
      appends.goes (last_store works.life) may.from (goes_from state old due prepared m works may) t no_parts (acked m) m next works.life works.restart works.marks
      (record { has = works.has; follows = is.follows }) in
      record {
        whole = whole;
        life = later;
        restart = works.restart;
        marks = works.marks;
        order = swept_order m works.order;
        has = subst (λ (least : ℕ). HasLife no_parts least next later works.restart works.marks (opening_of state new)) (sym (swept_commits m)) has;
        works = is.goes;
        active = passes.active m works.active;
        written_at = subst (λ (all : Transactions). AreWrittenAt all (last_store later)) (sym (passed_xacts old new passes))
            (subst (AreWrittenAt (without_first old.active.xacts))
            (sym (last_more no_parts works.restart.short works.restart.tables (m.base + 1) m.opening works.life step
            (swept_change works.restart.short (last_store works.life) step xn) works.has.lasts.is_life))
            is.written);
        found = record {
          names = is.names;
          tables = empty_still (state old.site).now (state new.site).now (last_others state old new (others_on tells state old new appends.touches t m works)) works.found.tables;
          redo = works.found.redo;
        };
      }

  pub sweep_does : IsWell state old → IsUnlinkOf state old due prepared → xacts.due old.active.xacts ≡ Some due
      → Sweeps tells state counts old new (λ m works. MaySweep m (last_store works.life) due prepared) (Ok (Swept due.number))
  sweep_does well ready is = record {
    answered = λ t m works may.
        let one = some_frame m (last_store works.life) may.w due.table due.row may.place may.is.swept may.some in
        record {
          reply_is = due_replied state old m due works is;
          works = works_swept t m works may;
          frames = omega (arith, appends.frames, one);
          durable = appends.durable;
          room = λ full. absurd (omega (arith, full, appends.room));
        };
    moments = λ t m works may. sweep_stands tells state old new due prepared appends.moments t m works may;
    others = others_on tells state old new appends.touches;
    refused = tt;
    full = λ t m works may. tt;
    sound = λ t m works. tt;
    steady = whole;
    well = record {
      store = after_step ready.store (unlink_from prepared ready.from);
      has = appends.store ready.store ready.from ready.goes;
      few = omega (arith, well.few, passed_commits old new passes, appends.frames);
      stored = passes.stored well.stored;
    };
    none_fell = appends.none_fell;
  }

-- the frame wasn't appended
module _ {W : Type 0} (tells : Type 0) (state : W → State) (counts : W → Counts) (old new : Kept W) (due : Due) (prepared : PreparedUnlink) (well : IsWell state old) where
  refuses : (error : LogError) → Fails tells state counts old new error → RefusesSweep tells state counts old new (of_log error)
  refuses logs.OutOfMemory fails = record {
    leaves = before_still tells state old new (fails_still tells state counts old new well logs.OutOfMemory fails refl (λ t. fails.untouched t)) fails.active;
    cause = tt;
  }
  refuses (logs.Fault fault) fails = record {
    leaves = write_fault tells state counts old new well fault fails.own fails.error_is;
    cause = (inr fails.own, fails.cause);
  }
  refuses (logs.LogFull n) fails = record {
    leaves = before_still tells state old new (fails_still tells state counts old new well (logs.LogFull n) fails refl (λ t. fails.untouched t)) fails.active;
    cause = full_is old.log n fails.cause;
  }

  finds_full : (error : LogError) → Fails tells state counts old new error → (m : Machine) → sweep_frames m ≢ 0 → FindsFullSweep m old (of_log error)
  finds_full logs.OutOfMemory fails m some n is = absurd cc
  finds_full (logs.Fault fault) fails m some n is = absurd cc
  finds_full (logs.LogFull frame) fails m some n is =
      let full = full_is old.log frame fails.cause in
      let same : frame ≡ n = full_number frame n is in
      (some, sym same ∙ full.0, omega (arith, same, full.1))
    where
      full_number : (a b : ℕ) → LogFull a ≡ LogFull b → a ≡ b
      full_number a b e = cc e

  has_frame : (m : Machine) → sweep_frames m ≡ 1 → sweep_frames m ≢ 0
  has_frame m one none = cc (sym one ∙ none)

  pub sweep_fails : (error : LogError) → Fails tells state counts old new error → LastsSwept tells state (old.active.xacts.base + due.number) prepared old new
      → Sweeps tells state counts old new (λ m works. MaySweep m (last_store works.life) due prepared) (Err (of_log error))
  sweep_fails error fails moments = record {
    answered = λ t m works may. tt;
    moments = λ t m works may. sweep_stands tells state old new due prepared moments t m works may;
    others = others_on tells state old new fails.touches;
    refused = refuses error fails;
    full = λ t m works may. finds_full error fails m (has_frame m (some_frame m (last_store works.life) may.w due.table due.row may.place may.is.swept may.some));
    sound = λ t m works. passes tells state counts old new well error;
    steady = tt;
    well = fails_well tells state counts old new well error fails;
    none_fell = fails.none_fell;
  }
