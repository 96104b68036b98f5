-- One frame more: what the store, the log and a life then are, whichever step it stands for.
use Rattle.std.proofs.Common.{◌≡◌, ℕ, ◌^◌, ◌<◌, ◌≤◌, true, List, [], ◌∷◌, ◌++◌, Result, Ok, Err, refl, sym, ap, subst, ◌∙◌, arith}
use Rattle.std.specs.Prelude.{OnErr}
use Rattle.px_beginning.proofs.Steps.{last_grown}
use Rattle.px_cells.specs.Form.{is_short}
use Rattle.px_change.specs.declared.change.Change.{Change}
use Rattle.px_held.proofs.Serving.{anywhere}
use Rattle.px_held.specs.Serving.{HasSameForm, HeldTables, Serves}
use Rattle.px_history.specs.Fitting.{PlacesFit}
use Rattle.px_history.specs.Steps.{Step, after_step}
use Rattle.px_history.specs.Store.{Store}
use Rattle.px_life.proofs.Commits as life_commits
use Rattle.px_life.proofs.Done as life_done
use Rattle.px_life.proofs.Fronts.{life_grows}
use Rattle.px_life.specs.Front.{AreStored}
use Rattle.px_life.specs.Life.{Life, end_of, grown, store_at}
use Rattle.px_log.proofs.Touching.{last_moment}
use Rattle.px_log.specs.Log.{HasFirst, IsLogOf, Log, with_frame}
use Rattle.px_model.specs.Machine.{Machine}
use Rattle.px_model.specs.declared.limits.TheConstants.{MOST_TABLES}
use Rattle.px_reached.specs.Reachable.{Marks}
use Rattle.px_restart.specs.declared.restart.Restart.{Restart}
use Rattle.px_shown.specs.Parts.{Parts}
use Rattle.px_site.proofs.Moments.{weaker_moments}
use Rattle.px_site.specs.State.{EachMoment, Moment, OnFile, State}
use Rattle.px_tidying.proofs.Made.{log_first}
use Rattle.px_tidying.specs.Opening.{HasLife, HasStore, Opening}
use Rattle.px_working.proofs.Stepping.{step_lasts}
use Rattle.px_working.specs.Follows.{last_store}
use Rattle.px_working.specs.Lasts.{HasOthersOf, Lasts, LeavesFronts}
use Rattle.px_xlog.specs.Contents.{the_log}
use Rattle.px_appending.specs.Appending.{AddsOn, Changing, GoesOn, LastsAdding, LastsOn, LastsWithin, MayAdd, called}

-- ---- results

pub on_err : {T E : Type 0} (P : Type 0) (r : Result T E) → P → OnErr r P
on_err P (Ok x) holds = tt
on_err P (Err e) holds = holds

-- ---- the store

pub store_after : (store after : Store) (old new : Opening) (change : Change) → HasStore store old
    → Serves new.site new.held after → AreStored after.tables after.layouts → ((t : ℕ) → PlacesFit (after.tables t).header)
    → HasSameForm old.held new.held → new.log ≡ with_frame change old.log → old.log.frames < 2 ^ 48 → HasStore after new
store_after store after old new change has serves numbers places form log below = record {
  serves = serves;
  numbers = numbers;
  places = places;
  is_short = subst (λ (n : ℕ). is_short n ≡ true) (sym form.short) has.is_short;
  few = subst (λ (l : Log). l.tables ≤ MOST_TABLES) (sym log) has.few;
  room = let more = ap (λ (l : Log). l.frames) log in omega (arith, more, below);
  tables = form.count ∙ has.tables ∙ sym (ap (λ (l : Log). l.tables) log);
  short = ap (λ (l : Log). l.short) log ∙ has.short ∙ sym form.short;
}

-- where nothing was appended
pub store_stays : (store : Store) (s other : State) (held after : HeldTables) (log later : Log) → after ≡ held → later ≡ log
    → HasStore store (record { site = s; held = held; log = log }) → HasStore store (record { site = other; held = after; log = later })
store_stays store s other held after log later same its has =
    subst (λ (l : Log). HasStore store (record { site = other; held = after; log = l })) (sym its)
    (subst (λ (h : HeldTables). HasStore store (record { site = other; held = h; log = log })) (sym same)
    (record {
      serves = anywhere s other held store has.serves;
      numbers = has.numbers;
      places = has.places;
      is_short = has.is_short;
      few = has.few;
      room = has.room;
      tables = has.tables;
      short = has.short;
    }))

-- ---- the log

-- at each moment of the call a crash leaves the log's durable frames at least, and at most those with this change
abbrev pub GrowsBy : (tells : Type 0) → Change → (old new : Opening) → Type 0
GrowsBy tells change old new =
    tells → (changes : List Change) → IsLogOf old.log changes old.site
    → EachMoment (OnFile the_log old.site.now (HasFirst old.log.durable (changes ++ change ∷ []))) old.site new.site

-- and after it the log has the change
abbrev pub HasMore : (tells : Type 0) → Change → (old new : Opening) → Type 0
HasMore tells change old new =
    tells → (changes : List Change) → IsLogOf old.log changes old.site → IsLogOf new.log (changes ++ change ∷ []) new.site

-- it is that change, whichever store the tables are those of
abbrev pub IsChange : Changing → Change → Opening → Type 0
IsChange change given o = (store : Store) → HasStore store o → given ≡ change o.held.short store

abbrev pub IsOfStep : Step → Change → Opening → Type 0
IsOfStep step given o = IsChange (called step) given o

-- ---- a life

module _ (parts : Parts) (least : ℕ) (m later : Machine) (life : Life) (restart : Restart) (marks : Marks) (step : Step) (changing : Changing) (old : Opening)
    (may : MayAdd parts least m later life restart marks step (changing restart.short (last_store life)) old) where
  abbrev has : HasLife parts least m life restart marks old
  has = may.has

  abbrev change : Change
  change = changing restart.short (last_store life)

  lasts_with : (now : Moment) → HasOthersOf old.site.now now → LeavesFronts marks.durable (life.changes ++ change ∷ []) (now.files the_log)
      → Lasts parts least later (grown life step change) restart marks now
  lasts_with now others leaves =
      step_lasts life_grows
      (λ parts short tables next rows life restart step change is. life_done.done_goes_on parts short tables next rows life step change is restart)
      (λ short life restart step change. life_commits.commits_go_on short life restart (store_at life (end_of life)) step change)
      parts least m later life restart marks step change old.site.now now has.lasts may.follows others leaves

  same_change : (given : Change) → IsChange changing given old → given ≡ change
  same_change given is =
      is (last_store life) has.store ∙ ap (λ (n : ℕ). changing n (last_store life)) (sym has.store.short ∙ has.short)

  meanwhile : (given : Change) → IsChange changing given old → (now : Moment)
      → OnFile the_log old.site.now (HasFirst old.log.durable (life.changes ++ given ∷ [])) now → LastsWithin parts least later restart old.site.now now
  meanwhile given is now on = record {
    still = record {
      life = grown life step change;
      marks = marks;
      lasts = lasts_with now on.others
          (subst (λ (n : ℕ). LeavesFronts n (life.changes ++ change ∷ []) (now.files the_log)) has.durable
          (subst (λ (c : Change). LeavesFronts old.log.durable (life.changes ++ c ∷ []) (now.files the_log)) (same_change given is) on.this.each));
      told = on.told;
      telling = on.telling;
    };
    others = on.others;
  }

  life_after : (given : Change) (new : Opening) → IsChange changing given old → HasStore (after_step (last_store life) step) new → new.log ≡ with_frame given old.log
      → IsLogOf new.log (life.changes ++ given ∷ []) new.site
      → EachMoment (OnFile the_log old.site.now (HasFirst old.log.durable (life.changes ++ given ∷ []))) old.site new.site
      → HasLife parts least later (grown life step change) restart marks new
  life_after given new is store log logged moments =
      let others : HasOthersOf old.site.now new.site.now =
      last_moment (HasOthersOf old.site.now) (λ name away. refl) (weaker_moments (λ now on. on.others) moments) in
      let durable : new.log.durable ≡ marks.durable = ap (λ (l : Log). l.durable) log ∙ has.durable in
      let whole : IsLogOf new.log (life.changes ++ change ∷ []) new.site =
      subst (λ (c : Change). IsLogOf new.log (life.changes ++ c ∷ []) new.site) (same_change given is) logged in
      record {
        lasts = lasts_with new.site.now others
            (subst (λ (n : ℕ). LeavesFronts n (life.changes ++ change ∷ []) (new.site.now.files the_log)) durable
            (log_first new.log (life.changes ++ change ∷ []) new.site whole store.room));
        store = subst (λ (s : Store). HasStore s new) (sym (last_grown life step change has.lasts.is_life.count)) store;
        logged = whole;
        durable = durable;
        tables = ap (λ (l : Log). l.tables) log ∙ has.tables;
        short = ap (λ (l : Log). l.short) log ∙ has.short;
      }

-- ---- what a call says of all lives

pub adds_on : (tells : Type 0) (step : Step) (changing : Changing) (change : Change) (old new : Opening) → IsChange changing change old
    → ((store : Store) → HasStore store old → HasStore (after_step store step) new) → new.log ≡ with_frame change old.log
    → HasMore tells change old new → GrowsBy tells change old new → AddsOn tells step changing old new
adds_on tells step changing change old new is after log logged moments tell parts least m later life restart marks may =
    life_after parts least m later life restart marks step changing old may change new is (after (last_store life) may.has.store) log
    (logged tell life.changes may.has.logged) (moments tell life.changes may.has.logged)

pub goes_on : (tells : Type 0) (step : Step) (change : Change) (old new : Opening) → IsOfStep step change old
    → ((store : Store) → HasStore store old → HasStore (after_step store step) new) → new.log ≡ with_frame change old.log
    → HasMore tells change old new → GrowsBy tells change old new → GoesOn tells step old new
goes_on tells step change old new = adds_on tells step (called step) change old new

pub lasts_adding : (tells : Type 0) (step : Step) (changing : Changing) (change : Change) (old new : Opening) → IsChange changing change old
    → GrowsBy tells change old new → LastsAdding tells step changing old new
lasts_adding tells step changing change old new is moments tell parts least m later life restart marks may =
    weaker_moments (meanwhile parts least m later life restart marks step changing old may change is) (moments tell life.changes may.has.logged)

pub lasts_on : (tells : Type 0) (step : Step) (change : Change) (old new : Opening) → IsOfStep step change old → GrowsBy tells change old new
    → LastsOn tells step old new
lasts_on tells step change old new = lasts_adding tells step (called step) change old new
