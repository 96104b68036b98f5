-- What goes with a write that is due, and the sweep behind it.
use Rattle.std.proofs.Common.{◌≡◌, ◌≢◌, ℕ, ◌+◌, ◌≤◌, Option, Some, None, Result, Ok, Err, refl, sym, ap, subst, ◌∙◌, inl, arith}
use Rattle.std.specs.Prelude.{⊤, IfSome}
use Rattle.px_active.proofs.Sweeping.{due_stored}
use Rattle.px_active.specs.Active.{IsActiveOf}
use Rattle.px_active.specs.declared.active.Active.{Active}
use Rattle.px_answers.specs.Reading.{Stays}
use Rattle.px_appending.specs.Unlinks.{MayBeUnlinked}
use Rattle.px_calls.specs.declared.reply.Reply.{Reply}
use Rattle.px_calls.specs.declared.reply.Reply.TheVariants.{Swept}
use Rattle.px_cell_laws.proofs.Due.{due_swept, due_there}
use Rattle.px_cell_laws.proofs.Sweeping.{version_at}
use Rattle.px_cell_laws.specs.Locating.{without_first}
use Rattle.px_chain.specs.Places.{IsRun, StandsAt}
use Rattle.px_chain_laws.proofs.Sweeping.{one_base}
use Rattle.px_held.proofs.Due.{due_is_swept}
use Rattle.px_held.specs.declared.error.HeldError.{HeldError}
use Rattle.px_held.specs.declared.error.HeldError.TheVariants as held
use Rattle.px_held.specs.declared.prepared.PreparedUnlink.{PreparedUnlink}
use Rattle.px_held.specs.declared.run.Run.{Run}
use Rattle.px_held.specs.Errors as held_errors
use Rattle.px_held.specs.Sweeping.{GoesWith, IsRunOf, IsSweepOf, gone_count, gone_from}
use Rattle.px_held.specs.Unlinking.{GoFrom, HasVersions, IsUnlinkReady, unlink_from}
use Rattle.px_history.specs.Fitting.{IsStoredNumber}
use Rattle.px_history.specs.Steps.{Step}
use Rattle.px_history.specs.Store.{Store}
use Rattle.px_model.specs.declared.machine.Flat.{Flat}
use Rattle.px_model.specs.Machine.{Machine}
use Rattle.px_shown.specs.Parts.{no_parts}
use Rattle.px_site.proofs.Moments.{same_moment}
use Rattle.px_site.specs.Cause.{Counts, Rose}
use Rattle.px_site.specs.declared.error.Fault.{Fault}
use Rattle.px_site.specs.declared.error.Fault.TheVariants.{Read}
use Rattle.px_site.specs.State.{State}
use Rattle.px_working.specs.Follows.{last_store}
use Rattle.px_xacts.specs.declared.answers.Due.{Due}
use Rattle.px_xacts.specs.Transactions as xacts
use Rattle.px_core.specs.Core.{IsWell, opening_of}
use Rattle.px_core.specs.Errors.{IsPassing, of_held}
use Rattle.px_core.specs.Sweeping.{FindsGone, IsUnlinkOf, MaySweep, RefusesSweep, Sweeps, TakesNothing}
use Rattle.px_core.specs.Working.{AsBefore, LeavesAtFault, WorksFor}
use Rattle.px_core.specs.declared.error.CoreError.{CoreError}
use Rattle.px_core.specs.declared.error.CoreError.TheVariants.{OutOfMemory, Fault as FaultOf, LogFull, Damaged}
use Rattle.px_core.specs.declared.state.Kept.{Kept}
use Rattle.px_core.proofs.Behind.{sweeps_behind}
use Rattle.px_core.proofs.Still.{Still, before_still, only_reads, same_stored, still_well}
use Rattle.px_core.proofs.Sweeping.{PassesOne, passed_sweeps}

-- ---- what is found

-- the machine's write that is due
pub swept_next : {W : Type 0} (state : W → State) (core : Kept W) (m : Machine) (works : WorksFor state core m) (due : Due) → xacts.due core.active.xacts ≡ Some due
    → (w : Flat) × (place : ℕ) × IsSweepOf m (last_store works.life) due w place
swept_next state core m works due is =
    due_is_swept due_there due_swept version_at one_base no_parts m core.active.xacts (last_store works.life) due works.active.mirrors works.works.holds works.written_at is

pub takes_nothing : (m : Machine) (store : Store) (due : Due) (w : Flat) (place : ℕ) → IsSweepOf m store due w place → gone_count store due place ≡ 0 → TakesNothing m store due
takes_nothing m store due w place is none = record { w = w; place = place; is = is; none = is.count ∙ none }

-- it is what was found
pub record IsPreparedOf (due : Due) (run : Run) (prepared : PreparedUnlink) : Type 0 where
  pub table : prepared.table ≡ due.table
  pub row : prepared.unlinking.row ≡ due.row
  pub first : prepared.unlinking.first ≡ run.first
  pub count : prepared.unlinking.count ≡ run.count

stand_from : (store : Store) (due : Due) (run : Run) (prepared : PreparedUnlink) (from : ℕ) → IsPreparedOf due run prepared
    → IsRun ((store.layouts due.table).chain due.row) from run.newer run.first run.count → GoFrom store prepared from
stand_from store due run prepared from is stands =
    rw (is.table, is.row, is.first) (omega (arith, stands.some, stands.within), stands.start)

pub may_sweep : (m : Machine) (store : Store) (due : Due) (w : Flat) (place : ℕ) (run : Run) (prepared : PreparedUnlink) → IsSweepOf m store due w place
    → IsRunOf ((store.layouts due.table).chain due.row) (gone_from store due place) (gone_count store due place) run → IsPreparedOf due run prepared
    → MaySweep m store due prepared
may_sweep m store due w place run prepared is run_of prep = record {
  w = w;
  place = place;
  is = is;
  some = omega (arith, is.count, run_of.stands.some, run_of.many);
  from = gone_from store due place;
  stand = stand_from store due run prepared (gone_from store due place) prep run_of.stands;
  step = same_step prepared.table due.table prepared.unlinking.row due.row prepared.unlinking.count (gone_count store due place) prep.table prep.row (prep.count ∙ run_of.many)
      ∙ sym is.unlink;
}
  where
    same_step : (t u row other count many : ℕ) → t ≡ u → row ≡ other → count ≡ many
        → Step.unlink t row (gone_from store due place) count ≡ Step.unlink u other (gone_from store due place) many
    same_step t u row other count many table its_row counted =
        ap (λ (n : ℕ). Step.unlink n row (gone_from store due place) count) table
        ∙ ap (λ (n : ℕ). Step.unlink u n (gone_from store due place) count) its_row
        ∙ ap (λ (n : ℕ). Step.unlink u other (gone_from store due place) n) counted

module _ {W : Type 0} (tells : Type 0) (state : W → State) (counts : W → Counts) (due : Due) (old new : Kept W) (well : IsWell state old)
    (rest : new ≡ record old { site = new.site; held = new.held }) (stays : Stays tells state counts old.site new.site old.held new.held) where
  gone_still : Still tells state old new
  gone_still = record {
    form = stays.form;
    keeps = stays.keeps;
    same = stays.same;
    log = ap (λ (k : Kept W). k.log) rest;
    error = ap (λ (k : Kept W). k.error) rest;
  }

  pub gone_error : (error : HeldError) → held_errors.HasReadCause (counts old.site) (counts new.site) error
      → (tells → (m : Machine) → WorksFor state old m → held_errors.IsPassing error) → FindsGone tells state counts due old new (Err error)
  gone_error error fault sound = record {
    rest = rest;
    stays = stays;
    fault = fault;
    sound = sound;
    ready = tt;
    goes = λ m works. tt;
  }

  pub gone_nothing : ((m : Machine) (works : WorksFor state old m) → TakesNothing m (last_store works.life) due) → FindsGone tells state counts due old new (Ok None)
  gone_nothing takes = record {
    rest = rest;
    stays = stays;
    fault = tt;
    sound = λ t m works. tt;
    ready = tt;
    goes = takes;
  }

  pub gone_found : (run : Run) (prepared : PreparedUnlink) → IsPreparedOf due run prepared → IsUnlinkReady new.held prepared → run.count ≤ 2
      → HasVersions well.store due.table due.row run.newer run.first run.count → xacts.due old.active.xacts ≡ Some due
      → ((m : Machine) (works : WorksFor state old m) → MaySweep m (last_store works.life) due prepared)
      → FindsGone tells state counts due old new (Ok (Some prepared))
  gone_found run prepared is ready few versions at may =
      let same : new.active ≡ old.active = ap (λ (k : Kept W). k.active) rest in
      let stored : IsStoredNumber (old.active.xacts.base + due.number) =
      subst (λ (next : Option Due). IfSome next (λ (d : Due). IsStoredNumber (old.active.xacts.base + d.number))) at (due_stored old.active.xacts well.stored) in
      record {
        rest = rest;
        stays = stays;
        fault = tt;
        sound = λ t m works. tt;
        ready = record {
          ready = record {
            ready = ready;
            room = omega (arith, is.count, few);
            swept = subst (λ (a : Active). IsStoredNumber (a.xacts.base + due.number)) (sym same) stored;
          };
          store = well.store;
          from = versions.from;
          goes = record {
            has = (only_reads tells state old new gone_still).store well.store well.has;
            stand = stand_from well.store due run prepared versions.from is versions.run;
          };
        };
        goes = may;
      }

-- ---- the sweep behind it

passes_before : {W : Type 0} (old mid new : Kept W) → mid.active ≡ old.active → PassesOne mid new → PassesOne old (record mid { active = new.active })
passes_before old mid new same passes = record {
  active = λ m is. passes.active m (subst (IsActiveOf m) (sym same) is);
  rest = passes.rest ∙ ap (λ (a : Active). record a { xacts = without_first a.xacts }) same;
  stored = λ stored. passes.stored (same_stored old.active mid.active same stored);
}

module _ {W : Type 0} (tells : Type 0) (state : W → State) (counts : W → Counts) (due : Due) (old mid : Kept W) (well : IsWell state old) (whole : old.error ≡ None) where
  finds_still : (result : Result (Option PreparedUnlink) HeldError) → FindsGone tells state counts due old mid result → Still tells state old mid
  finds_still result finds = gone_still tells state counts due old mid well finds.rest finds.stays

  pub finds_same : (result : Result (Option PreparedUnlink) HeldError) → FindsGone tells state counts due old mid result → mid.active ≡ old.active
  finds_same result finds = ap (λ (k : Kept W). k.active) finds.rest

  pub finds_well : (result : Result (Option PreparedUnlink) HeldError) → FindsGone tells state counts due old mid result → IsWell state mid
  finds_well result finds =
      let same = finds_same result finds in
      still_well tells state old mid (finds_still result finds) (ap (λ (a : Active). a.commits) same) (same_stored old.active mid.active same) well

  pub finds_whole : (result : Result (Option PreparedUnlink) HeldError) → FindsGone tells state counts due old mid result → mid.error ≡ None
  finds_whole result finds = (finds_still result finds).error ∙ whole

  read_fault : (fault : Fault) → fault ≡ Read → AsBefore tells state old mid → LeavesAtFault tells state fault old mid
  read_fault fault is before = subst (λ (f : Fault). LeavesAtFault tells state f old mid) (sym is) before

  refuses : (error : HeldError) → held_errors.HasReadCause (counts old.site) (counts mid.site) error → AsBefore tells state old mid
      → RefusesSweep tells state counts old mid (of_held error)
  refuses held.OutOfMemory cause before = record { leaves = before; cause = tt }
  refuses (held.Fault fault) cause before = record {
    leaves = read_fault fault cause.0 before;
    cause = (inl cause.0, subst (λ (f : Fault). Rose ((counts old.site).faults f) ((counts mid.site).faults f)) (sym cause.0) cause.1);
  }
  refuses (held.Damaged file place) cause before = record { leaves = before; cause = tt }

  passes : (error : HeldError) → held_errors.IsPassing error → IsPassing (of_held error)
  passes held.OutOfMemory passing = tt
  passes (held.Fault fault) passing = tt
  passes (held.Damaged file place) passing = passing

  not_full : (error : HeldError) (n : ℕ) → of_held error ≢ LogFull n
  not_full held.OutOfMemory n = λ e. absurd cc
  not_full (held.Fault fault) n = λ e. absurd cc
  not_full (held.Damaged file place) n = λ e. absurd cc

  pub sweep_gives_up : (error : HeldError) → FindsGone tells state counts due old mid (Err error)
      → Sweeps tells state counts old mid (λ m works. ⊤) (Err (of_held error))
  sweep_gives_up error finds =
      let still = finds_still (Err error) finds in
      record {
        answered = λ t m works holds. tt;
        moments = λ t m works holds. same_moment (still.same t);
        others = λ t m works. same_moment (still.same t);
        refused = refuses error finds.fault (before_still tells state old mid still (finds_same (Err error) finds));
        full = λ t m works holds n is. absurd (not_full error n is);
        sound = λ t m works. passes error (finds.sound t m works);
        steady = tt;
        well = finds_well (Err error) finds;
        none_fell = finds.stays.none_fell;
      }

  pub sweep_behind : (prepared : PreparedUnlink) (new : Kept W) (result : Result Reply CoreError) → FindsGone tells state counts due old mid (Ok (Some prepared))
      → Sweeps tells state counts mid new (λ m works. MaySweep m (last_store works.life) due prepared) result
      → Sweeps tells state counts old new (λ m works. ⊤) result
  sweep_behind prepared new result finds sweeps =
      sweeps_behind tells state counts old mid new (finds_still (Ok (Some prepared)) finds) (finds_same (Ok (Some prepared)) finds) finds.stays.none_fell
      (λ m works. ⊤) (λ m works. MaySweep m (last_store works.life) due prepared) result (λ t m works holds. finds.goes m works) sweeps

  pub sweep_past : (new : Kept W) → FindsGone tells state counts due old mid (Ok None) → xacts.due old.active.xacts ≡ Some due
      → new ≡ record mid { active = new.active } → PassesOne mid new → Sweeps tells state counts old new (λ m works. ⊤) (Ok (Swept due.number))
  sweep_past new finds at is passes =
      let same = finds_same (Ok None) finds in
      let still = finds_still (Ok None) finds in
      subst (λ (k : Kept W). Sweeps tells state counts old k (λ m works. ⊤) (Ok (Swept due.number))) (sym is)
      (passed_sweeps tells state counts old (record mid { active = new.active }) due
      (record { form = still.form; keeps = still.keeps; same = still.same; log = still.log; error = still.error })
      (passes_before old mid new same passes) at well whole finds.stays.none_fell finds.goes)
