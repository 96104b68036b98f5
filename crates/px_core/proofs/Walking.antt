-- The committed rows, asked for one after the other: what that answers, and what it leaves.
use Rattle.std.proofs.Common.{◌≡◌, Option, Result, Ok, Err, ap}
use Rattle.std.specs.Prelude.{IfErr, IfOk}
use Rattle.px_active.specs.declared.active.Active.{Active}
use Rattle.px_answers.specs.Reading.{ReadsOnly}
use Rattle.px_committed.specs.Rows.{first_past}
use Rattle.px_held.specs.declared.error.HeldError.{HeldError}
use Rattle.px_held.specs.declared.error.HeldError.TheVariants as held
use Rattle.px_held.specs.Errors as held_errors
use Rattle.px_logged.specs.Recounting.{rows_now}
use Rattle.px_model.specs.declared.key.KeyOf.{KeyOf}
use Rattle.px_model.specs.declared.row.Row.{Row}
use Rattle.px_model.specs.Machine.{Machine}
use Rattle.px_site.specs.Cause.{Counts}
use Rattle.px_site.specs.State.{State}
use Rattle.px_core.specs.Core.{HasRowCause, IsWell}
use Rattle.px_core.specs.Errors.{IsPassing, of_held}
use Rattle.px_core.specs.Serving.{Walks}
use Rattle.px_core.specs.Working.{WorksFor}
use Rattle.px_core.specs.declared.error.CoreError.{CoreError}
use Rattle.px_core.specs.declared.state.Kept.{Kept}
use Rattle.px_core.proofs.Still.{Still, before_still, same_stored, still_well, well_sound}

read_cause : {W : Type 0} (counts : W → Counts) (old new : Kept W) (error : HeldError) → held_errors.HasReadCause (counts old.site) (counts new.site) error
    → HasRowCause counts old new (of_held error)
read_cause counts old new held.OutOfMemory cause = tt
read_cause counts old new (held.Fault fault) cause = cause
read_cause counts old new (held.Damaged file place) cause = tt

read_passes : (error : HeldError) → held_errors.IsPassing error → IsPassing (of_held error)
read_passes held.OutOfMemory passing = tt
read_passes (held.Fault fault) passing = tt
read_passes (held.Damaged file place) passing = passing

module _ {W : Type 0} (tells : Type 0) (state : W → State) (counts : W → Counts) (after : Option KeyOf) (old new : Kept W) (well : IsWell state old)
    (rest : new ≡ record old { site = new.site; held = new.held }) where
  walk_still : (walk : Result (Option Row) HeldError) → ReadsOnly tells state counts old.site new.site old.held new.held walk → Still tells state old new
  walk_still walk reads = record {
    form = reads.stays.form;
    keeps = reads.stays.keeps;
    same = reads.stays.same;
    log = ap (λ (k : Kept W). k.log) rest;
    error = ap (λ (k : Kept W). k.error) rest;
  }

  walks : (walk : Result (Option Row) HeldError) (result : Result (Option Row) CoreError) → ReadsOnly tells state counts old.site new.site old.held new.held walk
      → (tells → (m : Machine) → WorksFor state old m → IfOk result (λ row. row ≡ first_past after (rows_now m)))
      → IfErr result (HasRowCause counts old new) → (tells → IfErr result IsPassing)
      → Walks tells state counts after old new result
  walks walk result reads row cause sound =
      let still = walk_still walk reads in
      let same : new.active ≡ old.active = ap (λ (k : Kept W). k.active) rest in
      record {
        row = row;
        rest = rest;
        same = still.same;
        works = (before_still tells state old new still same).works;
        cause = cause;
        sound = sound;
        well = still_well tells state old new still (ap (λ (a : Active). a.commits) same) (same_stored old.active new.active same) well;
        none_fell = reads.stays.none_fell;
      }

  pub walk_answered : (found : Option Row) → ReadsOnly tells state counts old.site new.site old.held new.held (Ok found)
      → (tells → (m : Machine) → WorksFor state old m → found ≡ first_past after (rows_now m)) → Walks tells state counts after old new (Ok found)
  walk_answered found reads row = walks (Ok found) (Ok found) reads row tt (λ t. tt)

  pub walk_refused : (error : HeldError) → ReadsOnly {T = Option Row} tells state counts old.site new.site old.held new.held (Err error)
      → Walks tells state counts after old new (Err (of_held error))
  walk_refused error reads =
      walks (Err error) (Err (of_held error)) reads (λ t m works. tt) (read_cause counts old new error reads.cause.fault)
      (λ t. read_passes error (reads.cause.sound t old.held.short well.store well.has.serves (well_sound state old well)))
