-- The causes of errors, what they say of the log, and what they leave.
use Rattle.std.proofs.Common.{◌≡◌, ℕ, ◌+◌, false, List, length, refl, sym, subst, arith, inl, inr}
use Rattle.std.specs.Prelude.{IfErr, Result, Ok, Err}
use Rattle.px_change.specs.declared.change.Change.{Change}
use Rattle.px_held.specs.Errors as held
use Rattle.px_held.specs.Serving.{HeldTables, Serves}
use Rattle.px_held.specs.declared.error.HeldError.{HeldError}
use Rattle.px_held.specs.declared.error.HeldError.TheVariants as held_errors
use Rattle.px_history.specs.Store.{Store}
use Rattle.px_laid.specs.Places.{none_laid}
use Rattle.px_log.specs.Contents.{Scans}
use Rattle.px_log.specs.Errors.{CountsLogFault, HasOpenCause, IsOfSite}
use Rattle.px_log.specs.declared.error.LogOpenError.{LogOpenError}
use Rattle.px_log.specs.declared.error.LogOpenError.TheVariants as log_errors
use Rattle.px_opened.specs.Damage.{IsErrorIn}
use Rattle.px_opened.specs.Opened.{Opens, changes_over}
use Rattle.px_opened.specs.declared.error.OpenedError.{OpenedError}
use Rattle.px_opened.specs.declared.error.OpenedError.TheVariants as opened_errors
use Rattle.px_restart.specs.declared.restart.Restart.{Restart}
use Rattle.px_shown.specs.Tables.{Layouts, Tables}
use Rattle.px_site.specs.Cause.{Counts, NoneFell, Rose}
use Rattle.px_site.specs.State.{State}
use Rattle.px_tidy.specs.Steps.{tidying_tables}
use Rattle.px_tidying.specs.Errors as tidying
use Rattle.px_tidying.specs.Numbers.{IsUnstoredIn}
use Rattle.px_tidying.specs.declared.error.TidyError.{TidyError}
use Rattle.px_tidying.specs.declared.error.TidyError.TheVariants as tidy_errors
use Rattle.px_cell_opening.specs.Found.{HasFound, HoldsTables}
use Rattle.px_cell_opening.specs.Errors.{HasCellsCause, HasRefusal, IsPassing, LeavesDamaged, of_held, of_log, of_tables, of_tidying}
use Rattle.px_cell_opening.specs.Opened.{store_of}
use Rattle.px_cell_opening.specs.declared.opening.Found.{Found}
use Rattle.px_cell_opening.specs.declared.error.CellsError.{CellsError}
use Rattle.px_cell_opening.specs.declared.error.CellsError.TheVariants.{OutOfMemory, Fault, LogFull, Damaged}

-- ---- causes

pub log_cause : (old new : Counts) (e : LogOpenError) → CountsLogFault old new e → HasCellsCause old new (of_log e)
log_cause old new log_errors.OutOfMemory cause = tt
log_cause old new (log_errors.Fault fault) cause = cause
log_cause old new (log_errors.Damaged file place) cause = tt

pub tables_cause : (old new : Counts) (e : OpenedError) → HasCellsCause old new (of_tables e)
tables_cause old new opened_errors.OutOfMemory = tt
tables_cause old new (opened_errors.Damaged file place) = tt

pub held_cause : (old new : Counts) (e : HeldError) → held.HasReadCause old new e → HasCellsCause old new (of_held e)
held_cause old new held_errors.OutOfMemory cause = tt
held_cause old new (held_errors.Fault fault) cause = subst (λ f. Rose (old.faults f) (new.faults f)) (sym cause.0) cause.1
held_cause old new (held_errors.Damaged file place) cause = tt

pub tidy_cause : (old new : Counts) (e : TidyError) → tidying.HasTidyCause old new e → HasCellsCause old new (of_tidying e)
tidy_cause old new tidy_errors.OutOfMemory cause = tt
tidy_cause old new (tidy_errors.Fault fault) cause = cause
tidy_cause old new (tidy_errors.LogFull frame) cause = cause
tidy_cause old new (tidy_errors.Damaged file place) cause = tt

-- a later call's error has its cause from an earlier start on
pub earlier_cause : (old middle new : Counts) (e : CellsError) → NoneFell old middle → HasCellsCause middle new e → HasCellsCause old new e
earlier_cause old middle new OutOfMemory fell cause = tt
earlier_cause old middle new (Fault fault) fell cause = omega (arith, fell.faults fault, cause)
earlier_cause old middle new (LogFull frame) fell cause = cause
earlier_cause old middle new (Damaged file place) fell cause = tt

pub earlier_if : {T : Type 0} (r : Result T CellsError) (old middle new : Counts) → NoneFell old middle → IfErr r (HasCellsCause middle new) → IfErr r (HasCellsCause old new)
earlier_if (Ok x) old middle new fell cause = tt
earlier_if (Err e) old middle new fell cause = earlier_cause old middle new e fell cause

pub open_cause : (old new : Counts) (e : LogOpenError) → IsOfSite old new e → HasCellsCause old new (of_log e)
open_cause old new log_errors.OutOfMemory cause = tt
open_cause old new (log_errors.Fault fault) cause = cause
open_cause old new (log_errors.Damaged file place) cause = absurd cause

-- ---- refusals

pub log_refusal : (restart : Restart) (bytes : List ℕ) (old new : Counts) (e : LogOpenError) → HasOpenCause restart bytes old new e → HasRefusal restart bytes (of_log e)
log_refusal restart bytes old new log_errors.OutOfMemory cause = tt
log_refusal restart bytes old new (log_errors.Fault fault) cause = tt
log_refusal restart bytes old new (log_errors.Damaged file place) cause = inl (record { its_file = cause.0; damage = cause.1 })

pub tables_refusal : (restart : Restart) (bytes : List ℕ) (changes : List Change) (e : OpenedError) → Scans restart bytes changes
    → IsErrorIn restart.short restart.tables (changes_over none_laid changes) e → HasRefusal restart bytes (of_tables e)
tables_refusal restart bytes changes opened_errors.OutOfMemory scan is = tt
tables_refusal restart bytes changes (opened_errors.Damaged file place) scan is = inr (inl (record { changes = changes; scan = scan; damage = is }))

pub held_refusal : (restart : Restart) (bytes : List ℕ) (changes : List Change) (found : Tables) (layouts : Layouts) (e : HeldError) → Scans restart bytes changes
    → Opens restart.short restart.tables (changes_over none_laid changes) found layouts → held.IfDamage (IsUnstoredIn restart.short restart.tables found) e
    → HasRefusal restart bytes (of_held e)
held_refusal restart bytes changes found layouts held_errors.OutOfMemory scan opens is = tt
held_refusal restart bytes changes found layouts (held_errors.Fault fault) scan opens is = tt
held_refusal restart bytes changes found layouts (held_errors.Damaged file place) scan opens is =
    inr (inr (record { changes = changes; scan = scan; found = found; layouts = layouts; opens = opens; unstored = is }))

pub next_refusal : (restart : Restart) (bytes : List ℕ) (changes slice : List Change) (before : HeldTables) (old : State) (e : HeldError) → Scans restart bytes changes → slice ≡ changes
    → HoldsTables restart.short restart.tables slice before
    → ((store : Store) → Serves old before store → held.IfDamage (IsUnstoredIn before.short restart.tables store.tables) e) → HasRefusal restart bytes (of_held e)
next_refusal restart bytes changes slice before old e scan same holds unstored =
    let store : Store = record { tables = holds.found; layouts = holds.layouts; done = λ xn. false; over = λ xn. false } in
    held_refusal restart bytes changes holds.found holds.layouts e scan
    (subst (λ (l : List Change). Opens restart.short restart.tables (changes_over none_laid l) holds.found holds.layouts) same holds.opens)
    (subst (λ (n : ℕ). held.IfDamage (IsUnstoredIn n restart.tables holds.found) e) holds.its_short (unstored store (holds.serves old store refl refl)))

pub tidy_passes : (e : TidyError) → tidying.IsPassing e → IsPassing (of_tidying e)
tidy_passes tidy_errors.OutOfMemory passes = tt
tidy_passes (tidy_errors.Fault fault) passes = tt
tidy_passes (tidy_errors.LogFull frame) passes = tt
tidy_passes (tidy_errors.Damaged file place) passes = passes

-- the tidying's LogFull names one of the frames in which what nobody will see was to be unlinked
pub tidy_refusal : (restart : Restart) (bytes : List ℕ) (found : Found) (has : HasFound restart found) (old new : Counts) (e : TidyError) → Scans restart bytes found.changes
    → tidying.IsPassing e → tidying.HasTidyCause old new e
    → let store = store_of restart found.changes found.next has.holds.found has.holds.layouts in
    tidying.IsFullWithin found.log.frames (found.log.frames + length (tidying_tables store restart.tables)) e → HasRefusal restart bytes (of_tidying e)
tidy_refusal restart bytes found has old new tidy_errors.OutOfMemory scan passes cause full = tt
tidy_refusal restart bytes found has old new (tidy_errors.Fault fault) scan passes cause full = tt
tidy_refusal restart bytes found has old new (tidy_errors.LogFull frame) scan passes cause full = record {
  changes = found.changes;
  scan = scan;
  found = has.holds.found;
  layouts = has.holds.layouts;
  opens = has.holds.opens;
  stored = has.stored;
  next = found.next;
  is_next = has.next;
  none_left = cause;
  below = omega (arith, full.1, has.frames);
}
tidy_refusal restart bytes found has old new (tidy_errors.Damaged file place) scan passes cause full = absurd passes

-- a call that opens the log behind what was read of it finds no damage
pub open_refusal : (restart : Restart) (bytes : List ℕ) (old new : Counts) (e : LogOpenError) → IsOfSite old new e → HasRefusal restart bytes (of_log e)
open_refusal restart bytes old new log_errors.OutOfMemory is = tt
open_refusal restart bytes old new (log_errors.Fault fault) is = tt
open_refusal restart bytes old new (log_errors.Damaged file place) is = absurd is

-- ---- what an error leaves

pub same_leaves : (old new : State) (e : CellsError) → new ≡ old → LeavesDamaged old new e
same_leaves old new OutOfMemory same = tt
same_leaves old new (Fault fault) same = tt
same_leaves old new (LogFull frame) same = tt
same_leaves old new (Damaged file place) same = same

pub open_leaves : (a b : State) (old new : Counts) (e : LogOpenError) → IsOfSite old new e → LeavesDamaged a b (of_log e)
open_leaves a b old new log_errors.OutOfMemory is = tt
open_leaves a b old new (log_errors.Fault fault) is = tt
open_leaves a b old new (log_errors.Damaged file place) is = absurd is

pub passing_leaves : {T : Type 0} (old new : State) (r : Result T CellsError) → IfErr r IsPassing → IfErr r (LeavesDamaged old new)
passing_leaves old new (Ok x) passes = tt
passing_leaves old new (Err OutOfMemory) passes = tt
passing_leaves old new (Err (Fault fault)) passes = tt
passing_leaves old new (Err (LogFull frame)) passes = tt
passing_leaves old new (Err (Damaged file place)) passes = absurd passes
