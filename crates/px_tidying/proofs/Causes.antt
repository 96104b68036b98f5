-- The causes of errors, and that none is damage where the cells are sound.
use Rattle.std.proofs.Common.{◌≡◌, ℕ, ◌≤◌, Bool, true, false, Some, None, Option, sym, ap, subst, ◌∙◌, arith, refl, inl, inr}
use Rattle.std.specs.Prelude.{cond, is_some, nat_lt, unwrap_or}
use Rattle.std.proofs.lemmas.Bool.{cases_Bool, false≢true, ltb-false}
use Rattle.px_held.specs.Errors as held
use Rattle.px_held.specs.declared.error.HeldError.{HeldError}
use Rattle.px_held.specs.declared.error.HeldError.TheVariants as held_errors
use Rattle.px_log.specs.Errors.{HasLogCause, IsFaultOf}
use Rattle.px_log.specs.Log.{Log, full_at, most_frames}
use Rattle.px_log.specs.declared.error.LogError.{LogError}
use Rattle.px_log.specs.declared.error.LogError.TheVariants as log_errors
use Rattle.px_site.specs.Cause.{Counts, HasCause, IsOwn, NoneFell, Rose}
use Rattle.px_site.specs.declared.error.Fault.{Fault as SiteFault}
use Rattle.px_site.specs.declared.error.Fault.TheVariants.{Read, Sync, Tell, Write}
use Rattle.px_site.specs.declared.error.SiteError.{SiteError}
use Rattle.px_site.specs.declared.error.SiteError.TheVariants as site_errors
use Rattle.px_tidying.specs.Errors.{HasTidyCause, IsFileFault, IsPassing, of_held, of_log, of_site}
use Rattle.px_tidying.specs.declared.error.TidyError.{TidyError}
use Rattle.px_tidying.specs.declared.error.TidyError.TheVariants.{OutOfMemory, Fault, LogFull, Damaged}

-- ---- causes

pub held_cause : (old new : Counts) (e : HeldError) → held.HasReadCause old new e → HasTidyCause old new (of_held e)
held_cause old new held_errors.OutOfMemory cause = tt
held_cause old new (held_errors.Fault fault) cause = subst (λ f. Rose (old.faults f) (new.faults f)) (sym cause.0) cause.1
held_cause old new (held_errors.Damaged file place) cause = tt

-- the frame that finds no room is the log's next one
pub next_frame : (log : Log) (frame : ℕ) → full_at log ≡ Some frame → log.frames ≡ frame
next_frame log frame full = elim (cases_Bool (nat_lt log.frames most_frames)) [
  | inl below ↦ absurd (false≢true (ap is_some (sym (ap (λ b. cond b None (Some log.frames)) below) ∙ full)))
  | inr past ↦ ap (λ (o : Option ℕ). unwrap_or o 0) (sym (ap (λ b. cond b None (Some log.frames)) past) ∙ full)
]

full_from : (log : Log) (frame : ℕ) → full_at log ≡ Some frame → most_frames ≤ frame
full_from log frame full = elim (cases_Bool (nat_lt log.frames most_frames)) [
  | inl below ↦ absurd (false≢true (ap is_some (sym (ap (λ b. cond b None (Some log.frames)) below) ∙ full)))
  | inr past ↦ let from : most_frames ≤ log.frames = ltb-false log.frames most_frames past in subst (λ (n : ℕ). most_frames ≤ n) (next_frame log frame full) from
]

pub log_cause : (log : Log) (old new : Counts) (e : LogError) → HasLogCause log old new e → HasTidyCause old new (of_log e)
log_cause log old new log_errors.OutOfMemory cause = tt
log_cause log old new (log_errors.Fault fault) cause = cause
log_cause log old new (log_errors.LogFull frame) cause = full_from log frame cause

pub site_cause : (old new : Counts) (e : SiteError) → HasCause old new e → HasTidyCause old new (of_site e)
site_cause old new site_errors.OutOfMemory cause = tt
site_cause old new (site_errors.Fault fault) cause = cause.fault fault refl

-- a later call's error has its cause from an earlier start on
pub earlier_tidy_cause : (old middle new : Counts) (e : TidyError) → NoneFell old middle → HasTidyCause middle new e → HasTidyCause old new e
earlier_tidy_cause old middle new OutOfMemory fell cause = tt
earlier_tidy_cause old middle new (Fault fault) fell cause = omega (arith, fell.faults fault, cause)
earlier_tidy_cause old middle new (LogFull frame) fell cause = cause
earlier_tidy_cause old middle new (Damaged file place) fell cause = tt

-- ---- no damage

pub held_passes : (e : HeldError) → held.IsPassing e → IsPassing (of_held e)
held_passes held_errors.OutOfMemory passes = tt
held_passes (held_errors.Fault fault) passes = tt
held_passes (held_errors.Damaged file place) passes = passes

pub log_passes : (e : LogError) → IsPassing (of_log e)
log_passes log_errors.OutOfMemory = tt
log_passes (log_errors.Fault fault) = tt
log_passes (log_errors.LogFull frame) = tt

pub site_passes : (e : SiteError) → IsPassing (of_site e)
site_passes site_errors.OutOfMemory = tt
site_passes (site_errors.Fault fault) = tt

-- ---- faults of files

abbrev is_tell : SiteFault → Bool
is_tell Tell = true
is_tell fault = false

read_not_tell : Read ≡ Tell → ⊥
read_not_tell e = false≢true (ap is_tell e)

write_not_tell : Write ≡ Tell → ⊥
write_not_tell e = false≢true (ap is_tell e)

sync_not_tell : Sync ≡ Tell → ⊥
sync_not_tell e = false≢true (ap is_tell e)

pub held_own : (old new : Counts) (e : HeldError) → held.HasReadCause old new e → IsFileFault (of_held e)
held_own old new held_errors.OutOfMemory cause = tt
held_own old new (held_errors.Fault fault) cause = λ is. read_not_tell (sym cause.0 ∙ is)
held_own old new (held_errors.Damaged file place) cause = tt

pub log_own : (e : LogError) → IsFaultOf Write e → IsFileFault (of_log e)
log_own log_errors.OutOfMemory own = tt
log_own (log_errors.Fault fault) own = λ is. write_not_tell (sym own ∙ is)
log_own (log_errors.LogFull frame) own = tt

pub site_own : (e : SiteError) → IsOwn Sync e → IsFileFault (of_site e)
site_own site_errors.OutOfMemory own = tt
site_own (site_errors.Fault fault) own = λ is. sync_not_tell (sym own ∙ is)
