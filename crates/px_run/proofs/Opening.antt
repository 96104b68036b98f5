-- What is refused where a store was opened, and where it wasn't.
use Rattle.std.proofs.Common.{ℕ, List, inl, inr}
use Rattle.px_site.specs.State.{State}
use Rattle.px_site.specs.Cause.{Counts}
use Rattle.px_site.specs.declared.name.FileName.{FileName}
use Rattle.px_calls.specs.declared.status.Status.{Status}
use Rattle.px_calls.specs.declared.status.Status.TheVariants.{Usage, NoStore, Damaged}
use Rattle.px_standing.specs.Files.{Files, HasNoRestart}
use Rattle.px_recovery.specs.declared.error.OpenError.{OpenError}
use Rattle.px_recovery.specs.declared.error.OpenError.TheVariants.{OutOfMemory as OpenShort, Fault as OpenFault, NoStore as OpenNone, LogFull as OpenFull, Damaged as OpenDamaged}
use Rattle.px_recovery.specs.declared.opening.OpenReport.{OpenReport}
use Rattle.px_recovery.specs.Errors.{HasDamage, HasRefusal, IsAbsence, IsPassing, status_of_opening}
use Rattle.px_recovery.specs.Opening.{OpensAs}
use Rattle.px_play.specs.Causes.{HasPlayCause, IsUndamaged}
use Rattle.px_run.specs.Causes.{ReadsNothing, RefusesBad, ShowsRefusal}
use Rattle.px_run.specs.Working.{HasDumpCause, RefusesQuietly}

-- ---- it was opened

abbrev pub OpensUnrefused : Type 0
OpensUnrefused = (files : Files) (report : OpenReport) (error : OpenError) → OpensAs files report → HasRefusal files error → IsPassing error

pub opened_whole : OpensUnrefused → (files : Files) (report : OpenReport) (status : Status) → OpensAs files report → RefusesBad files status
opened_whole unrefused files report status opens = record {
  no_store = λ none. absurd (unrefused files report OpenNone opens none);
  damaged = λ file place refusal. absurd (unrefused files report (OpenDamaged file place) opens refusal);
}

-- the statuses by which it isn't refused
abbrev pub IsUnrefused : Status → Type 0
IsUnrefused Usage = ⊥
IsUnrefused NoStore = ⊥
IsUnrefused (Damaged file place) = ⊥
IsUnrefused _ = Unit {0}

pub dump_unrefused : (x y : Counts) (status : Status) → HasDumpCause x y status → IsUndamaged status → IsUnrefused status
dump_unrefused x y Usage cause sound = cause
dump_unrefused x y NoStore cause sound = cause
dump_unrefused x y (Damaged file place) cause sound = sound
dump_unrefused x y _ cause sound = tt

pub play_unrefused : (x y : Counts) (reads reads_now : ℕ) (status : Status) → HasPlayCause x y reads reads_now status → IsUndamaged status → IsUnrefused status
play_unrefused x y reads reads_now Usage cause sound = cause
play_unrefused x y reads reads_now NoStore cause sound = cause
play_unrefused x y reads reads_now (Damaged file place) cause sound = sound
play_unrefused x y reads reads_now _ cause sound = tt

pub unrefused_shows : (files files_now : Files) (status : Status) → IsUnrefused status → ShowsRefusal files files_now status
unrefused_shows files files_now NoStore un = absurd un
unrefused_shows files files_now (Damaged file place) un = absurd un
unrefused_shows files files_now _ un = tt

pub unrefused_quiet : (old new : State) (status : Status) → IsUnrefused status → RefusesQuietly old new status
unrefused_quiet old new Usage un = absurd un
unrefused_quiet old new NoStore un = absurd un
unrefused_quiet old new (Damaged file place) un = absurd un
unrefused_quiet old new _ un = tt

pub played_reads : (tells : Type 0) (x y : Counts) (reads reads_now : ℕ) (before left : List ℕ) (status : Status) → HasPlayCause x y reads reads_now status
    → (tells → IsUndamaged status) → ReadsNothing tells before left status
played_reads tells x y reads reads_now before left NoStore cause sound = absurd cause
played_reads tells x y reads reads_now before left (Damaged file place) cause sound = λ t. absurd (sound t)
played_reads tells x y reads reads_now before left _ cause sound = tt

-- ---- it wasn't

abbrev pub FullUnrefused : Type 0
FullUnrefused = (files : Files) (frame : ℕ) (error : OpenError) → HasRefusal files (OpenFull frame) → HasRefusal files error → IsPassing error

pub unopened_refused : FullUnrefused → (files : Files) (error : OpenError) → HasRefusal files error → (HasNoRestart files → IsAbsence error)
    → RefusesBad files (status_of_opening error)
unopened_refused full files OpenShort refusal absent = record { no_store = λ none. tt; damaged = λ file place damage. tt }
unopened_refused full files (OpenFault fault) refusal absent = record { no_store = absent; damaged = λ file place damage. tt }
unopened_refused full files OpenNone refusal absent = record {
  no_store = λ none. tt;
  damaged = λ file place damage. absurd (without refusal damage);
}
  where
    without : {file : FileName} {place : ℕ} → HasNoRestart files → HasDamage files file place → ⊥
    without none damage = elim damage.picked as (λ _. ⊥) [
      | inl first ↦ none.first damage.restart first.0
      | inr second ↦ none.second damage.restart second.0
    ]
unopened_refused full files (OpenFull frame) refusal absent = record {
  no_store = λ none. absurd (absent none);
  damaged = λ file place damage. absurd (full files frame (OpenDamaged file place) refusal damage);
}
unopened_refused full files (OpenDamaged file place) refusal absent = record {
  no_store = λ none. absurd (absent none);
  damaged = λ file place damage. tt;
}
