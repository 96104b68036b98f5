-- What was done to a site that was lent was done to the site.
use Rattle.std.proofs.Common.{ℕ, ◌-◌, List, Option, arith}
use Rattle.px_site.specs.Cause.{Counts, NoneFell}
use Rattle.px_calls.specs.declared.status.Status.{Status}
use Rattle.px_calls.specs.declared.status.Status.TheVariants.{Done, Usage, BadLine, NoStore, NotEmpty, Damaged, DiskFault, SourceFault, OutputFault, OutOfMemory, LogFull, TooLong}
use Rattle.px_run.specs.declared.command.Command.{Command}
use Rattle.px_site.specs.State.{State}
use Rattle.px_cell_standing.specs.Found.{Found, HoldsStore}
use Rattle.px_play.specs.Input.{script_of}
use Rattle.px_run.specs.Causes.{HasStatusCause, NoCountFell}
use Rattle.px_run.specs.Running.{machine_after}
use Rattle.px_run.specs.Working.{RunsScript}
use Rattle.px_run.proofs.Scripts.{later_spared, on_short}

-- the counts of a reference to a site are the site's
pub lent_cause : (command : Option Command) (old new : Counts) {which which_now : ℕ} (reads reads_now : ℕ) (status : Status) → NoneFell (record old { reference = which }) (record new { reference = which_now }) → HasStatusCause command (record old { reference = which }) (record new { reference = which_now }) reads reads_now status
    → HasStatusCause command old new reads reads_now status
lent_cause command old new reads reads_now (DiskFault fault) fell cause = cause
lent_cause command old new reads reads_now OutputFault fell cause = cause
lent_cause command old new reads reads_now Done fell cause = cause
lent_cause command old new reads reads_now Usage fell cause = cause
lent_cause command old new reads reads_now (BadLine k) fell cause = cause
lent_cause command old new reads reads_now NoStore fell cause = cause
lent_cause command old new reads reads_now NotEmpty fell cause = cause
lent_cause command old new reads reads_now (Damaged file place) fell cause = cause
lent_cause command old new reads reads_now SourceFault fell cause = cause
lent_cause command old new reads reads_now OutOfMemory fell cause = cause
lent_cause command old new reads reads_now (LogFull n) fell cause = cause
lent_cause command old new reads reads_now TooLong fell cause = cause

pub lent_fell : (old new : Counts) {which which_now : ℕ} → NoneFell (record old { reference = which }) (record new { reference = which_now }) → NoCountFell old new
lent_fell old new fell = record { faults = fell.faults; tell_faults = fell.tell_faults; shorts = fell.shorts }

pub lent_runs : (found : Found) (input left : List ℕ) (a b : State) (old new : Counts) {which which_now : ℕ} (status : Status) → RunsScript found input left a b (record old { reference = which }) (record new { reference = which_now }) status
    → RunsScript found input left a b old new status
lent_runs found input left a b old new status runs = record {
  taken = runs.taken;
  in_order = runs.in_order;
  whole = runs.whole;
  read_before = runs.read_before;
  behind = runs.behind;
  ends = runs.ends;
  told = runs.told;
  holds = runs.holds;
  spared = on_short status (λ spared some.
      later_spared (λ requests. HoldsStore (machine_after found requests) b) (λ requests. HoldsStore (machine_after found requests) b) (script_of input) (runs.whole - 1) (λ requests holds. holds) (omega arith) (omega arith) (spared some)) runs.spared;
  numbered = runs.numbered;
}
