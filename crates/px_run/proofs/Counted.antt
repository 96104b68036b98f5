-- Counts over a call and the telling of its closing line.
use Rattle.std.proofs.Common.{ℕ, Option, arith}
use Rattle.px_site.specs.Cause.{Counts, NoneFell, Rose}
use Rattle.px_calls.specs.declared.status.Status.{Status}
use Rattle.px_calls.specs.declared.status.Status.TheVariants.{Done, Usage, BadLine, NoStore, NotEmpty, Damaged, DiskFault, SourceFault, OutputFault, OutOfMemory, LogFull, TooLong}
use Rattle.px_run.specs.declared.command.Command.{Command}
use Rattle.px_run.specs.Causes.{HasStatusCause, NoCountFell}
use Rattle.px_run.proofs.Closed.{OnOutput}

pub then_no_fall : {x y z : Counts} → NoCountFell x y → NoneFell y z → NoCountFell x z
then_no_fall p q = record {
  faults = λ fault. omega (arith, p.faults fault, q.faults fault);
  tell_faults = omega (arith, p.tell_faults, q.tell_faults);
  shorts = omega (arith, p.shorts, q.shorts);
}

-- the telling of the last line lowers no count
pub later_cause : (command : Option Command) (x y z : Counts) (reads reads_now : ℕ) (status : Status) → HasStatusCause command x y reads reads_now status → NoneFell y z → HasStatusCause command x z reads reads_now status
later_cause command x y z reads reads_now (DiskFault fault) cause fell = (cause.0, cause.1, omega (arith, cause.2, fell.faults fault))
later_cause command x y z reads reads_now OutputFault cause fell = (cause.0, omega (arith, cause.1, fell.tell_faults))
later_cause command x y z reads reads_now Done cause fell = cause
later_cause command x y z reads reads_now Usage cause fell = cause
later_cause command x y z reads reads_now (BadLine k) cause fell = cause
later_cause command x y z reads reads_now NoStore cause fell = cause
later_cause command x y z reads reads_now NotEmpty cause fell = cause
later_cause command x y z reads reads_now (Damaged file place) cause fell = cause
later_cause command x y z reads reads_now SourceFault cause fell = cause
later_cause command x y z reads reads_now OutOfMemory cause fell = cause
later_cause command x y z reads reads_now (LogFull n) cause fell = cause
later_cause command x y z reads reads_now TooLong cause fell = cause

pub output_rose : (command : Option Command) (x y z : Counts) (reads reads_now : ℕ) (status : Status) → HasStatusCause command x y reads reads_now status → NoneFell y z → OnOutput status (Rose x.tell_faults z.tell_faults)
output_rose command x y z reads reads_now OutputFault cause fell = omega (arith, cause.1, fell.tell_faults)
output_rose command x y z reads reads_now _ cause fell = tt
