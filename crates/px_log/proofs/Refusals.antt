-- What the errors of an opening say and leave.
use Rattle.std.proofs.Common.{◌≡◌, ℕ, ◌<◌, List, length, inl, arith}
use Rattle.px_change.specs.declared.change.Change.{Change}
use Rattle.px_restart.specs.declared.restart.Restart.{Restart}
use Rattle.px_site.specs.Cause.{Counts}
use Rattle.px_site.specs.State.{State}
use Rattle.px_log.specs.declared.error.LogOpenError.{LogOpenError}
use Rattle.px_log.specs.declared.error.LogOpenError.TheVariants.{OutOfMemory, Fault as FaultOf, Damaged}
use Rattle.px_log.specs.Contents.{StopsShort}
use Rattle.px_log.specs.Errors.{LeavesSite}
use Rattle.px_log.specs.MayStand.{MayStand}
use Rattle.px_log.specs.Scanning.{ScansTo}

pub leaves_same : {before now : State} (old new : Counts) (error : LogOpenError) → now ≡ before → LeavesSite before now old new error
leaves_same old new OutOfMemory same = inl same
leaves_same old new (FaultOf fault) same = tt
leaves_same old new (Damaged file place) same = same

pub stops_short : (content : List ℕ) (restart : Restart) (changes : List Change) (stop count : ℕ) → ScansTo content changes stop → MayStand restart.tables 0 restart.short changes
    → count ≡ length changes → count < restart.durable → StopsShort restart content stop
stops_short content restart changes stop count scan held many below = record {
  before = changes;
  scanned = scan.scanned;
  held = held;
  below = omega (arith, many, below);
  at = scan.place;
}
