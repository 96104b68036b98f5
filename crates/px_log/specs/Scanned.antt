-- What was read of a log, before what is torn behind it is cut.
use Rattle.std.specs.Prelude.{◌≡◌, ◌*◌, ◌^◌, ◌≤◌, length}
use Rattle.px_restart.specs.declared.restart.Restart.{Restart}
use Rattle.px_log.specs.Log.{Log}
use Rattle.px_log.specs.MayStand.{MayStand}
use Rattle.px_log.specs.Window.{longest_frame}
use Rattle.px_log.specs.declared.reader.LogScan.{LogScan}

-- as many frames as changes, each of which may stand there, and no durable one is missing
pub record IsScan (restart : Restart) (scan : LogScan) : Type 0 where
  pub held : MayStand restart.tables 0 restart.short scan.changes
  pub count : scan.frames ≡ length scan.changes
  pub reached : restart.durable ≤ scan.frames
  pub stop : scan.stop ≤ longest_frame * scan.frames
  pub below : scan.frames ≤ 2 ^ 48

-- the log of a store with this restart, each of whose frames is on the disk
abbrev pub log_of : Restart → LogScan → Log
log_of restart scan = record { tables = restart.tables; short = restart.short; frames = scan.frames; durable = scan.frames; size = scan.stop }
