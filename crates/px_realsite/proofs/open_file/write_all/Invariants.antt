use Rattle.std.proofs.Common.{◌≤◌, ◌<◌, length}
use Rattle.px_realsite.specs.Piece.{EndsWith}
use Rattle.px_realsite.specs.Traffic.{Asked, Moved, OnlyWrites}
use Rattle.px_realsite.proofs.open_file.write_all.Given as goal

abbrev pub invariant-loop : goal.invariant-loop
invariant-loop g l = record {
  within : l.done ≤ length l.bytes;
  asked : 0 < l.done → Asked l.initial.system.traffic l.system.traffic;
  moved : Moved l.initial.system.traffic.bytes_written l.system.traffic.bytes_written l.done;
  piece : 0 < l.done → EndsWith l.handle.name l.place l.done l.system.written;
  only : OnlyWrites l.initial.system.traffic l.system.traffic;
}
