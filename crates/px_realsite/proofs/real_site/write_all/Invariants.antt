use Rattle.std.proofs.Common.{◌≤◌, ◌<◌, length}
use Rattle.px_realsite.specs.Traffic.{Asked, Moved, OnlyTells}
use Rattle.px_realsite.proofs.real_site.write_all.Given as goal

abbrev pub invariant-loop : goal.invariant-loop
invariant-loop g l = record {
  within : l.done ≤ length l.bytes;
  asked : 0 < l.done → Asked l.initial.system.traffic l.system.traffic;
  moved : Moved l.initial.system.traffic.bytes_told l.system.traffic.bytes_told l.done;
  only : OnlyTells l.initial.system.traffic l.system.traffic;
}
