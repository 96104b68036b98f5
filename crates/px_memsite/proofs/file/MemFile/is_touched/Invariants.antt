use Rattle.std.proofs.Common.{◌≡◌, drop}
use Rattle.px_site.specs.Disk.{touched}
use Rattle.px_memsite.specs.Files.{newest_first}
use Rattle.px_memsite.proofs.file.MemFile.is_touched.Given as goal

abbrev pub invariant-loop-change : goal.invariant-loop-change
invariant-loop-change l = touched (newest_first (drop l.change-index l.self.pending.items)) l.at ≡ touched (newest_first l.self.pending.items) l.at
