use Rattle.std.proofs.Common.{◌≡◌, take}
use Rattle.px_site.specs.Disk.{overlaid}
use Rattle.px_memsite.specs.Files.{newest_first}
use Rattle.px_memsite.proofs.file.MemFile.written.Given as goal

abbrev pub invariant-loop-change : goal.invariant-loop-change
invariant-loop-change l = l.bytes.items ≡ overlaid l.self.synced.items (newest_first (take l.change-index l.self.pending.items))
