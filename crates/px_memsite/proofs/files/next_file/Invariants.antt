use Rattle.std.proofs.Common.{◌≡◌, drop}
use Rattle.px_memsite.specs.Files.{next_in}
use Rattle.px_memsite.proofs.files.next_file.Given as goal

abbrev pub invariant-loop-file : goal.invariant-loop-file
invariant-loop-file l = next_in (drop l.file-index l.files) l.after ≡ next_in l.files l.after
