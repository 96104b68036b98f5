use Rattle.std.proofs.Common.{ℕ, ◌+◌, drop}
use Rattle.px_memsite.specs.Files.{StandsAt, FitsAt}
use Rattle.px_memsite.proofs.files.place_of.Given as goal

abbrev pub invariant-loop-i : goal.invariant-loop-i
invariant-loop-i l = record {
  stands : (at : ℕ) → StandsAt (drop l.i l.files) l.name at → StandsAt l.files l.name (l.i + at);
  fits : (at : ℕ) → FitsAt (drop l.i l.files) l.name at → FitsAt l.files l.name (l.i + at);
}
