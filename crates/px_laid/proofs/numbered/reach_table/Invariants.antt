use Rattle.std.proofs.Common.{◌≡◌, ℕ, length}
use Rattle.px_laid.specs.Numbered.{bytes_in}
use Rattle.px_laid.proofs.numbered.reach_table.Given as goal

abbrev pub invariant-loop-added : goal.invariant-loop-added
invariant-loop-added l = record {
  long : length l.tables.items ≡ l._added;
  same : (t number : ℕ) → bytes_in l.tables.items t number ≡ bytes_in l.fn.tables.items t number;
}
