use Rattle.std.proofs.Common.{ℕ, ◌<◌, ◌≤◌}
use Rattle.px_chain.specs.Sound.{IsUsedRow}
use Rattle.px_tables.specs.Held.{table_of}
use Rattle.px_tidy.proofs.tidying.next_row.Given as goal

abbrev pub invariant-loop-before : goal.invariant-loop-before
invariant-loop-before l = (row : ℕ) → l.after < row → row ≤ l.before → IsUsedRow (table_of l.table.cells) row → ⊥
