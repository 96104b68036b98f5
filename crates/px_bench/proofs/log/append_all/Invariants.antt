use Rattle.std.proofs.Common.{◌≡◌}
use Rattle.px_bench.proofs.log.append_all.Given as goal

-- The log keeps its number of tables and its short length, on which alone it rests whether a frame may hold a row.
abbrev pub invariant-loop-number : goal.invariant-loop-number
invariant-loop-number g l = (l.log.tables ≡ l.fn.log.tables) × (l.log.short ≡ l.fn.log.short)
