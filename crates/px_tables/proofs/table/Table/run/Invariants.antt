use Rattle.std.proofs.Common.{ℕ}
use Rattle.px_chain.specs.Places.{IsRun}
use Rattle.px_chain.specs.Sound.{Layout}
use Rattle.px_tables.specs.Held.{HasLayout}
use Rattle.px_tables.specs.Unlinking.{AreRead}
use Rattle.px_tables.proofs.table.Table.run.Given as goal

abbrev pub invariant-loop-met : goal.invariant-loop-met
invariant-loop-met l = (layout : Layout) (row newer from : ℕ) → HasLayout l.self.cells layout → IsRun (layout.chain row) from newer l.first l.count
    → AreRead l.self.cells (layout.chain row) from l._met l.gone.items l.number
