use Rattle.std.proofs.Common.{◌≡◌, take}
use Rattle.px_chain.specs.Sound.{Layout}
use Rattle.px_tables.specs.Held.{HasLayout}
use Rattle.px_bench.proofs.chains.unlink_all.Given as goal

abbrev pub invariant-loop-place : goal.invariant-loop-place
invariant-loop-place l = (layout : Layout) × HasLayout l.table.cells layout × (layout.chain l.row ≡ take l.place l.slots)
