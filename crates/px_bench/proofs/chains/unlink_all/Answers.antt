use Rattle.std.proofs.Common.{◌-◌, sym, ◌∙◌}
use Rattle.std.proofs.Math.Seq.{take-length}
use Rattle.px_bench.proofs.Runs.{is_used, left_then, run_of_any}
use Rattle.px_bench.proofs.chains.unlink_all.Goals as goal

pub loop-place-init : goal.loop-place-init
loop-place-init c = (c.requires.0, c.requires.1, c.requires.2 ∙ sym (take-length c.args.slots.now))

pub prepare_unlink-requires-clause-used : goal.prepare_unlink-requires-clause-used
prepare_unlink-requires-clause-used c =
    is_used c.loop-place.table.cells c.args.row c.args.slots.now c.loop-place.place c.loop-place-test.true c.loop-place.auto.place c.loop-place.invariant

pub prepare_unlink-requires-clause-run : goal.prepare_unlink-requires-clause-run
prepare_unlink-requires-clause-run c = (
  c.loop-place.place - 1,
  run_of_any c.loop-place.table.cells c.args.row c.args.slots.now c.loop-place.place c.loop-place-test.true c.loop-place.auto.place c.loop-place.invariant,
)

pub loop-place-preserved-in_ok-_cells : goal.loop-place-preserved-in_ok-_cells
loop-place-preserved-in_ok-_cells c =
    left_then c.loop-place.table.cells c.lay_unlinked.new.self.cells c.in_ok-unlinking.unlinking c.args.row c.args.slots.now c.loop-place.place c.loop-place-test.true
    c.loop-place.auto.place c.loop-place.invariant c.in_ok-unlinking.ensures.which c.lay_unlinked.ensures.layout

pub loop-place-preserved : goal.loop-place-preserved
loop-place-preserved c =
    left_then c.loop-place.table.cells c.lay_unlinked.new.self.cells c.in_ok-unlinking.unlinking c.args.row c.args.slots.now c.loop-place.place c.loop-place-test.true
    c.loop-place.auto.place c.loop-place.invariant c.in_ok-unlinking.ensures.which c.lay_unlinked.ensures.layout
