use Rattle.px_laid.specs.Places.{places}
use Rattle.px_opened.proofs.Counted.{counted_read}
use Rattle.px_opened.proofs.Reading.{flawed, opened, surveyed}
use Rattle.px_opened.proofs.opening.open_table.Goals as goal

pub of_cells-requires-clause-sound : goal.of_cells-requires-clause-sound
of_cells-requires-clause-sound c =
    surveyed c.args.short c.args.number (places c.args.laid.now) c.in_ok-cells.cells c.as_slice.result.now c.as_slice-2.result.now c.in_ok-flaw.flaw
    c.in_ok-cells.ensures.ok c.as_slice.ensures.value c.as_slice-2.ensures.value c.in-None.is c.in_ok-flaw.ensures.sound

pub returns-in-Some-clause-err : goal.returns-in-Some-clause-err
returns-in-Some-clause-err c =
    flawed c.args.short c.args.number (places c.args.laid.now) c.in_ok-cells.cells c.as_slice.result.now c.as_slice-2.result.now c.in_ok-flaw.flaw c.in-Some.flaw
    c.damage_of.result c.in_ok-cells.ensures.ok c.as_slice.ensures.value c.as_slice-2.ensures.value c.in-Some.is c.in_ok-flaw.ensures.flaw c.damage_of.ensures

pub returns-in_ok-of_cells-in-None-clause-ok : goal.returns-in_ok-of_cells-in-None-clause-ok
returns-in_ok-of_cells-in-None-clause-ok c =
    opened c.args.short c.args.number (places c.args.laid.now) c.in_ok-cells.cells c.in_ok-of_cells-in-None.field-0.cells c.in_ok-cells.ensures.ok
    c.in_ok-of_cells-in-None.ensures.cells c.in_ok-of_cells-in-None.ensures.layout
    (surveyed c.args.short c.args.number (places c.args.laid.now) c.in_ok-cells.cells c.as_slice.result.now c.as_slice-2.result.now c.in_ok-flaw.flaw
    c.in_ok-cells.ensures.ok c.as_slice.ensures.value c.as_slice-2.ensures.value c.in-None.is c.in_ok-flaw.ensures.sound)

pub returns-in_ok-of_cells-in-None-clause-counted : goal.returns-in_ok-of_cells-in-None-clause-counted
returns-in_ok-of_cells-in-None-clause-counted c =
    counted_read c.args.short c.args.number (places c.args.laid.now) c.in_ok-cells.cells c.in_ok-of_cells-in-None.field-0.cells c.in_ok-cells.ensures.ok
    c.in_ok-of_cells-in-None.ensures.cells
