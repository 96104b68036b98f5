use Rattle.std.proofs.Common.{◌+◌}
use Rattle.px_survey.specs.Cells.{table_in}
use Rattle.px_survey.specs.Surveyed.{AreKeys, HasKey, Reaches}
use Rattle.px_survey.proofs.rows.flawed_row.Given as goal

abbrev pub invariant-loop-i : goal.invariant-loop-i
invariant-loop-i l =
    record {
      reaches : Reaches (table_in l.cells) (l.i + 1) l.slots l.rows;
      keys : AreKeys (table_in l.cells) (l.i + 1) (HasKey l.keys);
    }
