use Rattle.std.proofs.Common.{◌+◌}
use Rattle.px_survey.specs.Cells.{table_in}
use Rattle.px_survey.proofs.Ends.{first_pointer}
use Rattle.px_survey.proofs.rows.flawed_row.Goals as goal

pub returns-then-not-branch-clause-some : goal.returns-then-not-branch-clause-some
returns-then-not-branch-clause-some c =
    first_pointer (table_in c.args.cells.now) (c.loop-i.i + 1) c.loop-i.slots c.args.rows.now c.loop-i.invariant.reaches (c.in_ok-is_sound.ensures.flawed c.if-not-branch.true)
