use Rattle.std.proofs.Common.{inl, inr}
use Rattle.px_survey.specs.Cells.{table_in}
use Rattle.px_survey.specs.Flaws.{IsOnFreeSlots, IsOnFreeRows}
use Rattle.px_chain.specs.Sound.{head_of, next_slot}
use Rattle.px_survey.proofs.Walked.{fails_strays}
use Rattle.px_survey.proofs.Steps.{begun}
use Rattle.px_survey.proofs.surveying.free_lists_end.Goals as goal

pub returns-then-walk-clause-reaches : goal.returns-then-walk-clause-reaches
returns-then-walk-clause-reaches c = λ e.
    begun (table_in c.args.cells.now) c.args.slots.now c.args.rows.now c.walk.new.marks c.walk-then-walk.new.marks c.requires.no_slots c.requires.no_rows
    (c.walk.ensures.ends c.if-walk.true) (c.walk-then-walk.ensures.ends e)

pub returns-then-walk-clause-flawed : goal.returns-then-walk-clause-flawed
returns-then-walk-clause-flawed c = λ e.
    inr (fails_strays (IsOnFreeRows (table_in c.args.cells.now)) (head_of (table_in c.args.cells.now)) c.args.cells.now.header.now.free_row c.args.rows.now c.requires.no_rows
    (c.walk-then-walk.ensures.fails e))

pub returns-else-walk-clause-flawed : goal.returns-else-walk-clause-flawed
returns-else-walk-clause-flawed c = λ e.
    inl (fails_strays (IsOnFreeSlots (table_in c.args.cells.now)) (next_slot (table_in c.args.cells.now)) c.args.cells.now.header.now.free_slot c.args.slots.now c.requires.no_slots
    (c.walk.ensures.fails e))
