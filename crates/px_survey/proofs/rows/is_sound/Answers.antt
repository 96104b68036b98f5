use Rattle.std.proofs.Common.{sym, ◌∙◌, inr}
use Rattle.std.proofs.lemmas.Bool.{false≢true}
use Rattle.std.proofs.lemmas.Result.{IfOk-weaker}
use Rattle.px_survey.specs.Cells.{table_in}
use Rattle.px_survey.proofs.Steps.{free_lost, free_more}
use Rattle.px_survey.proofs.rows.is_sound.Goals as goal

pub returns-then-pointer-clause-flawed : goal.returns-then-pointer-clause-flawed
returns-then-pointer-clause-flawed c =
    IfOk-weaker c.is_chain_sound.result _ _ (λ sound flawed e. inr ((c.requires.place, c.if-pointer.true), flawed e)) (c.is_chain_sound.ensures.flawed c.args.rows.now c.requires.reaches)

pub returns-else-pointer-clause-reaches : goal.returns-else-pointer-clause-reaches
returns-else-pointer-clause-reaches c = λ marked.
    free_more (table_in c.args.cells.now) c.args.row c.args.slots.now c.args.rows.now c.requires.reaches c.requires.place c.if-pointer.false marked

pub returns-else-pointer-clause-flawed : goal.returns-else-pointer-clause-flawed
returns-else-pointer-clause-flawed c = λ e.
    free_lost (table_in c.args.cells.now) c.args.row c.args.slots.now c.args.rows.now c.requires.reaches c.requires.place c.if-pointer.false
    (λ marked. false≢true (sym e ∙ marked))
