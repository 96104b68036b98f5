use Rattle.std.proofs.Common.{List, ℕ, sym, ap, subst, ◌∙◌}
use Rattle.std.specs.Prelude.{is_some}
use Rattle.px_held.specs.Errors.{IsPassing}
use Rattle.px_model.specs.Machine.{view}
use Rattle.px_model.specs.Rows.{row_at}
use Rattle.px_answers.specs.Writing.{IsFound}
use Rattle.px_answers.proofs.Leaving.{if_err}
use Rattle.px_answers.proofs.Seen.{no_row_of_view}
use Rattle.px_answers.proofs.writing.is_there.Goals as goal

pub returns-in_err-row_in-in-Some-clause-sound : goal.returns-in_err-row_in-in-Some-clause-sound
returns-in_err-row_in-in-Some-clause-sound g c = λ tells short store key serves are found.
    let its = subst (IsFound (store.tables c.args.table) key) c.in-Some.is found in
    if_err IsPassing c.from_residual.result c.in_err-row_in-in-Some.field-0.0 c.from_residual.ensures.1 (c.in_err-row_in-in-Some.ensures.sound tells short store serves are its.0)

pub returns-in_ok-row_in-in-Some-clause-there : goal.returns-in_ok-row_in-in-Some-clause-there
returns-in_ok-row_in-in-Some-clause-there g c = λ tells holders m store session xact sees is key found.
    let its = subst (IsFound (store.tables c.args.table) key) c.in-Some.is found in
    c.is_some.ensures
    ∙ ap is_some (c.in_ok-row_in-in-Some.ensures.row tells holders m store session xact sees is its.0)
    ∙ ap (λ (k : List ℕ). is_some (row_at (c.args.table, k) (view m xact))) its.1

pub returns-in-None-clause-there : goal.returns-in-None-clause-there
returns-in-None-clause-there g c = λ tells holders m store session xact sees is key found.
    sym (ap is_some (no_row_of_view c.args.reader.now c.args.table key sees is (subst (IsFound (store.tables c.args.table) key) c.in-None.is found)))
