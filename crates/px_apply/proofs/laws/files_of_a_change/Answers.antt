use Rattle.std.proofs.Common.{◌≡◌, ◌∷◌, false, true, List, sym, ap, subst, ◌∙◌}
use Rattle.px_cells.specs.declared.cell.Cell.{Cell}
use Rattle.px_change.specs.Grammar.{rise}
use Rattle.px_apply.specs.Contents.{is_file_of}
use Rattle.px_apply.proofs.Apart.{in_order, one_table}
use Rattle.px_apply.proofs.laws.files_of_a_change.Goals as goal

pub returns : goal.returns
returns c = λ short change first others file ok are rec row.
    let up : rise (first ∷ others) ≡ true = ap rise (sym are) ∙ (in_order short change ok).rising in
    subst (λ (cells : List Cell). is_file_of cells file ≡ false) (sym are) (one_table first others file up rec row)
