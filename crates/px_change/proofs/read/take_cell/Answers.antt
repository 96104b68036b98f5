use Rattle.std.proofs.Common.{◌<◌, ◌++◌, ℕ, List, length, refl, sym, ap, ◌∙◌, arith}
use Rattle.std.proofs.lemmas.List.{length-append}
use Rattle.px_change.proofs.Cells.{length-cell_text, same_head, cell_there}
use Rattle.px_change.proofs.read.take_cell.Goals as goal

pub returns-in_default-clause-none : goal.returns-in_default-clause-none
returns-in_default-clause-none c = λ cell rest there. absurd (omega (arith, c.in_default.ensures.none, ap length there.front, length-cell_text cell rest))

pub returns-in_default-cell_of_code-clause-none : goal.returns-in_default-cell_of_code-clause-none
returns-in_default-cell_of_code-clause-none c = λ cell rest there.
    let same = same_head c.args.fields.now _ _ _ _ _ cell rest c.in-Some.ensures.some there in
    c.in_default-cell_of_code.ensures.none cell.what (sym same.what_is)

pub returns-in_default-take_slice-clause-none : goal.returns-in_default-take_slice-clause-none
returns-in_default-take_slice-clause-none c = λ cell rest there.
    let same = same_head c.args.fields.now _ _ _ _ _ cell rest c.in-Some.ensures.some there in
    let short : length c.take_cell_head.new.fields < c.from.result = c.in_default-take_slice.ensures.none.0 refl in
    absurd (omega (arith, short, c.from.ensures, same.size_is, ap length same.behind_is, length-append cell.bytes rest))

pub returns-clause-some : goal.returns-clause-some
returns-clause-some c =
    cell_there c.args.fields.now _ _ _ _ _ c.take_slice.new.self _ c.in-Some.ensures.some c.in-Some-cell_of_code.ensures.some refl refl
    (c.in-Some-take_slice.ensures.taken ∙ ap (λ (l : List ℕ). l ++ c.take_slice.new.self) (sym c.in_ok-bytes.ensures))
    (omega (arith, ap length c.in_ok-bytes.ensures, c.in-Some-take_slice.ensures.size, c.from.ensures))
