use Rattle.std.proofs.Common.{◌<◌, length, take, ap, sym, ◌∙◌, arith}
use Rattle.std.proofs.lemmas.List.Sums.{fold_more}
use Rattle.px_change.specs.declared.change.Change.{Change}
use Rattle.px_laid.specs.Places.{Places, laid_over, none_laid}
use Rattle.px_opened.specs.Opened.{changes_over}
use Rattle.px_opened.proofs.laying.lay_all.Goals as goal

pub loop-change-preserved : goal.loop-change-preserved
loop-change-preserved c =
    let changes = c.args.changes.now in
    let i = c.loop-change.change-index in
    let below : i < length changes = omega (arith, c.loop-change-test.true) in
    c.in_ok-laid.ensures
    ∙ ap (λ (p : Places). laid_over p c.change-item.result.cells) c.loop-change.invariant
    ∙ ap (λ (change : Change). laid_over (changes_over none_laid (take i changes)) change.cells) c.change-item.is
    ∙ sym (fold_more (λ (places : Places) (change : Change). laid_over places change.cells) none_laid changes i c.change-item.result below)
