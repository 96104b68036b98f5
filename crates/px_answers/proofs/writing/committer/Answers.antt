use Rattle.std.proofs.Common.{Option, ap, subst, ◌∙◌}
use Rattle.px_chain.specs.declared.views.SlotView.{SlotView}
use Rattle.px_answers.specs.declared.caller.Opened.{Opened}
use Rattle.px_answers.specs.Writing.{IsFound, committed_since}
use Rattle.px_answers.proofs.Meeting.{committed_last, no_row_committed}
use Rattle.px_answers.proofs.writing.committer.Goals as goal

pub returns-in_default-clause-number : goal.returns-in_default-clause-number
returns-in_default-clause-number g c = λ tells holders m store xact key sees is found.
    no_row_committed xact.snap c.args.table key sees (subst (IsFound (store.tables c.args.table) key) c.in_default.is found)

pub returns-clause-number : goal.returns-clause-number
returns-clause-number g c = λ tells holders m store xact key sees is found.
    let its = subst (IsFound (store.tables c.args.table) key) c.in-Some.is found in
    let newest = c.in_ok-newest.newest in
    c.committed_since.ensures
    ∙ ap (λ n. committed_since n c.args.opened.now.snapshot newest) (c.base.ensures.is ∙ sees.mirrors.base)
    ∙ ap (λ n. committed_since m.base n newest) (ap (λ (o : Opened). o.snapshot) is.known)
    ∙ ap (λ (o : Option SlotView). committed_since m.base xact.snap o) (c.in_ok-newest.ensures.newest tells store sees.serves its.0)
    ∙ committed_last xact.snap c.args.table c.in-Some.row key sees its
