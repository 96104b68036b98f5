use Rattle.std.proofs.Common.{◌∙◌, sym}
use Rattle.px_site.proofs.Causes.{no_fall}
use Rattle.px_working.specs.Follows.{last_store}
use Rattle.px_recovery.proofs.Refusals.{held_fault, held_says_nothing, passed}
use Rattle.px_recovery.proofs.Still.{still_has, still_works}
use Rattle.px_recovery.specs.Errors.{CountsFault, SaysNothing, open_of_held}
use Rattle.px_recovery.proofs.opening.parts_of.Goals as goal

pub returns-clause-rows : goal.returns-clause-rows
returns-clause-rows g c = λ t commits rows order works.
    let restart = c.args.restart.now in
    let cells = c.args.cells in
    c.in_ok-rows.ensures.count t (last_store works.life) rows works.has.store.serves
    (c.a_store_that_works_has_its_rows.ensures restart.tables restart.short rows commits cells.base (last_store works.life) works.works.holds order)
    (sym (works.has.store.tables ∙ works.has.tables))

pub returns-clause-works : goal.returns-clause-works
returns-clause-works g c = λ t commits rows works.
    still_works g.W.Site.tells g.W.Site.state g.W.Site.counts c.args.site.now c.count_rows.new.site c.args.cells c.count_rows.new.held c.count_rows.ensures.stays t c.args.restart.now commits rows works

pub returns-clause-store : goal.returns-clause-store
returns-clause-store g c =
    still_has g.W.Site.tells g.W.Site.state g.W.Site.counts c.args.site.now c.count_rows.new.site c.args.cells c.count_rows.new.held c.count_rows.ensures.stays c.requires.store

pub returns-in_err-rows-clause-sound : goal.returns-in_err-rows-clause-sound
returns-in_err-rows-clause-sound g c = λ t.
    let error = c.in_err-rows.field-0.0 in
    passed SaysNothing c.from_residual.result (open_of_held error) c.from_residual.ensures.1
    (held_says_nothing error (c.in_err-rows.ensures.sound t c.requires.store.0 c.requires.store.1.serves))

pub returns-in_err-rows-clause-fault : goal.returns-in_err-rows-clause-fault
returns-in_err-rows-clause-fault g c =
    let error = c.in_err-rows.field-0.0 in
    let counts = g.W.Site.counts in
    passed (CountsFault (counts c.args.site.now) (counts c.count_rows.new.site)) c.from_residual.result (open_of_held error) c.from_residual.ensures.1
    (held_fault (counts c.args.site.now) (counts c.args.site.now) (counts c.count_rows.new.site) error no_fall c.in_err-rows.ensures.fault)
