use Rattle.std.proofs.Common.{◌-◌, refl, ◌∙◌, ap}
use Rattle.px_beginning.specs.Found.{life_of, marks_of}
use Rattle.px_beginning.specs.Tidied.{tidied}
use Rattle.px_life.specs.Front.{commits_by, done_by}
use Rattle.px_life.specs.Life.{end_of}
use Rattle.px_shown.specs.Parts.{no_parts}
use Rattle.px_tidy.specs.Numbers.{done_of}
use Rattle.px_tidying.proofs.Next.{if_err}
use Rattle.px_tidying.specs.Opening.{opening}
use Rattle.px_cell_opening.proofs.Beginning.{is_done, is_tidied, its_done, still_empty, tidy_stands, works_from}
use Rattle.px_cell_opening.proofs.Refusals.{tidy_refusal}
use Rattle.px_cell_opening.specs.Errors.{HasRefusal, of_tidying}
use Rattle.px_cell_opening.specs.Found.{reading_of}
use Rattle.px_cell_opening.specs.Opened.{machine_of, store_of}
use Rattle.px_cell_opening.proofs.opening.tidy_found.Goals as goal

pub tidy-requires-clause-store : goal.tidy-requires-clause-store
tidy-requires-clause-store g c =
    let restart = c.args.restart.now in
    let found = c.args.found in
    let has = c.requires.found in (
      store_of restart found.changes found.next has.holds.found has.holds.layouts,
      is_done restart found has c.requires.bounds c.as_slice-changes.result.now (done_of c.in_ok-done.done) c.as_slice-changes.ensures c.in_ok-done.ensures,
      c.tables_that_open_may_be_tidied.ensures.store restart found (g.W.Site.state c.args.site.now) c.requires.bounds has,
    )

pub returns-in_err-tidy-clause-moments : goal.returns-in_err-tidy-clause-moments
returns-in_err-tidy-clause-moments g c = λ t commits rows rests.
    let restart = c.args.restart.now in
    let found = c.args.found in
    let s = g.W.Site.state c.args.site.now in
    let can = c.requires.bounds in
    let store = store_of restart found.changes found.next rests.has.holds.found rests.has.holds.layouts in
    tidy_stands restart commits rows found s can rests (opening (g.W.Site.state c.tidy.new.site) c.tidy.new.held c.tidy.new.log)
    c.what_was_read_has_its_life.ensures c.what_lasts_stands.ensures.found
    (c.tidy.ensures.lasts store
    (is_done restart found rests.has can c.as_slice-changes.result.now (done_of c.in_ok-done.done) c.as_slice-changes.ensures c.in_ok-done.ensures)
    (c.tables_that_open_may_be_tidied.ensures.store restart found s can rests.has)) t

pub returns-in_err-tidy-clause-refused : goal.returns-in_err-tidy-clause-refused
returns-in_err-tidy-clause-refused g c = λ t bytes scan.
    let restart = c.args.restart.now in
    let found = c.args.found in
    let has = c.requires.found in
    let can = c.requires.bounds in
    let store = store_of restart found.changes found.next has.holds.found has.holds.layouts in
    let error = c.in_err-tidy.field-0.0 in
    if_err c.from_residual-in_err-tidy.result (HasRefusal restart bytes) (of_tidying error) c.from_residual-in_err-tidy.ensures.1
    (tidy_refusal restart bytes found has (g.W.Site.counts c.args.site.now) (g.W.Site.counts c.tidy.new.site) error scan (c.in_err-tidy.ensures.sound t) c.in_err-tidy.ensures.cause
    (c.in_err-tidy.ensures.full store
    (is_done restart found has can c.as_slice-changes.result.now (done_of c.in_ok-done.done) c.as_slice-changes.ensures c.in_ok-done.ensures)
    (c.tables_that_open_may_be_tidied.ensures.store restart found (g.W.Site.state c.args.site.now) can has)))

pub returns-clause-moments : goal.returns-clause-moments
returns-clause-moments g c = λ t commits rows rests.
    let restart = c.args.restart.now in
    let found = c.args.found in
    let s = g.W.Site.state c.args.site.now in
    let can = c.requires.bounds in
    let store = store_of restart found.changes found.next rests.has.holds.found rests.has.holds.layouts in
    tidy_stands restart commits rows found s can rests (opening (g.W.Site.state c.tidy.new.site) c.tidy.new.held c.tidy.new.log)
    c.what_was_read_has_its_life.ensures c.what_lasts_stands.ensures.found
    (c.tidy.ensures.lasts store
    (is_done restart found rests.has can c.as_slice-changes.result.now (done_of c.in_ok-done.done) c.as_slice-changes.ensures c.in_ok-done.ensures)
    (c.tables_that_open_may_be_tidied.ensures.store restart found s can rests.has)) t

pub returns-clause-opened : goal.returns-clause-opened
returns-clause-opened g c = λ t commits rows rests.
    let restart = c.args.restart.now in
    let found = c.args.found in
    let s = g.W.Site.state c.args.site.now in
    let can = c.requires.bounds in
    let store = store_of restart found.changes found.next rests.has.holds.found rests.has.holds.layouts in
    let read = reading_of restart found rests.has rows in
    let life = life_of read s.content in
    works_from restart commits rows found s can rests (record (marks_of read) { durable = end_of (tidied restart life) }) c.commits_of.result c.redone_of.result
    (g.W.Site.state c.tidy.new.site) c.tidy.new.held c.tidy.new.log c.what_was_tidied_goes_on.ensures c.what_was_opened_can_be_found.ensures
    (still_empty s (g.W.Site.state c.tidy.new.site) (c.tidy.ensures.touches store
    (is_done restart found rests.has can c.as_slice-changes.result.now (done_of c.in_ok-done.done) c.as_slice-changes.ensures c.in_ok-done.ensures)
    (c.tables_that_open_may_be_tidied.ensures.store restart found s can rests.has) t).alone rests.tables)
    (c.commits_of.ensures ∙ ap (λ l. commits_by restart l) c.as_slice-changes.ensures) refl
    (c.in_ok-tidy.ensures.tidied t no_parts commits (machine_of restart commits rows (found.next - 1)) life restart (marks_of read)
    (its_done restart commits rows found s can rests (done_of c.in_ok-done.done) (c.in_ok-done.ensures ∙ ap (λ l. done_by restart l) c.as_slice-changes.ensures))
    (c.what_was_read_has_its_life.ensures restart commits rows found s can rests))

pub returns-clause-tidied : goal.returns-clause-tidied
returns-clause-tidied g c =
    let restart = c.args.restart.now in
    let found = c.args.found in
    let has = c.requires.found in
    let can = c.requires.bounds in
    let store = store_of restart found.changes found.next has.holds.found has.holds.layouts in
    let done = is_done restart found has can c.as_slice-changes.result.now (done_of c.in_ok-done.done) c.as_slice-changes.ensures c.in_ok-done.ensures in
    let its = c.tables_that_open_may_be_tidied.ensures.store restart found (g.W.Site.state c.args.site.now) can has in
    is_tidied restart found has c.as_slice-changes.result.now c.commits_of.result c.redone_of.result c.in_ok-tidy.field-0 (g.W.Site.state c.tidy.new.site) c.tidy.new.held c.tidy.new.log can
    c.as_slice-changes.ensures c.commits_of.ensures c.redone_of.ensures (c.in_ok-tidy.ensures.after store done its) c.in_ok-tidy.ensures.frames
    (c.in_ok-tidy.ensures.count store done its)

pub returns-in_err-tidy-clause-touches : goal.returns-in_err-tidy-clause-touches
returns-in_err-tidy-clause-touches g c = λ has t.
    let restart = c.args.restart.now in
    let found = c.args.found in
    let can = c.requires.bounds in
    c.tidy.ensures.touches (store_of restart found.changes found.next has.holds.found has.holds.layouts)
    (is_done restart found has can c.as_slice-changes.result.now (done_of c.in_ok-done.done) c.as_slice-changes.ensures c.in_ok-done.ensures)
    (c.tables_that_open_may_be_tidied.ensures.store restart found (g.W.Site.state c.args.site.now) can has) t

pub returns-clause-touches : goal.returns-clause-touches
returns-clause-touches g c = λ has t.
    let restart = c.args.restart.now in
    let found = c.args.found in
    let can = c.requires.bounds in
    c.tidy.ensures.touches (store_of restart found.changes found.next has.holds.found has.holds.layouts)
    (is_done restart found has can c.as_slice-changes.result.now (done_of c.in_ok-done.done) c.as_slice-changes.ensures c.in_ok-done.ensures)
    (c.tables_that_open_may_be_tidied.ensures.store restart found (g.W.Site.state c.args.site.now) can has) t
