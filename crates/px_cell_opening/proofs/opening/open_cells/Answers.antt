use Rattle.std.proofs.Common.{◌≤◌}
use Rattle.px_site.proofs.Moments.{weaker_moments}
use Rattle.px_tidying.proofs.Next.{if_err, ok_weaker}
use Rattle.px_xlog.specs.Contents.{the_log}
use Rattle.px_cell_opening.proofs.Beginning.{all_stand, none_unlinked, opened_touches, opens_as, within}
use Rattle.px_cell_opening.proofs.Refusals.{passing_leaves}
use Rattle.px_cell_opening.proofs.Standing.{may_beside}
use Rattle.px_cell_opening.specs.Errors.{IsPassing}
use Rattle.px_cell_opening.specs.Opened.{IsTidiedOf, OpensAs}
use Rattle.px_cell_opening.specs.declared.opening.Cells.{Cells}
use Rattle.px_cell_opening.proofs.opening.open_cells.Goals as goal

pub returns-in_err-found-clause-moments : goal.returns-in_err-found-clause-moments
returns-in_err-found-clause-moments g c = λ t commits rows may settled.
    weaker_moments (λ now on. c.a_cut_leaves_what_stands.ensures commits rows (g.W.Site.state c.args.site.now).now now settled.images settled.alone on)
    (c.find_cells.ensures.moments t (record { behind = settled.grew; plain = settled.plain.log }))

pub returns-in_err-found-clause-sound : goal.returns-in_err-found-clause-sound
returns-in_err-found-clause-sound g c = λ t commits rows may.
    let before = g.W.Site.state c.args.site.now in
    let error = c.in_err-found.field-0.0 in
    let picked = (may_beside c.args.restart.now commits rows before may (λ name. g.met.W.Site.reads_image t c.args.site.now name)).picked in
    if_err c.from_residual.result IsPassing error c.from_residual.ensures.1
    (c.what_stands_has_no_damage.ensures c.args.restart.now commits rows before.content error picked may.alone.content may.stands (c.in_err-found.ensures.refused t))

pub returns-clause-opened : goal.returns-clause-opened
returns-clause-opened g c = λ t commits rows may.
    let found = c.in_ok-found.ensures in
    c.tidy_found.ensures.opened t commits rows
    (c.what_was_found_rests.ensures c.args.restart.now commits rows c.in_ok-found.found (g.W.Site.state c.args.site.now) (g.W.Site.state c.find_cells.new.site) may
    (λ name. g.met.W.Site.reads_image t c.args.site.now name) found.found (found.read t) (found.logged t) (found.left t))

pub returns-clause-moments : goal.returns-clause-moments
returns-clause-moments g c = λ t commits rows may settled.
    let found = c.in_ok-found.ensures in
    let before = g.W.Site.state c.args.site.now in
    let middle = g.W.Site.state c.find_cells.new.site in
    all_stand commits rows before middle (g.W.Site.state c.tidy_found.new.site) (found.left t).told
    (weaker_moments (λ now on. c.a_cut_leaves_what_stands.ensures commits rows before.now now settled.images settled.alone on)
    (c.find_cells.ensures.moments t (record { behind = settled.grew; plain = settled.plain.log })))
    (c.tidy_found.ensures.moments t commits rows
    (c.what_was_found_rests.ensures c.args.restart.now commits rows c.in_ok-found.found before middle may (λ name. g.met.W.Site.reads_image t c.args.site.now name) found.found
    (found.read t) (found.logged t) (found.left t)))

pub returns-clause-report : goal.returns-clause-report
returns-clause-report g c = λ t.
    let restart = c.args.restart.now in
    let bytes = (g.W.Site.state c.args.site.now).content the_log in
    let now = g.W.Site.state c.tidy_found.new.site in
    ok_weaker c.tidy_found.result (IsTidiedOf restart c.in_ok-found.found now) (λ (cells : Cells). OpensAs restart bytes cells now)
    (λ cells is. opens_as restart bytes c.in_ok-found.found now cells (c.in_ok-found.ensures.read t) is) c.tidy_found.ensures.tidied

pub returns-clause-commits : goal.returns-clause-commits
returns-clause-commits g c =
    let restart = c.args.restart.now in
    let now = g.W.Site.state c.tidy_found.new.site in
    ok_weaker c.tidy_found.result (IsTidiedOf restart c.in_ok-found.found now) (λ (cells : Cells). cells.commits ≤ cells.log.frames)
    (λ cells is. within restart c.in_ok-found.found now cells c.requires.bounds is) c.tidy_found.ensures.tidied

pub returns-clause-refused : goal.returns-clause-refused
returns-clause-refused g c = λ t. c.tidy_found.ensures.refused t ((g.W.Site.state c.args.site.now).content the_log) (c.in_ok-found.ensures.read t)

pub returns-clause-kept : goal.returns-clause-kept
returns-clause-kept g c = λ t. passing_leaves (g.W.Site.state c.args.site.now) (g.W.Site.state c.tidy_found.new.site) c.tidy_found.result (c.tidy_found.ensures.sound t)

pub returns-in_err-found-clause-touches : goal.returns-in_err-found-clause-touches
returns-in_err-found-clause-touches g c = λ t.
    let before = g.W.Site.state c.args.site.now in
    none_unlinked c.args.restart.now (before.content the_log) before (g.W.Site.state c.find_cells.new.site) (c.find_cells.ensures.touches t)

pub returns-clause-touches : goal.returns-clause-touches
returns-clause-touches g c = λ t.
    let before = g.W.Site.state c.args.site.now in
    let found = c.in_ok-found.ensures in
    opened_touches c.args.restart.now (before.content the_log) c.in_ok-found.found found.found before (g.W.Site.state c.find_cells.new.site) (g.W.Site.state c.tidy_found.new.site)
    (found.read t) (c.find_cells.ensures.touches t) (c.tidy_found.ensures.touches found.found t)
