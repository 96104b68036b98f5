use Rattle.std.proofs.Common.{refl}
use Rattle.px_held.specs.Linking.{step_of}
use Rattle.px_tidying.proofs.Readying.{had_room}
use Rattle.px_tidying.specs.Opening.{HasStore, opening}
use Rattle.px_appending.proofs.Going.{goes_on, lasts_on, on_err, store_stays}
use Rattle.px_appending.proofs.Versions.{is_of_step, version_held, version_laid}
use Rattle.px_appending.proofs.appending.append_version.Goals as goal

pub append-requires : goal.append-requires
append-requires g c =
    version_held c.requires.store.0 (opening (g.W.Site.state c.args.site.now) c.args.held.now c.args.log.now) c.args.prepared c.version_of.result
    c.requires.store.1 c.requires.ready c.fits_fields.ensures c.version_of.ensures

pub returns-in_err-append-clause-store_stays : goal.returns-in_err-append-clause-store_stays
returns-in_err-append-clause-store_stays g c = λ store has.
    let last = opening (g.W.Site.state c.append.new.site) c.args.held.now c.append.new.self in
    on_err (HasStore store last) c.from_residual.result
    (store_stays store (g.W.Site.state c.args.site.now) last.site c.args.held.now last.held c.args.log.now last.log refl c.in_err-append.ensures.as_before has)

pub returns-in_err-append-clause-moments : goal.returns-in_err-append-clause-moments
returns-in_err-append-clause-moments g c =
    let first = opening (g.W.Site.state c.args.site.now) c.args.held.now c.args.log.now in
    let last = opening (g.W.Site.state c.append.new.site) c.args.held.now c.append.new.self in
    let change = c.version_of.result in
    lasts_on g.W.Site.tells (step_of c.args.prepared) change first last (is_of_step first c.args.prepared change c.version_of.ensures)
    c.append.ensures.moments

pub returns-clause-appended : goal.returns-clause-appended
returns-clause-appended g c =
    let first = opening (g.W.Site.state c.args.site.now) c.args.held.now c.args.log.now in
    let last = opening (g.W.Site.state c.append.new.site) c.lay.new.self c.append.new.self in
    let change = c.version_of.result in
    let appended = c.in_ok-append.ensures in
    goes_on g.W.Site.tells (step_of c.args.prepared) change first last (is_of_step first c.args.prepared change c.version_of.ensures)
    (version_laid first last c.args.prepared change c.requires.ready c.fits_fields.ensures c.lay.ensures.step c.lay.ensures.form appended.marks
    (had_room c.args.log.now c.in_ok-append.field-0 appended.full))
    appended.marks appended.logged c.append.ensures.moments

pub returns-clause-store : goal.returns-clause-store
returns-clause-store g c =
    let first = opening (g.W.Site.state c.args.site.now) c.args.held.now c.args.log.now in
    let last = opening (g.W.Site.state c.append.new.site) c.lay.new.self c.append.new.self in
    version_laid first last c.args.prepared c.version_of.result c.requires.ready c.fits_fields.ensures
    c.lay.ensures.step c.lay.ensures.form c.in_ok-append.ensures.marks (had_room c.args.log.now c.in_ok-append.field-0 c.in_ok-append.ensures.full)

pub returns-clause-moments : goal.returns-clause-moments
returns-clause-moments g c =
    let first = opening (g.W.Site.state c.args.site.now) c.args.held.now c.args.log.now in
    let last = opening (g.W.Site.state c.append.new.site) c.lay.new.self c.append.new.self in
    let change = c.version_of.result in
    lasts_on g.W.Site.tells (step_of c.args.prepared) change first last (is_of_step first c.args.prepared change c.version_of.ensures)
    c.append.ensures.moments
