use Rattle.px_held.specs.Unlinking.{unlink_from}
use Rattle.px_tidying.proofs.Readying.{had_room}
use Rattle.px_tidying.specs.Opening.{HasStore, opening}
use Rattle.std.proofs.Common.{refl}
use Rattle.px_appending.specs.Unlinks.{GoesFrom, sweeping}
use Rattle.px_appending.proofs.Going.{adds_on, lasts_adding, on_err, store_stays}
use Rattle.px_appending.proofs.Unlinks.{goes_alike, is_sweep, sweep_held, sweep_of, unlinked_laid}
use Rattle.px_appending.proofs.appending.append_unlinked.Goals as goal

pub append-requires : goal.append-requires
append-requires g c =
    sweep_held (opening (g.W.Site.state c.args.site.now) c.args.held.now c.args.log.now) c.requires.store.0 c.args.prepared c.requires.store.1 c.args.swept
    c.in_ok-cells_unlinked.field-0 c.requires.store.2 c.requires.ready c.in_ok-cells_unlinked.ensures

pub returns-in_err-append-clause-store_stays : goal.returns-in_err-append-clause-store_stays
returns-in_err-append-clause-store_stays g c = λ store has.
    let last = opening (g.W.Site.state c.append.new.site) c.args.held.now c.append.new.self in
    on_err (HasStore store last) c.from_residual-in_err-append.result
    (store_stays store (g.W.Site.state c.args.site.now) last.site c.args.held.now last.held c.args.log.now last.log refl c.in_err-append.ensures.as_before has)

pub returns-in_err-append-clause-moments : goal.returns-in_err-append-clause-moments
returns-in_err-append-clause-moments g c = λ store from goes.
    let first = opening (g.W.Site.state c.args.site.now) c.args.held.now c.args.log.now in
    let last = opening (g.W.Site.state c.append.new.site) c.args.held.now c.append.new.self in
    let cells = c.in_ok-cells_unlinked.field-0 in
    lasts_adding g.W.Site.tells (unlink_from c.args.prepared from) (sweeping c.args.prepared from c.args.swept) (sweep_of c.args.swept cells) first last
    (is_sweep first store c.args.prepared from c.args.swept cells c.requires.ready.ready goes c.in_ok-cells_unlinked.ensures)
    c.append.ensures.moments

pub returns-clause-appended : goal.returns-clause-appended
returns-clause-appended g c = λ store from goes.
    let first = opening (g.W.Site.state c.args.site.now) c.args.held.now c.args.log.now in
    let last = opening (g.W.Site.state c.append.new.site) c.lay_unlinked.new.self c.append.new.self in
    let cells = c.in_ok-cells_unlinked.field-0 in
    let change = sweep_of c.args.swept cells in
    let appended = c.in_ok-append.ensures in
    let ready = c.requires.ready.ready in
    adds_on g.W.Site.tells (unlink_from c.args.prepared from) (sweeping c.args.prepared from c.args.swept) change first last
    (is_sweep first store c.args.prepared from c.args.swept cells ready goes c.in_ok-cells_unlinked.ensures)
    (λ other has.
    unlinked_laid first last c.args.prepared from change ready c.lay_unlinked.ensures.step c.lay_unlinked.ensures.form appended.marks
    (had_room c.args.log.now c.in_ok-append.field-0 appended.full) other
    (record { has = has; stand = goes_alike first store other c.args.prepared from ready goes has }))
    appended.marks appended.logged c.append.ensures.moments

pub returns-clause-store : goal.returns-clause-store
returns-clause-store g c = λ store from goes.
    let first = opening (g.W.Site.state c.args.site.now) c.args.held.now c.args.log.now in
    let last = opening (g.W.Site.state c.append.new.site) c.lay_unlinked.new.self c.append.new.self in
    unlinked_laid first last c.args.prepared from (sweep_of c.args.swept c.in_ok-cells_unlinked.field-0) c.requires.ready.ready
    c.lay_unlinked.ensures.step c.lay_unlinked.ensures.form c.in_ok-append.ensures.marks (had_room c.args.log.now c.in_ok-append.field-0 c.in_ok-append.ensures.full)
    store goes

pub returns-clause-moments : goal.returns-clause-moments
returns-clause-moments g c = λ store from goes.
    let first = opening (g.W.Site.state c.args.site.now) c.args.held.now c.args.log.now in
    let last = opening (g.W.Site.state c.append.new.site) c.lay_unlinked.new.self c.append.new.self in
    let cells = c.in_ok-cells_unlinked.field-0 in
    lasts_adding g.W.Site.tells (unlink_from c.args.prepared from) (sweeping c.args.prepared from c.args.swept) (sweep_of c.args.swept cells) first last
    (is_sweep first store c.args.prepared from c.args.swept cells c.requires.ready.ready goes c.in_ok-cells_unlinked.ensures)
    c.append.ensures.moments
