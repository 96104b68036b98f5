use Rattle.px_tidying.proofs.Readying.{had_room}
use Rattle.px_tidying.specs.Opening.{HasStore, opening}
use Rattle.std.proofs.Common.{refl}
use Rattle.px_appending.specs.Ends.{end_step}
use Rattle.px_appending.proofs.Ends.{end_held, end_stored}
use Rattle.px_appending.proofs.Going.{goes_on, lasts_on, on_err, store_stays}
use Rattle.px_appending.proofs.appending.append_end.Goals as goal

pub append-requires : goal.append-requires
append-requires g c =
    end_held c.args.log.now c.args.xn c.args.commit c.change_of_end-end.result c.requires.stored c.requires.due c.change_of_end-end.ensures.is c.change_of_end-end.ensures.small

pub returns-in_err-append-clause-store_stays : goal.returns-in_err-append-clause-store_stays
returns-in_err-append-clause-store_stays g c = λ held store has.
    on_err (HasStore store (opening (g.W.Site.state c.append.new.site) held c.append.new.self)) c.from_residual.result
    (store_stays store (g.W.Site.state c.args.site.now) (g.W.Site.state c.append.new.site) held held c.args.log.now c.append.new.self refl c.in_err-append.ensures.as_before has)

pub returns-in_err-append-clause-moments : goal.returns-in_err-append-clause-moments
returns-in_err-append-clause-moments g c = λ held.
    lasts_on g.W.Site.tells (end_step c.args.xn c.args.commit) c.change_of_end-end.result
    (opening (g.W.Site.state c.args.site.now) held c.args.log.now) (opening (g.W.Site.state c.append.new.site) held c.append.new.self)
    (λ store has. c.change_of_end-end.ensures.is held.short store) c.append.ensures.moments

pub returns-clause-appended : goal.returns-clause-appended
returns-clause-appended g c = λ held.
    goes_on g.W.Site.tells (end_step c.args.xn c.args.commit) c.change_of_end-end.result
    (opening (g.W.Site.state c.args.site.now) held c.args.log.now) (opening (g.W.Site.state c.append.new.site) held c.append.new.self)
    (λ store has. c.change_of_end-end.ensures.is held.short store)
    (λ store has.
    end_stored store c.args.xn c.args.commit (g.W.Site.state c.args.site.now) (g.W.Site.state c.append.new.site) held c.args.log.now c.append.new.self
    c.change_of_end-end.result has c.in_ok-append.ensures.marks (had_room c.args.log.now c.in_ok-append.field-0 c.in_ok-append.ensures.full))
    c.in_ok-append.ensures.marks c.in_ok-append.ensures.logged c.append.ensures.moments

pub returns-clause-store : goal.returns-clause-store
returns-clause-store g c = λ held store has.
    end_stored store c.args.xn c.args.commit (g.W.Site.state c.args.site.now) (g.W.Site.state c.append.new.site) held c.args.log.now c.append.new.self
    c.change_of_end-end.result has c.in_ok-append.ensures.marks (had_room c.args.log.now c.in_ok-append.field-0 c.in_ok-append.ensures.full)

pub returns-clause-moments : goal.returns-clause-moments
returns-clause-moments g c = λ held.
    lasts_on g.W.Site.tells (end_step c.args.xn c.args.commit) c.change_of_end-end.result
    (opening (g.W.Site.state c.args.site.now) held c.args.log.now) (opening (g.W.Site.state c.append.new.site) held c.append.new.self)
    (λ store has. c.change_of_end-end.ensures.is held.short store) c.append.ensures.moments
