use Rattle.std.proofs.Common.{◌≡◌, ◌+◌, ℕ, arith, length, refl, subst, ◌∙◌}
use Rattle.px_history.specs.Steps.{after_steps}
use Rattle.px_tidy.specs.Steps.{tidying_tables}
use Rattle.px_working.specs.Follows.{last_store}
use Rattle.px_beginning.specs.Tidied.{tidied, with_steps}
use Rattle.px_tidying.specs.Opening.{HasLife, opening}
use Rattle.px_tidying.proofs.Composing.{both_last}
use Rattle.px_tidying.proofs.Flushing.{flush_lasts, flush_life, flush_store}
use Rattle.px_tidying.proofs.Quiet.{touches_behind}
use Rattle.px_tidying.proofs.tidying.tidy.Goals as goal

pub returns-in_err-flush-clause-lasts : goal.returns-in_err-flush-clause-lasts
returns-in_err-flush-clause-lasts g c = λ store is has.
    let tells = g.W.Site.tells in
    let old = opening (g.W.Site.state c.args.site.now) c.args.held.now c.args.log.now in
    let now = opening (g.W.Site.state c.tidy_tables.new.site) c.tidy_tables.new.held c.tidy_tables.new.log in
    let new = opening (g.W.Site.state c.flush.new.site) c.tidy_tables.new.held c.flush.new.self in
    let steps = tidying_tables store c.args.tables in
    let made = c.in_ok-tidy_tables.ensures.made store is has in
    both_last tells store steps old now new made (c.tidy_tables.ensures.lasts store is has) (flush_lasts tells _ now new c.flush.ensures.moments)

pub returns-clause-lasts : goal.returns-clause-lasts
returns-clause-lasts g c = λ store is has.
    let tells = g.W.Site.tells in
    let old = opening (g.W.Site.state c.args.site.now) c.args.held.now c.args.log.now in
    let now = opening (g.W.Site.state c.tidy_tables.new.site) c.tidy_tables.new.held c.tidy_tables.new.log in
    let new = opening (g.W.Site.state c.flush.new.site) c.tidy_tables.new.held c.flush.new.self in
    let steps = tidying_tables store c.args.tables in
    let made = c.in_ok-tidy_tables.ensures.made store is has in
    both_last tells store steps old now new made (c.tidy_tables.ensures.lasts store is has) (flush_lasts tells _ now new c.flush.ensures.moments)

pub returns-clause-tidied : goal.returns-clause-tidied
returns-clause-tidied g c = λ tell parts least m life restart marks is has.
    let tells = g.W.Site.tells in
    let now = opening (g.W.Site.state c.tidy_tables.new.site) c.tidy_tables.new.held c.tidy_tables.new.log in
    let new = opening (g.W.Site.state c.flush.new.site) c.tidy_tables.new.held c.flush.new.self in
    let store = last_store life in
    let tables : c.args.tables ≡ restart.tables = c.requires.tables ∙ has.tables in
    let had : HasLife parts least m (tidied restart life) restart marks now =
    subst (λ (n : ℕ). HasLife parts least m (with_steps restart.short life (tidying_tables store n)) restart marks now) tables
    ((c.in_ok-tidy_tables.ensures.made store is has.store).life tell parts least m life restart marks refl has) in
    flush_life tells parts least m (tidied restart life) restart marks now new tell had refl c.in_ok-flush.ensures.marks
    (c.in_ok-flush.ensures.logged tell (tidied restart life).changes had.logged) c.flush.ensures.moments

pub returns-clause-after : goal.returns-clause-after
returns-clause-after g c = λ store is has.
    let now = opening (g.W.Site.state c.tidy_tables.new.site) c.tidy_tables.new.held c.tidy_tables.new.log in
    let new = opening (g.W.Site.state c.flush.new.site) c.tidy_tables.new.held c.flush.new.self in
    let steps = tidying_tables store c.args.tables in
    let made = c.in_ok-tidy_tables.ensures.made store is has in
    flush_store (after_steps store steps) now new made.after refl c.in_ok-flush.ensures.marks

pub returns-in_err-flush-clause-touches : goal.returns-in_err-flush-clause-touches
returns-in_err-flush-clause-touches g c = λ store is has t.
    let old = opening (g.W.Site.state c.args.site.now) c.args.held.now c.args.log.now in
    let now = opening (g.W.Site.state c.tidy_tables.new.site) c.tidy_tables.new.held c.tidy_tables.new.log in
    let steps = tidying_tables store c.args.tables in
    touches_behind g.W.Site.tells store steps old now (g.W.Site.state c.flush.new.site) 1 (length steps + 1) t (c.in_ok-tidy_tables.ensures.made store is has) (omega arith)
    (c.flush.ensures.touches t)

pub returns-clause-touches : goal.returns-clause-touches
returns-clause-touches g c = λ store is has t.
    let old = opening (g.W.Site.state c.args.site.now) c.args.held.now c.args.log.now in
    let now = opening (g.W.Site.state c.tidy_tables.new.site) c.tidy_tables.new.held c.tidy_tables.new.log in
    let steps = tidying_tables store c.args.tables in
    touches_behind g.W.Site.tells store steps old now (g.W.Site.state c.flush.new.site) 1 (length steps + 1) t (c.in_ok-tidy_tables.ensures.made store is has) (omega arith)
    (c.flush.ensures.touches t)
