use Rattle.std.proofs.Common.{ap, ◌∙◌, arith}
use Rattle.px_log.proofs.Touching.{changes_fewer, changes_then, none_changes}
use Rattle.px_site.specs.State.{State}
use Rattle.px_recovery.proofs.Errors.{on_err}
use Rattle.px_recovery.proofs.NewMoments.{first_bounds, make_again, make_moments, make_settled}
use Rattle.px_recovery.proofs.making.make.Goals as goal

pub returns-in_err-write_restart-clause-moments : goal.returns-in_err-write_restart-clause-moments
returns-in_err-write_restart-clause-moments g c t can =
    make_moments c.a_new_store_is_found.ensures.stands c.args.tables c.args.short (g.W.Site.state c.args.site.now) (g.W.Site.state c.is_free.new.site) (g.W.Site.state c.write_restart.new.site) c.first_restart.result c.first_restart.ensures (c.in_ok-is_free.ensures.same t)
    (first_bounds c.args.tables c.args.short c.requires.tables_from c.requires.tables_to c.requires.short_from c.requires.short_to)
    ((c.in_ok-is_free.ensures.free t).0 c.if-not-branch.false) can (c.write_restart.ensures.moments t)

pub returns-clause-settled : goal.returns-clause-settled
returns-clause-settled g c t can =
    make_settled c.a_new_store_is_found.ensures.stands c.args.tables c.args.short (g.W.Site.state c.args.site.now) (g.W.Site.state c.is_free.new.site) (g.W.Site.state c.write_restart.new.site) c.first_restart.result c.first_restart.ensures (c.in_ok-is_free.ensures.same t)
    (first_bounds c.args.tables c.args.short c.requires.tables_from c.requires.tables_to c.requires.short_from c.requires.short_to)
    ((c.in_ok-is_free.ensures.free t).0 c.if-not-branch.false) can c.a_new_store_is_found.ensures.settled (c.in_ok-write_restart.ensures.written t)

pub returns-clause-moments : goal.returns-clause-moments
returns-clause-moments g c t can =
    make_moments c.a_new_store_is_found.ensures.stands c.args.tables c.args.short (g.W.Site.state c.args.site.now) (g.W.Site.state c.is_free.new.site) (g.W.Site.state c.write_restart.new.site) c.first_restart.result c.first_restart.ensures (c.in_ok-is_free.ensures.same t)
    (first_bounds c.args.tables c.args.short c.requires.tables_from c.requires.tables_to c.requires.short_from c.requires.short_to)
    ((c.in_ok-is_free.ensures.free t).0 c.if-not-branch.false) can (c.write_restart.ensures.moments t)

pub returns-in_err-write_restart-clause-again : goal.returns-in_err-write_restart-clause-again
returns-in_err-write_restart-clause-again g c t can =
    on_err c.from_residual-in_err-write_restart.result
    (make_again c.a_new_store_is_found.ensures.stands c.args.tables c.args.short (g.W.Site.state c.args.site.now) (g.W.Site.state c.is_free.new.site) (g.W.Site.state c.write_restart.new.site) c.first_restart.result c.first_restart.ensures (c.in_ok-is_free.ensures.same t)
    (first_bounds c.args.tables c.args.short c.requires.tables_from c.requires.tables_to c.requires.short_from c.requires.short_to)
    ((c.in_ok-is_free.ensures.free t).0 c.if-not-branch.false) can (c.write_restart.ensures.moments t) (c.write_restart.ensures.others t))

pub returns-in_err-write_restart-clause-others : goal.returns-in_err-write_restart-clause-others
returns-in_err-write_restart-clause-others g c t name apart = c.write_restart.ensures.others t name apart ∙ ap (λ (s : State). s.content name) (c.in_ok-is_free.ensures.same t)

pub returns-clause-others : goal.returns-clause-others
returns-clause-others g c t name apart = c.write_restart.ensures.others t name apart ∙ ap (λ (s : State). s.content name) (c.in_ok-is_free.ensures.same t)

pub returns-in_err-write_restart-clause-spared : goal.returns-in_err-write_restart-clause-spared
returns-in_err-write_restart-clause-spared g c t used = absurd (used ((c.in_ok-is_free.ensures.free t).0 c.if-not-branch.false))

pub returns-clause-spared : goal.returns-clause-spared
returns-clause-spared g c t used = absurd (used ((c.in_ok-is_free.ensures.free t).0 c.if-not-branch.false))

pub returns-in_err-write_restart-clause-few : goal.returns-in_err-write_restart-clause-few
returns-in_err-write_restart-clause-few g c t = changes_fewer (omega arith) (changes_then (none_changes (c.in_ok-is_free.ensures.same t)) (c.write_restart.ensures.few t))

pub returns-clause-few : goal.returns-clause-few
returns-clause-few g c t = changes_fewer (omega arith) (changes_then (none_changes (c.in_ok-is_free.ensures.same t)) (c.write_restart.ensures.few t))
