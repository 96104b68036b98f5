use Rattle.std.proofs.Common.{◌∙◌}
use Rattle.px_run.proofs.Alike.{settled_found}
use Rattle.px_run.proofs.Closed.{alone, dump_closed, make_closed, new_closed, only_closes, run_closed, same_closed, taken_closed}
use Rattle.px_run.proofs.Complete.{complete_dump, complete_make, complete_run}
use Rattle.px_run.proofs.Counted.{later_cause, output_rose, then_no_fall}
use Rattle.px_run.proofs.Ending.{acknowledged_closed}
use Rattle.px_run.proofs.run.pbxt_run.Goals as goal

pub returns-clause-line_alone : goal.returns-clause-line_alone
returns-clause-line_alone g c t =
    alone c.carry_out_on-status.result (g.W.Site.state c.args.site.now) (g.W.Site.state c.carry_out_on-status.new.site) (g.W.Site.state c.tell_closing_line.new.site)
    (g.W.Site.counts c.args.site.now) (g.W.Site.counts c.carry_out_on-status.new.site) (g.W.Site.counts c.tell_closing_line.new.site)
    (c.carry_out_on-status.ensures.quiet t) (c.tell_closing_line.ensures.closes t) c.carry_out_on-status.ensures.none_fell

pub returns-clause-none_fell : goal.returns-clause-none_fell
returns-clause-none_fell g c = then_no_fall c.carry_out_on-status.ensures.none_fell c.tell_closing_line.ensures.none_fell

pub returns-clause-runs : goal.returns-clause-runs
returns-clause-runs g c t u is found is_found =
    run_closed found (g.S.Source.left c.args.source.now) (g.S.Source.left c.carry_out_on-status.new.source)
    (g.W.Site.state c.args.site.now) (g.W.Site.state c.carry_out_on-status.new.site) (g.W.Site.state c.tell_closing_line.new.site)
    (g.W.Site.counts c.args.site.now) (g.W.Site.counts c.carry_out_on-status.new.site) (g.W.Site.counts c.tell_closing_line.new.site) c.carry_out_on-status.result
    (c.carry_out_on-status.ensures.runs t u (c.of.ensures.command ∙ is) found is_found) (c.tell_closing_line.ensures.closes t) c.carry_out_on-status.ensures.none_fell c.tell_closing_line.ensures.none_fell
    (output_rose c.of.result (g.W.Site.counts c.args.site.now) (g.W.Site.counts c.carry_out_on-status.new.site) (g.W.Site.counts c.tell_closing_line.new.site) (g.S.Source.faults c.args.source.now) (g.S.Source.faults c.carry_out_on-status.new.source)
    c.carry_out_on-status.result c.carry_out_on-status.ensures.cause c.tell_closing_line.ensures.none_fell)

pub returns-clause-taken : goal.returns-clause-taken
returns-clause-taken g c t u is found is_found =
    taken_closed found (g.S.Source.left c.args.source.now) (g.S.Source.left c.carry_out_on-status.new.source)
    (g.W.Site.state c.args.site.now) (g.W.Site.state c.carry_out_on-status.new.site) (g.W.Site.state c.tell_closing_line.new.site)
    (g.W.Site.counts c.args.site.now) (g.W.Site.counts c.carry_out_on-status.new.site) (g.W.Site.counts c.tell_closing_line.new.site) c.carry_out_on-status.result
    (c.carry_out_on-status.ensures.runs t u (c.of.ensures.command ∙ is) found is_found) (c.tell_closing_line.ensures.closes t) c.carry_out_on-status.ensures.none_fell
    (output_rose c.of.result (g.W.Site.counts c.args.site.now) (g.W.Site.counts c.carry_out_on-status.new.site) (g.W.Site.counts c.tell_closing_line.new.site) (g.S.Source.faults c.args.source.now) (g.S.Source.faults c.carry_out_on-status.new.source)
    c.carry_out_on-status.result c.carry_out_on-status.ensures.cause c.tell_closing_line.ensures.none_fell)

pub returns-clause-any_moment : goal.returns-clause-any_moment
returns-clause-any_moment g c t u is found store =
    acknowledged_closed found (g.S.Source.left c.args.source.now) (g.S.Source.left c.carry_out_on-status.new.source) c.carry_out_on-status.result
    (g.W.Site.state c.args.site.now) (g.W.Site.state c.carry_out_on-status.new.site) (g.W.Site.state c.tell_closing_line.new.site)
    (g.W.Site.counts c.args.site.now) (g.W.Site.counts c.carry_out_on-status.new.site) (g.W.Site.counts c.tell_closing_line.new.site) store
    (c.carry_out_on-status.ensures.any_moment t u (c.of.ensures.command ∙ is) found store)
    (c.carry_out_on-status.ensures.runs t u (c.of.ensures.command ∙ is) found (settled_found found (g.W.Site.state c.args.site.now) store)) (c.tell_closing_line.ensures.closes t)

pub returns-clause-makes : goal.returns-clause-makes
returns-clause-makes g c t tables short is =
    make_closed tables short (g.W.Site.state c.args.site.now) (g.W.Site.state c.carry_out_on-status.new.site) (g.W.Site.state c.tell_closing_line.new.site)
    (g.W.Site.counts c.args.site.now) (g.W.Site.counts c.carry_out_on-status.new.site) (g.W.Site.counts c.tell_closing_line.new.site) c.carry_out_on-status.result
    (c.carry_out_on-status.ensures.makes t tables short (c.of.ensures.command ∙ is)) (c.tell_closing_line.ensures.closes t) c.carry_out_on-status.ensures.none_fell
    (output_rose c.of.result (g.W.Site.counts c.args.site.now) (g.W.Site.counts c.carry_out_on-status.new.site) (g.W.Site.counts c.tell_closing_line.new.site) (g.S.Source.faults c.args.source.now) (g.S.Source.faults c.carry_out_on-status.new.source)
    c.carry_out_on-status.result c.carry_out_on-status.ensures.cause c.tell_closing_line.ensures.none_fell)

pub returns-clause-new_at_any_moment : goal.returns-clause-new_at_any_moment
returns-clause-new_at_any_moment g c t tables short is can =
    new_closed can (c.carry_out_on-status.ensures.new_at_any_moment t tables short (c.of.ensures.command ∙ is) can) (only_closes (c.tell_closing_line.ensures.closes t))

pub returns-clause-dumps : goal.returns-clause-dumps
returns-clause-dumps g c t is found is_found =
    dump_closed found (g.W.Site.state c.args.site.now) (g.W.Site.state c.carry_out_on-status.new.site) (g.W.Site.state c.tell_closing_line.new.site)
    (g.W.Site.counts c.args.site.now) (g.W.Site.counts c.carry_out_on-status.new.site) (g.W.Site.counts c.tell_closing_line.new.site) c.carry_out_on-status.result
    (c.carry_out_on-status.ensures.dumps t (c.of.ensures.command ∙ is) found is_found) (c.tell_closing_line.ensures.closes t) c.carry_out_on-status.ensures.none_fell
    (output_rose c.of.result (g.W.Site.counts c.args.site.now) (g.W.Site.counts c.carry_out_on-status.new.site) (g.W.Site.counts c.tell_closing_line.new.site) (g.S.Source.faults c.args.source.now) (g.S.Source.faults c.carry_out_on-status.new.source)
    c.carry_out_on-status.result c.carry_out_on-status.ensures.cause c.tell_closing_line.ensures.none_fell)

pub returns-clause-same_at_any_moment : goal.returns-clause-same_at_any_moment
returns-clause-same_at_any_moment g c t is found store =
    same_closed found store (c.carry_out_on-status.ensures.same_at_any_moment t (c.of.ensures.command ∙ is) found store) (only_closes (c.tell_closing_line.ensures.closes t))

-- where no count rose, the cause of each other status is missing
pub returns-clause-complete : goal.returns-clause-complete
returns-clause-complete g c t u is found is_found can none no_read =
    complete_run c.of.result found (g.S.Source.left c.args.source.now) (g.S.Source.left c.carry_out_on-status.new.source) (g.W.Site.state c.args.site.now) (g.W.Site.state c.tell_closing_line.new.site)
    (g.W.Site.counts c.args.site.now) (g.W.Site.counts c.tell_closing_line.new.site) (g.S.Source.faults c.args.source.now) (g.S.Source.faults c.carry_out_on-status.new.source) c.carry_out_on-status.result can none no_read
    (later_cause c.of.result (g.W.Site.counts c.args.site.now) (g.W.Site.counts c.carry_out_on-status.new.site) (g.W.Site.counts c.tell_closing_line.new.site) (g.S.Source.faults c.args.source.now) (g.S.Source.faults c.carry_out_on-status.new.source)
    c.carry_out_on-status.result c.carry_out_on-status.ensures.cause c.tell_closing_line.ensures.none_fell)
    (c.carry_out_on-status.ensures.input u (c.of.ensures.command ∙ is)) (returns-clause-runs g c t u is found is_found)

pub returns-clause-complete_make : goal.returns-clause-complete_make
returns-clause-complete_make g c t tables short is empty none =
    complete_make c.of.result tables short (g.W.Site.state c.args.site.now) (g.W.Site.state c.tell_closing_line.new.site)
    (g.W.Site.counts c.args.site.now) (g.W.Site.counts c.tell_closing_line.new.site) (g.S.Source.faults c.args.source.now) (g.S.Source.faults c.carry_out_on-status.new.source) c.carry_out_on-status.result empty none
    (later_cause c.of.result (g.W.Site.counts c.args.site.now) (g.W.Site.counts c.carry_out_on-status.new.site) (g.W.Site.counts c.tell_closing_line.new.site) (g.S.Source.faults c.args.source.now) (g.S.Source.faults c.carry_out_on-status.new.source)
    c.carry_out_on-status.result c.carry_out_on-status.ensures.cause c.tell_closing_line.ensures.none_fell)
    (returns-clause-makes g c t tables short is)

pub returns-clause-complete_dump : goal.returns-clause-complete_dump
returns-clause-complete_dump g c t is found is_found room none =
    complete_dump c.of.result found (g.W.Site.state c.args.site.now) (g.W.Site.state c.tell_closing_line.new.site)
    (g.W.Site.counts c.args.site.now) (g.W.Site.counts c.tell_closing_line.new.site) (g.S.Source.faults c.args.source.now) (g.S.Source.faults c.carry_out_on-status.new.source) c.carry_out_on-status.result room none
    (later_cause c.of.result (g.W.Site.counts c.args.site.now) (g.W.Site.counts c.carry_out_on-status.new.site) (g.W.Site.counts c.tell_closing_line.new.site) (g.S.Source.faults c.args.source.now) (g.S.Source.faults c.carry_out_on-status.new.source)
    c.carry_out_on-status.result c.carry_out_on-status.ensures.cause c.tell_closing_line.ensures.none_fell)
    (returns-clause-dumps g c t is found is_found)
