use Rattle.std.proofs.Common.{sym, subst}
use Rattle.px_site.specs.State.{EachMoment}
use Rattle.px_cell_standing.specs.Images.{ImagesAreNew, ImagesStandFor}
use Rattle.px_play.specs.Acknowledged.{KeepsAcknowledged}
use Rattle.px_play.specs.Input.{script_of}
use Rattle.px_run.specs.Causes.{HasStatusCause, NoCountFell, ShowsRefusal}
use Rattle.px_run.specs.Running.{machine_after}
use Rattle.px_run.specs.Working.{DumpsRows, MakesStore, RefusesQuietly, RunsScript}
use Rattle.px_run.proofs.Lent.{lent_cause, lent_fell, lent_runs}
use Rattle.px_run.proofs.run.carry_out_on.Goals as goal

-- each of these is known of the reference that comes back, and that is the one that was lent

pub returns-clause-cause : goal.returns-clause-cause
returns-clause-cause g c =
    let is = c.site-1.given.1 (sym c.carry_out.ensures.none_fell.same) in
    subst (λ (site : g.row.W.Denot). HasStatusCause c.args.command (g.W.Site.counts c.args.site.now) (g.W.Site.counts site) (g.S.Source.faults c.args.source.now) (g.S.Source.faults c.carry_out.new.source) c.carry_out.result.status) (sym is)
    (lent_cause c.args.command (g.W.Site.counts c.args.site.now) (g.W.Site.counts c.carry_out.result.site.now) (g.S.Source.faults c.args.source.now) (g.S.Source.faults c.carry_out.new.source) c.carry_out.result.status c.carry_out.ensures.none_fell c.carry_out.ensures.cause)

pub returns-clause-shown : goal.returns-clause-shown
returns-clause-shown g c t =
    let is = c.site-1.given.1 (sym c.carry_out.ensures.none_fell.same) in
    subst (λ (site : g.row.W.Denot). ShowsRefusal (g.W.Site.state c.args.site.now).content (g.W.Site.state site).content c.carry_out.result.status) (sym is) (c.carry_out.ensures.shown t)

pub returns-clause-quiet : goal.returns-clause-quiet
returns-clause-quiet g c t =
    let is = c.site-1.given.1 (sym c.carry_out.ensures.none_fell.same) in
    subst (λ (site : g.row.W.Denot). RefusesQuietly (g.W.Site.state c.args.site.now) (g.W.Site.state site) c.carry_out.result.status) (sym is) (c.carry_out.ensures.quiet t)

pub returns-clause-none_fell : goal.returns-clause-none_fell
returns-clause-none_fell g c =
    let is = c.site-1.given.1 (sym c.carry_out.ensures.none_fell.same) in
    subst (λ (site : g.row.W.Denot). NoCountFell (g.W.Site.counts c.args.site.now) (g.W.Site.counts site)) (sym is)
    (lent_fell (g.W.Site.counts c.args.site.now) (g.W.Site.counts c.carry_out.result.site.now) c.carry_out.ensures.none_fell)

pub returns-clause-runs : goal.returns-clause-runs
returns-clause-runs g c t u run found is_found =
    let is = c.site-1.given.1 (sym c.carry_out.ensures.none_fell.same) in
    subst (λ (site : g.row.W.Denot).
    RunsScript found (g.S.Source.left c.args.source.now) (g.S.Source.left c.carry_out.new.source) (g.W.Site.state c.args.site.now) (g.W.Site.state site) (g.W.Site.counts c.args.site.now) (g.W.Site.counts site) c.carry_out.result.status) (sym is)
    (lent_runs found (g.S.Source.left c.args.source.now) (g.S.Source.left c.carry_out.new.source) (g.W.Site.state c.args.site.now) (g.W.Site.state c.carry_out.result.site.now) (g.W.Site.counts c.args.site.now)
    (g.W.Site.counts c.carry_out.result.site.now) c.carry_out.result.status (c.carry_out.ensures.runs t u run found is_found))

pub returns-clause-any_moment : goal.returns-clause-any_moment
returns-clause-any_moment g c t u run found store =
    let is = c.site-1.given.1 (sym c.carry_out.ensures.none_fell.same) in
    let a = g.W.Site.state c.args.site.now in
    subst (λ (site : g.row.W.Denot). EachMoment (KeepsAcknowledged (machine_after found (script_of (g.S.Source.left c.args.source.now))) a.now.told) a (g.W.Site.state site)) (sym is)
    (c.carry_out.ensures.any_moment t u run found store)

pub returns-clause-makes : goal.returns-clause-makes
returns-clause-makes g c t tables short make =
    let is = c.site-1.given.1 (sym c.carry_out.ensures.none_fell.same) in
    subst (λ (site : g.row.W.Denot). MakesStore tables short (g.W.Site.state c.args.site.now) (g.W.Site.state site) c.carry_out.result.status) (sym is) (c.carry_out.ensures.makes t tables short make)

pub returns-clause-new_at_any_moment : goal.returns-clause-new_at_any_moment
returns-clause-new_at_any_moment g c t tables short make can =
    let is = c.site-1.given.1 (sym c.carry_out.ensures.none_fell.same) in
    subst (λ (site : g.row.W.Denot). EachMoment ImagesAreNew (g.W.Site.state c.args.site.now) (g.W.Site.state site)) (sym is) (c.carry_out.ensures.new_at_any_moment t tables short make can)

pub returns-clause-dumps : goal.returns-clause-dumps
returns-clause-dumps g c t dump found is_found =
    let is = c.site-1.given.1 (sym c.carry_out.ensures.none_fell.same) in
    subst (λ (site : g.row.W.Denot). DumpsRows found (g.W.Site.state c.args.site.now) (g.W.Site.state site) c.carry_out.result.status) (sym is) (c.carry_out.ensures.dumps t dump found is_found)

pub returns-clause-same_at_any_moment : goal.returns-clause-same_at_any_moment
returns-clause-same_at_any_moment g c t dump found store =
    let is = c.site-1.given.1 (sym c.carry_out.ensures.none_fell.same) in
    subst (λ (site : g.row.W.Denot). EachMoment (ImagesStandFor found.commits found.rows) (g.W.Site.state c.args.site.now) (g.W.Site.state site)) (sym is)
    (c.carry_out.ensures.same_at_any_moment t dump found store)
