use Rattle.std.proofs.Common.{◌≡◌, subst, sym}
use Rattle.px_site.specs.State.{EachMoment}
use Rattle.px_play.specs.Acknowledged.{KeepsAcknowledged}
use Rattle.px_play.specs.Causes.{faults_by}
use Rattle.px_play.specs.Input.{script_of}
use Rattle.px_run.specs.Running.{machine_after}
use Rattle.px_run.specs.Working.{RunsScript}
use Rattle.px_run.specs.Causes.{RefusesBad}
use Rattle.px_run.proofs.Opening.{opened_whole, play_unrefused, played_reads, unopened_refused, unrefused_quiet, unrefused_shows}
use Rattle.px_run.proofs.Alike.{settled_found}
use Rattle.px_run.proofs.Scripts.{moments_behind, not_opened, opening_moments, run_behind, unopened_faults}
use Rattle.px_run.proofs.run_script.run_script.Goals as goal

pub returns-in-Ok-clause-refused : goal.returns-in-Ok-clause-refused
returns-in-Ok-clause-refused g c = λ tells.
    opened_whole c.what_opens_is_not_refused.ensures (g.W.Site.state c.args.site).content c.in-Ok.opened.report c.play_opened-status.result (c.in-Ok.ensures.opened tells)

pub returns-in-Ok-clause-shown : goal.returns-in-Ok-clause-shown
returns-in-Ok-clause-shown g c = λ tells.
    unrefused_shows (g.W.Site.state c.args.site).content (g.W.Site.state c.close-site.result).content c.play_opened-status.result
    (play_unrefused (g.W.Site.counts c.in-Ok.opened.core.site) (g.W.Site.counts c.play_opened-status.new.opened.core.site) (g.S.Source.faults c.args.source.now) (g.S.Source.faults c.play_opened-status.new.source)
    c.play_opened-status.result c.play_opened-status.ensures.cause (c.play_opened-status.ensures.sound tells))

pub returns-in-Ok-clause-quiet : goal.returns-in-Ok-clause-quiet
returns-in-Ok-clause-quiet g c = λ tells.
    unrefused_quiet (g.W.Site.state c.args.site) (g.W.Site.state c.close-site.result) c.play_opened-status.result
    (play_unrefused (g.W.Site.counts c.in-Ok.opened.core.site) (g.W.Site.counts c.play_opened-status.new.opened.core.site) (g.S.Source.faults c.args.source.now) (g.S.Source.faults c.play_opened-status.new.source)
    c.play_opened-status.result c.play_opened-status.ensures.cause (c.play_opened-status.ensures.sound tells))

pub returns-in-Ok-clause-unopened : goal.returns-in-Ok-clause-unopened
returns-in-Ok-clause-unopened g c = λ source_tells.
    played_reads g.W.Site.tells (g.W.Site.counts c.in-Ok.opened.core.site) (g.W.Site.counts c.play_opened-status.new.opened.core.site) (g.S.Source.faults c.args.source.now) (g.S.Source.faults c.play_opened-status.new.source)
    (g.S.Source.left c.args.source.now) (g.S.Source.left c.play_opened-status.new.source) c.play_opened-status.result c.play_opened-status.ensures.cause c.play_opened-status.ensures.sound

pub returns-in-Ok-clause-runs : goal.returns-in-Ok-clause-runs
returns-in-Ok-clause-runs g c = λ tells source_tells found is_found.
    run_behind g.W.Site.counts c.close-site.result (c.in-Ok.ensures.told tells) c.in-Ok.ensures.none_fell c.close-site.ensures.site (c.close-site.ensures.stored tells)
    (c.play_opened-status.ensures.runs tells source_tells found (c.in-Ok.ensures.stored tells found is_found))

pub returns-in-Ok-clause-moments : goal.returns-in-Ok-clause-moments
returns-in-Ok-clause-moments g c = λ tells source_tells found store.
    let state = g.W.Site.state in
    let before = state c.args.site in
    let script = script_of (g.S.Source.left c.args.source.now) in
    subst (λ (site : g.row.W.Denot). EachMoment (KeepsAcknowledged (machine_after found script) before.now.told) before (state site)) (sym c.close-site.ensures.site)
    (moments_behind found script (c.in-Ok.ensures.told tells) (c.in-Ok.ensures.moments tells found.commits found.rows store.settled)
    (c.play_opened-status.ensures.moments tells source_tells found (c.in-Ok.ensures.stored tells found (settled_found found before store))))

pub returns-in-Err-clause-refused : goal.returns-in-Err-clause-refused
returns-in-Err-clause-refused g c = λ tells.
    subst (RefusesBad (g.W.Site.state c.args.site).content) (sym c.from.ensures)
    (unopened_refused c.what_has_no_room_is_not_refused.ensures (g.W.Site.state c.args.site).content c.in-Err.refused.error (c.in-Err.ensures.refused tells) (c.in-Err.ensures.absent tells))

pub returns-in-Err-clause-runs : goal.returns-in-Err-clause-runs
returns-in-Err-clause-runs g c = λ tells source_tells found is_found.
    let input = g.S.Source.left c.args.source.now in
    let before = g.W.Site.state c.args.site in
    let now = g.W.Site.state c.in-Err.refused.site in
    let counts = g.W.Site.counts c.args.site in
    let counts_now = g.W.Site.counts c.in-Err.refused.site in
    subst (RunsScript found input input before now counts counts_now) (sym c.from.ensures)
    (not_opened found input before now counts counts_now c.in-Err.refused.error (c.in-Err.ensures.sound tells found is_found) (c.in-Err.ensures.full tells found is_found) (c.in-Err.ensures.told tells))

pub returns-in-Err-clause-read_faults : goal.returns-in-Err-clause-read_faults
returns-in-Err-clause-read_faults g c =
    let faults = g.S.Source.faults c.args.source.now in
    subst (λ status. faults ≡ faults_by status faults) (sym c.from.ensures) (unopened_faults c.in-Err.refused.error faults)

pub returns-in-Err-clause-moments : goal.returns-in-Err-clause-moments
returns-in-Err-clause-moments g c = λ tells source_tells found store.
    opening_moments found (script_of (g.S.Source.left c.args.source.now)) (c.in-Err.ensures.moments tells found.commits found.rows store.settled)
