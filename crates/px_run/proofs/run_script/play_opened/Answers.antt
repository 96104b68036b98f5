use Rattle.std.proofs.Common.{◌∙◌, Ok, Err, ap}
use Rattle.px_site.specs.State.{State}
use Rattle.px_cell_standing.specs.Found.{machine_of}
use Rattle.px_play.specs.Input.{script_of}
use Rattle.px_run.specs.Running.{engine_of}
use Rattle.px_run.proofs.Scripts.{engine_opened, line_moments, line_untold, script_moments, script_played, tells_opening, untold_faults}
use Rattle.px_run.proofs.run_script.play_opened.Goals as goal

pub returns-in-Err-clause-read_faults : goal.returns-in-Err-clause-read_faults
returns-in-Err-clause-read_faults g c =
    untold_faults (g.W.Site.counts c.args.opened.now.core.site) (g.W.Site.counts c.tell.new.core.site) c.in-Err.status c.in-Err.ensures.cause (g.S.Source.faults c.args.source.now)

pub returns-in-Err-clause-runs : goal.returns-in-Err-clause-runs
returns-in-Err-clause-runs g c = λ tells source_tells found opens.
    let old = g.W.Site.state c.args.opened.now.core.site in
    let new = g.W.Site.state c.tell.new.core.site in
    line_untold found (g.S.Source.left c.args.source.now) old new (g.W.Site.counts c.args.opened.now.core.site) (g.W.Site.counts c.tell.new.core.site) c.in-Err.status (c.tell.ensures.works tells (machine_of found) opens.works)
    (tells_opening found c.args.opened.now.report c.as_slice.result.now old new (Err c.in-Err.status) (c.as_slice.ensures.text ∙ c.opened_line-line.ensures) opens.report_is (c.in-Err.ensures.tells tells))

pub returns-in-Err-clause-moments : goal.returns-in-Err-clause-moments
returns-in-Err-clause-moments g c = λ tells source_tells found opens.
    let old = g.W.Site.state c.args.opened.now.core.site in
    let new = g.W.Site.state c.tell.new.core.site in
    line_moments g.W.Site.state found (script_of (g.S.Source.left c.args.source.now)) (Err c.in-Err.status) opens.works
    (tells_opening found c.args.opened.now.report c.as_slice.result.now old new (Err c.in-Err.status) (c.as_slice.ensures.text ∙ c.opened_line-line.ensures) opens.report_is (c.in-Err.ensures.tells tells))

pub returns-clause-runs : goal.returns-clause-runs
returns-clause-runs g c = λ tells source_tells found opens.
    let state = g.W.Site.state in
    let old = c.args.opened.now.core in
    let mid = c.tell.new.core in
    let told = tells_opening found c.args.opened.now.report c.as_slice.result.now (state old.site) (state mid.site) (Ok tt) (c.as_slice.ensures.text ∙ c.opened_line-line.ensures) opens.report_is (c.in_default.ensures.tells tells) in
    script_played (ap (λ (s : State). s.now.told) told) c.tell.ensures.none_fell
    (c.play.ensures.plays tells source_tells (engine_of found) (engine_opened found opens c.tell.new.core (c.tell.ensures.works tells) c.tell.ensures.rest))

pub returns-clause-moments : goal.returns-clause-moments
returns-clause-moments g c = λ tells source_tells found opens.
    let state = g.W.Site.state in
    let old = c.args.opened.now.core in
    let mid = c.tell.new.core in
    let script = script_of (g.S.Source.left c.args.source.now) in
    let told = tells_opening found c.args.opened.now.report c.as_slice.result.now (state old.site) (state mid.site) (Ok tt) (c.as_slice.ensures.text ∙ c.opened_line-line.ensures) opens.report_is (c.in_default.ensures.tells tells) in
    script_moments found script (ap (λ (s : State). s.now.told) told) (line_moments state found script (Ok tt) opens.works told)
    (c.play.ensures.moments tells source_tells (engine_of found) (engine_opened found opens mid (c.tell.ensures.works tells) c.tell.ensures.rest))
