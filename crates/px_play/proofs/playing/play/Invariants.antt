use Rattle.std.proofs.Common.{◌≡◌, ◌≤◌, ℕ, List, None}
use Rattle.px_site.specs.Cause.{NoneFell}
use Rattle.px_model.specs.Machine.{Machine}
use Rattle.px_core.specs.Working.{WorksFor}
use Rattle.px_engine.specs.Engine.{Engine}
use Rattle.px_play.specs.Engine.{IsEngine}
use Rattle.px_play.specs.Input.{script_of}
use Rattle.px_play.specs.Reading.{IsRead}
use Rattle.px_play.specs.Turns.{Acknowledges}
use Rattle.px_play.proofs.Played.{HasPlayed, KeepsSoFar, LeavesFiles}
use Rattle.px_play.proofs.playing.play.Given as goal

abbrev pub invariant-loop-answered : goal.invariant-loop-answered
invariant-loop-answered g l =
    let tells = g.W.Site.tells in
    let state = g.W.Site.state in
    let input = g.S.Source.left l.fn.source in
    let old = l.fn.core in
    record {
      whole : l.core.error ≡ None;
      none_fell : NoneFell (g.W.Site.counts old.site) (g.W.Site.counts l.core.site);
      source_none_fell : g.S.Source.faults l.fn.source ≤ g.S.Source.faults l.source;
      source_faults : g.S.Source.faults l.source ≡ g.S.Source.faults l.fn.source;
      read : g.S.Source.tells → IsRead input l.lines (g.S.Source.left l.source) l.answered;
      played : tells → g.S.Source.tells → (e : Engine) → IsEngine state old e → HasPlayed state e (script_of input) old l.core l.answered;
      kept : tells → g.S.Source.tells → (e : Engine) → IsEngine state old e → (told : List ℕ) → Acknowledges told e.machine (state old.site)
          → KeepsSoFar e (script_of input) told (state old.site) (state l.core.site) l.answered;
      others : tells → (m : Machine) → WorksFor state old m → LeavesFiles state old l.core;
    }
