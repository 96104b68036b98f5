use Rattle.std.proofs.Common.{◌≡◌, ◌*◌, ◌-◌, ◌^◌, ◌≤◌, length}
use Rattle.px_site.specs.Cause.{NoneFell}
use Rattle.px_log.specs.MayStand.{MayStand}
use Rattle.px_xlog.specs.Contents.{the_log}
use Rattle.px_log.specs.Window.{Sees, longest_frame}
use Rattle.px_log.proofs.LogReading.{IsReading}
use Rattle.px_log.proofs.reader.read_log.Given as goal

abbrev pub invariant-loop-changes : goal.invariant-loop-changes
invariant-loop-changes g l =
    let state = g.W.Site.state in
    record {
      small : l.stop ≤ longest_frame * l.frames;
      bounded : l.frames ≤ 2 ^ 48;
      held : MayStand l.restart.tables 0 l.restart.short l.changes;
      count : l.frames ≡ length l.changes;
      reading : g.W.Site.tells → IsReading ((state l.fn.site).content the_log) l.changes l.stop l.frames;
      sees : g.W.Site.tells → Sees ((state l.fn.site).content the_log) l.window;
      same : g.W.Site.tells → state l.site ≡ state l.fn.site;
      none_fell : NoneFell (g.W.Site.counts l.fn.site) (g.W.Site.counts l.site);
    }

abbrev pub decreases-loop-changes : goal.decreases-loop-changes
decreases-loop-changes g l = 2 ^ 48 - l.frames
