use Rattle.std.proofs.Common.{◌≡◌, ◌+◌, ◌-◌, ◌^◌, ◌<◌}
use Rattle.px_site.specs.Cause.{NoneFell}
use Rattle.px_dlog.specs.Inventory.{Rise}
use Rattle.px_dlog.proofs.Listing.{IsFoundTo}
use Rattle.px_dlog.proofs.finding.find_logs.Given as goal

-- the logs up to the last one are found
abbrev pub invariant-loop-logs : goal.invariant-loop-logs
invariant-loop-logs g l =
    let state = g.W.Site.state in
    record {
      small : l.last < 2 ^ 32;
      rise : Rise 1 (l.last + 1) l.logs.items;
      found : g.W.Site.tells → IsFoundTo (state l.fn.site).content l.logs.items l.last;
      same : g.W.Site.tells → state l.site ≡ state l.fn.site;
      none_fell : NoneFell (g.W.Site.counts l.fn.site) (g.W.Site.counts l.site);
    }

abbrev pub decreases-loop-logs : goal.decreases-loop-logs
decreases-loop-logs g l = 2 ^ 32 - l.last
