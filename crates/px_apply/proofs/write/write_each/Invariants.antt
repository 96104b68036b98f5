use Rattle.std.proofs.Common.{◌≡◌, take}
use Rattle.px_site.specs.State.{EachMoment}
use Rattle.px_apply.specs.Moments.{IsWithin}
use Rattle.px_apply.specs.Writes.{cells_written}
use Rattle.px_apply.proofs.write.write_each.Given as goal

abbrev pub invariant-loop-cell : goal.invariant-loop-cell
invariant-loop-cell g l =
    let old = g.W.Site.state l.fn.site in
    let now = g.W.Site.state l.site in
    record {
      written : g.W.Site.tells → now ≡ cells_written l.short old (take l.cell-index l.cells);
      moments : g.W.Site.tells → EachMoment (IsWithin l.short l.cells old.now) old now;
      counts : g.W.Site.counts l.site ≡ g.W.Site.counts l.fn.site;
    }
