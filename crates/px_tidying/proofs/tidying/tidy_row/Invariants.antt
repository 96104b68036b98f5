use Rattle.std.proofs.Common.{take}
use Rattle.px_history.specs.Store.{Store}
use Rattle.px_site.specs.Cause.{NoneFell}
use Rattle.px_tidy.specs.Numbers.{done_of}
use Rattle.px_tidy.specs.Steps.{tidying_row}
use Rattle.px_tidying.specs.Going.{HasRow}
use Rattle.px_tidying.specs.Opening.{HasStore, LastsThrough, Made, opening}
use Rattle.px_tidying.proofs.tidying.tidy_row.Given as goal

-- the versions before the index were unlinked
abbrev pub invariant-loop-version : goal.invariant-loop-version
invariant-loop-version g l =
    let old = opening (g.W.Site.state l.fn.site) l.fn.held l.fn.log in
    let now = opening (g.W.Site.state l.site) l.held l.log in
    record {
      made : (store : Store) → HasRow (done_of l.done) l.table l.row store → HasStore store old
          → Made g.W.Site.tells store (take l.version-index (tidying_row store l.table l.row)) old now;
      lasts : (store : Store) → HasRow (done_of l.done) l.table l.row store → HasStore store old → LastsThrough g.W.Site.tells store old now;
      none_fell : NoneFell (g.W.Site.counts l.fn.site) (g.W.Site.counts l.site);
    }
