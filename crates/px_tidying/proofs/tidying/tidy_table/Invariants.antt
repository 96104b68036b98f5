use Rattle.std.proofs.Common.{◌-◌, ◌^◌, ◌≤◌, length}
use Rattle.px_history.specs.Store.{Store}
use Rattle.px_site.specs.Cause.{NoneFell}
use Rattle.px_tidy.specs.Numbers.{done_of}
use Rattle.px_tidy.specs.Steps.{tidying_rows, tidying_table}
use Rattle.px_tidying.specs.Going.{IsDoneBy}
use Rattle.px_tidying.specs.Opening.{HasStore, LastsThrough, Made, opening}
use Rattle.px_tidying.proofs.tidying.tidy_table.Given as goal

-- the rows up to the last one were tidied
abbrev pub invariant-loop-row : goal.invariant-loop-row
invariant-loop-row g l =
    let old = opening (g.W.Site.state l.fn.site) l.fn.held l.fn.log in
    let now = opening (g.W.Site.state l.site) l.held l.log in
    record {
      made : (store : Store) → IsDoneBy (done_of l.done) store → HasStore store old → Made g.W.Site.tells store (tidying_rows store l.table l.last) old now;
      lasts : (store : Store) → IsDoneBy (done_of l.done) store → HasStore store old → LastsThrough g.W.Site.tells store old now;
      within : (store : Store) → IsDoneBy (done_of l.done) store → HasStore store old → length (tidying_rows store l.table l.last) ≤ length (tidying_table store l.table);
      none_fell : NoneFell (g.W.Site.counts l.fn.site) (g.W.Site.counts l.site);
    }

abbrev pub decreases-loop-row : goal.decreases-loop-row
decreases-loop-row g l = 2 ^ 32 - l.last
