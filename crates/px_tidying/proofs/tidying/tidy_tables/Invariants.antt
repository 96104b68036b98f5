use Rattle.px_history.specs.Store.{Store}
use Rattle.px_site.specs.Cause.{NoneFell}
use Rattle.px_tidy.specs.Numbers.{done_of}
use Rattle.px_tidy.specs.Steps.{tidying_tables}
use Rattle.px_tidying.specs.Going.{IsDoneBy}
use Rattle.px_tidying.specs.Opening.{HasStore, LastsThrough, Made, opening}
use Rattle.px_tidying.proofs.tidying.tidy_tables.Given as goal

-- the tables 1 to `before` were tidied
abbrev pub invariant-loop-before : goal.invariant-loop-before
invariant-loop-before g l =
    let old = opening (g.W.Site.state l.fn.site) l.fn.held l.fn.log in
    let now = opening (g.W.Site.state l.site) l.held l.log in
    record {
      made : (store : Store) → IsDoneBy (done_of l.done) store → HasStore store old → Made g.W.Site.tells store (tidying_tables store l.before) old now;
      lasts : (store : Store) → IsDoneBy (done_of l.done) store → HasStore store old → LastsThrough g.W.Site.tells store old now;
      none_fell : NoneFell (g.W.Site.counts l.fn.site) (g.W.Site.counts l.site);
    }
