use Rattle.std.proofs.Common.{◌≡◌, ◌≤◌}
use Rattle.px_held.specs.Serving.{HasSameForm, Serves}
use Rattle.px_history.specs.Store.{Store}
use Rattle.px_model.specs.declared.limits.TheConstants.{STORED_NUMBERS_END}
use Rattle.px_site.specs.Cause.{NoneFell}
use Rattle.px_tidying.specs.Numbers.{IsPastTables}
use Rattle.px_tidying.proofs.numbers.past_tables.Given as goal

abbrev pub invariant-loop-before : goal.invariant-loop-before
invariant-loop-before g l =
    let state = g.W.Site.state in
    record {
      past : (store : Store) → Serves (state l.fn.site) l.fn.held store → IsPastTables l.first store.tables l.before l.next;
      end : l.next ≤ STORED_NUMBERS_END;
      form : HasSameForm l.fn.held l.held;
      keeps : (store : Store) → Serves (state l.fn.site) l.fn.held store → Serves (state l.site) l.held store;
      same : g.W.Site.tells → state l.site ≡ state l.fn.site;
      none_fell : NoneFell (g.W.Site.counts l.fn.site) (g.W.Site.counts l.site);
    }
