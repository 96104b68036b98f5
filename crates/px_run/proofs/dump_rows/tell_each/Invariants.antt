use Rattle.std.proofs.Common.{◌≡◌, true, None}
use Rattle.px_site.specs.Cause.{NoneFell}
use Rattle.px_logged.specs.Recounting.{rows_now}
use Rattle.px_model.specs.Machine.{Machine}
use Rattle.px_model.specs.Rows.{in_order}
use Rattle.px_core.specs.Working.{WorksFor}
use Rattle.px_run.proofs.Walking.{HasWalked}
use Rattle.px_run.proofs.dump_rows.tell_each.Given as goal
use Rattle.px_run.specs.Told.{OnlyTells}

-- a line was told for each row so far
abbrev pub invariant-loop-told : goal.invariant-loop-told
invariant-loop-told g l =
    let tells = g.W.Site.tells in
    let state = g.W.Site.state in
    let old = l.fn.core in
    record {
      whole : l.core.error ≡ None;
      walked : tells → (m : Machine) → WorksFor state old m → in_order (rows_now m) ≡ true → HasWalked (rows_now m) l.last l.told (state old.site) (state l.core.site);
      only : tells → OnlyTells (state old.site) (state l.core.site);
      works : tells → (m : Machine) → WorksFor state old m → WorksFor state l.core m;
      none_fell : NoneFell (g.W.Site.counts old.site) (g.W.Site.counts l.core.site);
    }
