-- What `dump` tells and leaves.
use Rattle.std.proofs.Common.{◌≡◌, ℕ, true, List, length, Result, refl, sym, ap, subst, ◌∙◌, arith}
use Rattle.px_site.specs.State.{State, EachMoment}
use Rattle.px_site.proofs.Moments.{then_moments, weaker_moments}
use Rattle.px_model.specs.declared.row.Row.{Row}
use Rattle.px_model.specs.Machine.{fresh}
use Rattle.px_model.specs.Rows.{in_order}
use Rattle.px_logged.specs.Recounting.{rows_now}
use Rattle.px_core.specs.Working.{WorksFor}
use Rattle.px_core.specs.declared.state.Kept.{Kept}
use Rattle.px_calls.specs.declared.status.Status.{Status}
use Rattle.px_calls.specs.declared.status.Status.TheVariants.{Done, DiskFault, OutOfMemory, LogFull}
use Rattle.px_cell_standing.specs.Found.{Found, HoldsStore, machine_of}
use Rattle.px_cell_standing.specs.Images.{ImagesStandFor, KeepsStanding}
use Rattle.px_recovery.specs.declared.error.OpenError.{OpenError}
use Rattle.px_recovery.specs.declared.error.OpenError.TheVariants.{OutOfMemory as OpenShort, Fault as OpenFault, LogFull as OpenFull}
use Rattle.px_recovery.specs.Errors.{FindsNoRoom, IsPassing, status_of_opening}
use Rattle.px_recovery.proofs.Quiet.{last_moment}
use Rattle.px_run.specs.Dumping.{OnDone, dump_pieces}
use Rattle.px_run.specs.Working.{DumpsRows, TellsLines, TellsRows}
use Rattle.px_run.specs.Told.{OnlyTells}
use Rattle.px_cell_standing.proofs.Syncing.{stand_alike}
use Rattle.px_run.proofs.Pieces.{told_from, told_nothing}
use Rattle.px_run.proofs.Quiet.{rows_are}

on_done : (status : Status) {P : Type 0} → P → OnDone status P
on_done Done p = p
on_done _ p = tt

pub later_done : (status : Status) {P Q : Type 0} → (P → Q) → OnDone status P → OnDone status Q
later_done Done f p = f p
later_done _ f p = tt

-- the store was opened, its rows told, and the site given back
pub dumped : (found : Found) (a b c d : State) (status : Status) → b.now.told ≡ a.now.told → TellsRows found b c status → c ≡ d → HoldsStore (machine_of found) d → DumpsRows found a d status
dumped found a b c d status quiet tells closed holds = record {
  tells = subst (λ (s : State). TellsRows found a s status) closed
      (record { whole = tells.whole; ends = tells.ends; told = told_from (dump_pieces found.rows) tells.whole status a b c quiet tells.told });
  holds = on_done status holds;
}

-- it wasn't opened
pub undumped : (found : Found) (a b : State) (error : OpenError) → IsPassing error → FindsNoRoom found error → b.now.told ≡ a.now.told → DumpsRows found a b (status_of_opening error)
undumped found a b OpenShort passing full quiet = record {
  tells = record { whole = 0; ends = omega arith; told = told_nothing (dump_pieces found.rows) OutOfMemory quiet };
  holds = tt;
}
undumped found a b (OpenFault fault) passing full quiet = record {
  tells = record { whole = 0; ends = omega arith; told = told_nothing (dump_pieces found.rows) (DiskFault fault) quiet };
  holds = tt;
}
undumped found a b (OpenFull n) passing full quiet = record {
  tells = record { whole = 0; ends = (refl, record { none_left = full.0; below = full.1 }); told = told_nothing (dump_pieces found.rows) (LogFull n) quiet };
  holds = tt;
}
undumped found a b _ passing full quiet = absurd passing

-- ---- the rows of the machine that starts are those that were found

opening_is : (found : Found) → (machine_of found).opening ≡ found.rows
unfolding fresh
opening_is found = refl

pub dumped_in_order : {W : Type 0} {state : W → State} {core : Kept W} (found : Found) → WorksFor state core (machine_of found) → in_order (rows_now (machine_of found)) ≡ true
dumped_in_order found works = ap in_order (rows_are found ∙ sym (opening_is found)) ∙ works.order

pub count_now : {n : ℕ} (found : Found) → n ≡ length found.rows → n ≡ length (rows_now (machine_of found))
count_now found count = count ∙ ap length (sym (rows_are found))

pub lines_of : (a b : State) (found : Found) (result : Result (Unit {0}) Status) → TellsLines (rows_now (machine_of found)) a b result → TellsLines found.rows a b result
lines_of a b found result tells = subst (λ (rows : List Row). TellsLines rows a b result) (rows_are found) tells

-- ---- at each moment

pub opening_moments : {a b : State} (commits : ℕ) (rows : List Row) → EachMoment (KeepsStanding commits rows a.now) a b → EachMoment (ImagesStandFor commits rows) a b
opening_moments commits rows opening = weaker_moments (λ m keeps. keeps.images) opening

pub dumping_moments : {a b c : State} (commits : ℕ) (rows : List Row) → ImagesStandFor commits rows a.now → EachMoment (KeepsStanding commits rows a.now) a b → OnlyTells b c → EachMoment (ImagesStandFor commits rows) a c
dumping_moments {a} {b} {c} commits rows before opening only =
    let moments : EachMoment (ImagesStandFor commits rows) a b = opening_moments commits rows opening in
    let now : ImagesStandFor commits rows b.now = last_moment (ImagesStandFor commits rows) before moments in
    then_moments moments (weaker_moments (λ m has. stand_alike b.now m commits rows has.same now) only.moments)
