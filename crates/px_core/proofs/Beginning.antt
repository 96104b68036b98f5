-- A core over what was just opened works for the machine that may begin there.
use Rattle.std.proofs.Common.{◌≡◌, None, sym, subst}
use Rattle.px_cell_laws.proofs.Noting.{nothing_written}
use Rattle.px_cell_laws.specs.Locating.{AreWrittenAt}
use Rattle.px_life.specs.Life.{Life}
use Rattle.px_model.specs.Machine.{Machine}
use Rattle.px_reached.specs.Reachable.{Marks}
use Rattle.px_restart.specs.declared.restart.Restart.{Restart}
use Rattle.px_site.specs.State.{State}
use Rattle.px_working.specs.Follows.{last_store}
use Rattle.px_xacts.specs.Transactions.{Transactions}
use Rattle.px_core.specs.Core.{opening_of}
use Rattle.px_core.specs.Working.{MayBegin, WorksFor}
use Rattle.px_core.specs.declared.state.Kept.{Kept}

pub begins_works : {W : Type 0} (state : W → State) (core : Kept W) (m : Machine) (life : Life) (restart : Restart) (marks : Marks) → core.error ≡ None
    → MayBegin m life restart marks (opening_of state core) core.active → WorksFor state core m
begins_works state core m life restart marks whole may = record {
  whole = whole;
  life = life;
  restart = restart;
  marks = marks;
  order = may.order;
  has = may.has;
  works = may.works;
  active = may.active_is;
  written_at = subst (λ (all : Transactions). AreWrittenAt all (last_store life)) (sym may.fresh) (nothing_written m.base (last_store life));
  found = may.found;
}
