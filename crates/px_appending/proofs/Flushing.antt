-- The sync: what the store, the log and a life then are.
use Rattle.std.proofs.Common.{◌≡◌, ℕ, List, Result, Ok, Err, refl, sym, subst, arith}
use Rattle.std.specs.Prelude.{OnErr, OnOk}
use Rattle.px_held.proofs.Serving.{anywhere}
use Rattle.px_held.specs.Serving.{HeldTables}
use Rattle.px_change.specs.declared.change.Change.{Change}
use Rattle.px_history.specs.Store.{Store}
use Rattle.px_life.specs.Life.{Life}
use Rattle.px_log.specs.Log.{HasFirst, IsLogOf, Log}
use Rattle.px_model.specs.Machine.{Machine}
use Rattle.px_reached.specs.Reachable.{Marks}
use Rattle.px_restart.specs.declared.restart.Restart.{Restart}
use Rattle.px_shown.specs.Parts.{Parts}
use Rattle.px_site.proofs.Moments.{weaker_moments}
use Rattle.px_site.specs.State.{Moment, OnFile, State}
use Rattle.px_tidying.proofs.Flushing.{HasFronts, flush_life}
use Rattle.px_tidying.specs.Opening.{HasLife, HasStore, Opening, opening}
use Rattle.px_working.proofs.Moments.{synced_meanwhile}
use Rattle.px_working.specs.Lasts.{LeavesFronts}
use Rattle.px_xlog.specs.Contents.{the_log}
use Rattle.px_appending.specs.Appending.{IsFlushed, LastsThere, LastsWithin}

pub is_flushed : (tells : Type 0) (s other : State) (held : HeldTables) (log later : Log) → later ≡ record log { durable = log.frames }
    → (tells → (changes : List Change) → IsLogOf log changes s → IsLogOf later changes other)
    → HasFronts tells (opening s held log) (opening other held later) → IsFlushed tells (opening s held log) (opening other held later)
is_flushed tells s other held log later its logged moments tell parts least m life restart marks has =
    flush_life tells parts least m life restart marks (opening s held log) (opening other held later) tell has refl its (logged tell life.changes has.logged) moments

meanwhile : (parts : Parts) (least : ℕ) (m : Machine) (life : Life) (restart : Restart) (marks : Marks) (old : Opening) → HasLife parts least m life restart marks old
    → (now : Moment) → OnFile the_log old.site.now (HasFirst old.log.durable life.changes) now → LastsWithin parts least m restart old.site.now now
meanwhile parts least m life restart marks old has now on = record {
  still = record {
    life = life;
    marks = record marks { durable = marks.durable };
    lasts = synced_meanwhile parts least marks.durable m life restart marks old.site.now now has.lasts on.others (omega arith) has.lasts.reachable.end
        (subst (λ (n : ℕ). LeavesFronts n life.changes (now.files the_log)) has.durable on.this.each);
    told = on.told;
    telling = on.telling;
  };
  others = on.others;
}

pub lasts_there : (tells : Type 0) (old new : Opening) → HasFronts tells old new → LastsThere tells old new
lasts_there tells old new moments tell parts least m life restart marks has =
    weaker_moments (meanwhile parts least m life restart marks old has) (moments tell life.changes has.logged)

-- the durable ones alone may be others
pub store_there : (store : Store) (s other : State) (held : HeldTables) (log later : Log) (durable : ℕ) → later ≡ record log { durable = durable }
    → HasStore store (opening s held log) → HasStore store (opening other held later)
store_there store s other held log later durable its has =
    subst (λ (l : Log). HasStore store (opening other held l)) (sym its) (record {
      serves = anywhere s other held store has.serves;
      numbers = has.numbers;
      places = has.places;
      is_short = has.is_short;
      few = has.few;
      room = has.room;
      tables = has.tables;
      short = has.short;
    })

-- ---- whatever the call answered

pub flushed_if : {T E : Type 0} (r : Result T E) (tells : Type 0) (s other : State) (held : HeldTables) (log later : Log) → OnOk r (later ≡ record log { durable = log.frames })
    → (tells → (changes : List Change) → IsLogOf log changes s → OnOk r (IsLogOf later changes other))
    → HasFronts tells (opening s held log) (opening other held later) → OnOk r (IsFlushed tells (opening s held log) (opening other held later))
flushed_if (Ok x) tells s other held log later its logged moments = is_flushed tells s other held log later its logged moments
flushed_if (Err e) tells s other held log later its logged moments = tt

pub store_if : {T E : Type 0} (r : Result T E) (store : Store) (s other : State) (held : HeldTables) (log later : Log) → OnOk r (later ≡ record log { durable = log.frames })
    → OnErr r (later ≡ log) → HasStore store (opening s held log) → HasStore store (opening other held later)
store_if (Ok x) store s other held log later its same has = store_there store s other held log later log.frames its has
store_if (Err e) store s other held log later its same has = store_there store s other held log later log.durable same has
