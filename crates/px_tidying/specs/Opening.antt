-- A store while it is opened: its tables, its log, and the life that goes on with each step of the tidying.
use Rattle.std.specs.Prelude.{◌≡◌, ℕ, ◌+◌, ◌^◌, ◌≤◌, true, List, [], length}
use Rattle.px_cells.specs.Form.{is_short}
use Rattle.px_held.specs.Serving.{HeldTables, Serves}
use Rattle.px_history.specs.Fitting.{PlacesFit}
use Rattle.px_history.specs.Steps.{Step, after_steps}
use Rattle.px_history.specs.Store.{Store}
use Rattle.px_life.specs.Front.{AreStored}
use Rattle.px_life.specs.Life.{Life}
use Rattle.px_log.specs.Log.{IsLogOf, Log}
use Rattle.px_log.specs.Touching.{TouchesLog}
use Rattle.px_model.specs.Machine.{Machine}
use Rattle.px_model.specs.declared.limits.TheConstants.{MOST_TABLES}
use Rattle.px_reached.specs.Reachable.{Marks}
use Rattle.px_restart.specs.declared.restart.Restart.{Restart}
use Rattle.px_shown.specs.Parts.{Parts}
use Rattle.px_site.specs.State.{EachMoment, Moment, State}
use Rattle.px_working.specs.Follows.{last_store}
use Rattle.px_working.specs.Lasts.{Lasts}
use Rattle.px_beginning.specs.Tidied.{with_steps}

pub record Opening : Type 0 where
  pub site : State
  pub held : HeldTables
  pub log : Log

abbrev pub opening : State → HeldTables → Log → Opening
opening site held log = record { site = site; held = held; log = log }

-- The tables are those of the store, in whose chains stand stored numbers, and the log takes its changes.
pub record HasStore (store : Store) (o : Opening) : Type 0 where
  pub serves : Serves o.site o.held store
  pub numbers : AreStored store.tables store.layouts
  pub places : (t : ℕ) → PlacesFit (store.tables t).header
  pub is_short : is_short o.held.short ≡ true
  pub few : o.log.tables ≤ MOST_TABLES
  pub room : o.log.frames ≤ 2 ^ 48
  pub tables : length o.held.tables ≡ o.log.tables
  pub short : o.log.short ≡ o.held.short

-- The life lasts for the machine, the tables are those of its last front, and the log has its changes.
pub record HasLife (parts : Parts) (least : ℕ) (m : Machine) (life : Life) (restart : Restart) (marks : Marks) (o : Opening) : Type 0 where
  pub lasts : Lasts parts least m life restart marks o.site.now
  pub store : HasStore (last_store life) o
  pub logged : IsLogOf o.log life.changes o.site
  pub durable : o.log.durable ≡ marks.durable
  pub tables : o.log.tables ≡ restart.tables
  pub short : o.log.short ≡ restart.short

-- ---- a call

-- These steps of the store were made: they lead to the store of the new tables, each in a frame of its own, a call for each touched the log
-- and nothing else, and a life that ended in the store goes on with them.
pub record Made (tells : Type 0) (store : Store) (steps : List Step) (old new : Opening) : Type 0 where
  pub after : HasStore (after_steps store steps) new
  pub frames : new.log.frames ≡ old.log.frames + length steps
  pub tables : new.log.tables ≡ old.log.tables
  pub touches : tells → TouchesLog (length steps) old.site new.site
  pub life : tells → (parts : Parts) (least : ℕ) (m : Machine) (life : Life) (restart : Restart) (marks : Marks) → last_store life ≡ store
      → HasLife parts least m life restart marks old → HasLife parts least m (with_steps restart.short life steps) restart marks new

-- a life of the machine's store lasts then, and no more is told
pub record LastsStill (parts : Parts) (least : ℕ) (m : Machine) (restart : Restart) (before now : Moment) : Type 0 where
  pub life : Life
  pub marks : Marks
  pub lasts : Lasts parts least m life restart marks now
  pub told : now.told ≡ before.told
  pub telling : now.telling ≡ []

-- at each moment of the call a life of the machine's store lasts, where one did that ended in this store
abbrev pub LastsThrough : (tells : Type 0) → Store → (old new : Opening) → Type 0
LastsThrough tells store old new =
    tells → (parts : Parts) (least : ℕ) (m : Machine) (life : Life) (restart : Restart) (marks : Marks) → last_store life ≡ store
    → HasLife parts least m life restart marks old → EachMoment (LastsStill parts least m restart old.site.now) old.site new.site
