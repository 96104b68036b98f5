-- What a call that appends a frame does to the lives of a store.
use Rattle.std.specs.Prelude.{◌≡◌, ℕ}
use Rattle.px_change.specs.declared.change.Change.{Change}
use Rattle.px_history.specs.Steps.{Step}
use Rattle.px_history.specs.Store.{Store}
use Rattle.px_history.specs.Written.{change_of}
use Rattle.px_life.specs.Life.{Life, end_of, grown}
use Rattle.px_log.specs.Log.{Log}
use Rattle.px_model.specs.Machine.{Machine, commits}
use Rattle.px_reached.specs.Reachable.{Marks}
use Rattle.px_restart.specs.declared.restart.Restart.{Restart}
use Rattle.px_shown.specs.Parts.{Parts}
use Rattle.px_site.specs.State.{EachMoment, Moment}
use Rattle.px_standing.specs.Images.{LeavesOthers}
use Rattle.px_tidying.specs.Opening.{HasLife, LastsStill, Opening}
use Rattle.px_working.specs.Follows.{Follows, last_store}

-- The life lasts for the machine, and the step may follow it in a frame that has the change, by which it is one of the later machine.
pub record MayAdd (parts : Parts) (least : ℕ) (m later : Machine) (life : Life) (restart : Restart) (marks : Marks) (step : Step) (change : Change) (o : Opening) : Type 0 where
  pub has : HasLife parts least m life restart marks o
  pub follows : Follows parts m life restart step change later

-- what a step's frame has, in a store with that short length
abbrev pub Changing : Type 0
Changing = (short : ℕ) → Store → Change

-- each life that the step may follow so went on with it, and lasts for the later machine
abbrev pub AddsOn : (tells : Type 0) → Step → Changing → (old new : Opening) → Type 0
AddsOn tells step change old new =
    tells → (parts : Parts) (least : ℕ) (m later : Machine) (life : Life) (restart : Restart) (marks : Marks)
    → MayAdd parts least m later life restart marks step (change restart.short (last_store life)) old
    → HasLife parts least later (grown life step (change restart.short (last_store life))) restart marks new

-- in a frame that has the change of a session's call
abbrev pub called : Step → Changing
called step = λ short store. change_of short store step

abbrev pub MayGoOn : (parts : Parts) (least : ℕ) (m later : Machine) (life : Life) (restart : Restart) (marks : Marks) (step : Step) (o : Opening) → Type 0
MayGoOn parts least m later life restart marks step o =
    MayAdd parts least m later life restart marks step (change_of restart.short (last_store life) step) o

abbrev pub GoesOn : (tells : Type 0) → Step → (old new : Opening) → Type 0
GoesOn tells step old new = AddsOn tells step (called step) old new

-- A moment within a call: a life of the machine's store lasts, nothing is told, and every file but the log is as it was.
pub record LastsWithin (parts : Parts) (least : ℕ) (m : Machine) (restart : Restart) (before now : Moment) : Type 0 where
  pub still : LastsStill parts least m restart before now
  pub others : LeavesOthers before now

-- and at each moment of the call a life of the later machine's store lasts
abbrev pub LastsAdding : (tells : Type 0) → Step → Changing → (old new : Opening) → Type 0
LastsAdding tells step change old new =
    tells → (parts : Parts) (least : ℕ) (m later : Machine) (life : Life) (restart : Restart) (marks : Marks)
    → MayAdd parts least m later life restart marks step (change restart.short (last_store life)) old
    → EachMoment (LastsWithin parts least later restart old.site.now) old.site new.site

abbrev pub LastsOn : (tells : Type 0) → Step → (old new : Opening) → Type 0
LastsOn tells step old new = LastsAdding tells step (called step) old new

-- All frames are durable: each life goes on as it is, with each commit acknowledged.
abbrev pub IsFlushed : (tells : Type 0) → (old new : Opening) → Type 0
IsFlushed tells old new =
    tells → (parts : Parts) (least : ℕ) (m : Machine) (life : Life) (restart : Restart) (marks : Marks) → HasLife parts least m life restart marks old
    → HasLife parts (commits m) m life restart (record marks { durable = end_of life }) new

-- at each moment of the call a life of the same machine's store lasts
abbrev pub LastsThere : (tells : Type 0) → (old new : Opening) → Type 0
LastsThere tells old new =
    tells → (parts : Parts) (least : ℕ) (m : Machine) (life : Life) (restart : Restart) (marks : Marks) → HasLife parts least m life restart marks old
    → EachMoment (LastsWithin parts least m restart old.site.now) old.site new.site

-- the log is one of the same store, and as much of it is durable
pub record HasSameShape (old new : Log) : Type 0 where
  pub tables : new.tables ≡ old.tables
  pub short : new.short ≡ old.short
  pub durable : new.durable ≡ old.durable
