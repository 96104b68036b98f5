-- Where the next version of a key goes, and what is prepared for it.
use Rattle.std.specs.Prelude.{◌≡◌, ℕ, ◌-◌, List, length, slice_index_or}
use Rattle.px_cells.specs.declared.slot.Slot.{Slot}
use Rattle.px_chain.specs.Table.{Table}
use Rattle.px_history.specs.Fitting.{IsTable}
use Rattle.px_history.specs.Steps.{Step}
use Rattle.px_shown.specs.Changes.{taken_slot}
use Rattle.px_tables.specs.declared.linking.Place.{Place}
use Rattle.px_tables.specs.Held.{Held}
use Rattle.px_tables.specs.Linking.{GoesTo, IsLink, IsPlaceFor, IsPrepared}
use Rattle.px_held.specs.declared.prepared.Prepared.{Prepared}
use Rattle.px_held.specs.Serving.{HeldTables, IsNumbered}

abbrev pub HasTable : HeldTables → (number : ℕ) → Type 0
HasTable held number = IsTable (length held.tables) number

-- the table in memory is the one with that number, with its room
pub record IsHeldAt (held : HeldTables) (number : ℕ) (table : Held) : Type 0 where
  pub there : HasTable held number
  pub is : table ≡ slice_index_or held.tables (number - 1) table
  pub numbered : IsNumbered held.short number table

-- the next version of the key goes there: to the slot that a link takes, with these links
pub record IsNextPlace (table : Table) (key : List ℕ) (place : Place) : Type 0 where
  pub its_number : place.number ≡ taken_slot table
  pub link : (slot : Slot) → GoesTo place key slot → IsLink table place.header slot

-- the next version of the key goes to this place of the table with that number, and there is memory for it
pub record HasPlaceFor (held : HeldTables) (number : ℕ) (key : List ℕ) (place : Place) : Type 0 where
  pub table : Held
  pub at : IsHeldAt held number table
  pub place_is : IsPlaceFor table key place

-- what is prepared goes onto its table, and there is memory for it
pub record IsReady (held : HeldTables) (prepared : Prepared) : Type 0 where
  pub table : Held
  pub at : IsHeldAt held prepared.table table
  pub linking_is : IsPrepared table prepared.linking

abbrev pub step_of : Prepared → Step
step_of prepared = Step.put prepared.table prepared.linking.header prepared.linking.slot
