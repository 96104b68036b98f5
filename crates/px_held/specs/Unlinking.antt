-- Which versions may go, and what is prepared for it.
use Rattle.std.specs.Prelude.{ℕ}
use Rattle.px_chain.specs.Places.{IsRun, StandsAt}
use Rattle.px_chain.specs.Sound.{IsUsedRow}
use Rattle.px_history.specs.Steps.{Step}
use Rattle.px_history.specs.Store.{Store}
use Rattle.px_site.specs.State.{State}
use Rattle.px_tables.specs.Held.{Held}
use Rattle.px_tables.specs.Unlinking.{IsUnlink}
use Rattle.px_held.specs.declared.prepared.PreparedUnlink.{PreparedUnlink}
use Rattle.px_held.specs.Linking.{IsHeldAt}
use Rattle.px_held.specs.Serving.{HeldTables, Serves}

-- so many versions of a used row stand in its chain: the newest of them in the first slot, behind the newer one, 0 where none is
pub record HasVersions (store : Store) (t row newer first count : ℕ) : Type 0 where
  pub used : IsUsedRow (store.tables t) row
  pub from : ℕ
  pub run : IsRun ((store.layouts t).chain row) from newer first count

-- a store that is served has them
pub record ServesVersions (site : State) (held : HeldTables) (t row newer first count : ℕ) : Type 0 where
  pub store : Store
  pub serves : Serves site held store
  pub versions : HasVersions store t row newer first count

-- what is prepared is an unlink of versions of its table
pub record IsUnlinkReady (held : HeldTables) (prepared : PreparedUnlink) : Type 0 where
  pub table : Held
  pub at : IsHeldAt held prepared.table table
  pub unlink_is : IsUnlink table.cells prepared.unlinking

-- the versions stand in the store from this place of their row's chain on
abbrev pub GoFrom : Store → PreparedUnlink → (from : ℕ) → Type 0
GoFrom store prepared from = StandsAt ((store.layouts prepared.table).chain prepared.unlinking.row) from prepared.unlinking.first

abbrev pub unlink_from : PreparedUnlink → (from : ℕ) → Step
unlink_from prepared from = Step.unlink prepared.table prepared.unlinking.row from prepared.unlinking.count
