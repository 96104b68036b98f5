-- Which versions may go by a frame of the sweeper.
use Rattle.std.specs.Prelude.{ℕ}
use Rattle.px_held.specs.Serving.{HeldTables}
use Rattle.px_held.specs.Unlinking.{GoFrom, IsUnlinkReady, unlink_from}
use Rattle.px_held.specs.declared.prepared.PreparedUnlink.{PreparedUnlink}
use Rattle.px_history.specs.Fitting.{HasRoomFor, IsStoredNumber}
use Rattle.px_history.specs.Store.{Store}
use Rattle.px_tidying.specs.Opening.{HasStore, Opening}
use Rattle.px_working.specs.Follows.{swept_change}
use Rattle.px_appending.specs.Appending.{Changing}

-- They are prepared, a frame has room for their cells, and the write that is swept has a stored number.
pub record MayBeUnlinked (held : HeldTables) (prepared : PreparedUnlink) (xn : ℕ) : Type 0 where
  pub ready : IsUnlinkReady held prepared
  pub room : HasRoomFor prepared.unlinking.count
  pub swept : IsStoredNumber xn

-- the tables are those of the store, in which the versions stand from this place of their row's chain on
pub record GoesFrom (store : Store) (prepared : PreparedUnlink) (from : ℕ) (o : Opening) : Type 0 where
  pub has : HasStore store o
  pub stand : GoFrom store prepared from

-- what the frame has
abbrev pub sweeping : PreparedUnlink → (from xn : ℕ) → Changing
sweeping prepared from xn = λ short store. swept_change short store (unlink_from prepared from) xn
