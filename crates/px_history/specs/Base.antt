-- A store from which steps may go on, and the rows after them.
use Rattle.std.specs.Prelude.{◌≡◌, ℕ, ◌<◌, ◌≤◌, nat_lt, not, false, ◌&&◌, List, All}
use Rattle.px_chain.specs.Sound.{IsUsedRow}
use Rattle.px_model.specs.declared.row.Row.{Row}
use Rattle.px_shown.specs.Parts.{Parts}
use Rattle.px_shown.specs.Shown.{Shows}
use Rattle.px_shown.specs.Tables.{AreSound}
use Rattle.px_history.specs.Store.{IsOpen, Store, versions_of}

-- Its cells are sound and show these rows. All its versions are of transactions whose numbers are below `next`, the number of
-- the next one; each of these that isn't done never will be, and each later one may still commit.
pub record IsBase (parts : Parts) (short next : ℕ) (rows : List Row) (base : Store) : Type 0 where
  pub sound : AreSound short base.tables base.layouts
  pub shows : Shows parts base.tables base.layouts base.done rows
  pub numbers : (t row : ℕ) → IsUsedRow (base.tables t) row → All (λ slot. slot.xn < next) (versions_of base t row)
  pub ended : (xn : ℕ) → xn < next → base.over xn ≡ not (base.done xn)
  pub later : (xn : ℕ) → next ≤ xn → IsOpen base xn

-- the store after a crash or an end: who has a lower number and isn't done is over
abbrev pub ended_before : (next : ℕ) → Store → Store
ended_before next store = record store { over = λ xn. nat_lt xn next && not (store.done xn) }

-- the cells alone, where each lower number counts as done
abbrev pub done_before : (next : ℕ) → Store → Store
done_before next store = record store { done = λ xn. nat_lt xn next; over = λ xn. false }
