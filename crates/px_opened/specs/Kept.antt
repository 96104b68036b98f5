-- That places hold a whole store.
use Rattle.std.specs.Prelude.{ℕ}
use Rattle.px_history.specs.Fitting.{IsTable}
use Rattle.px_history.specs.Store.{Store}
use Rattle.px_laid.specs.Holds.{Holds}
use Rattle.px_laid.specs.Places.{Places}
use Rattle.px_opened.specs.Opened.{IsUnused}

-- In a store with so many tables and that short length, the places hold each table of this one, and it has no others.
pub record HoldsStore (short tables : ℕ) (store : Store) (places : Places) : Type 0 where
  pub each : (t : ℕ) → IsTable tables t → Holds short t (store.tables t) (store.layouts t) places
  pub others : (t : ℕ) → ¬ IsTable tables t → IsUnused (store.tables t) (store.layouts t)
