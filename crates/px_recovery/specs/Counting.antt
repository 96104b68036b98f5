-- A store whose row pointers are those of its rows.
use Rattle.std.specs.Prelude.{◌≡◌, ℕ, true, Some, None}
use Rattle.px_chain.specs.Sound.{IsUsedRow, key_of}
use Rattle.px_history.specs.Store.{Store}
use Rattle.px_model.specs.declared.row.Row.{Row}
use Rattle.px_model.specs.Rows.{in_order, row_at}
use Rattle.px_tables.specs.Keys.{HasNoRow}
use Rattle.std.specs.Prelude.{List}

-- each used row pointer is that of one of these rows, and there is no other one
pub record HasRows (store : Store) (rows : List Row) : Type 0 where
  pub order : in_order rows ≡ true
  pub some : (t row : ℕ) → IsUsedRow (store.tables t) row → (its : Row) × (row_at (t, key_of (store.tables t) row) rows ≡ Some its)
  pub none : (t : ℕ) (key : List ℕ) → HasNoRow (store.tables t) key → row_at (t, key) rows ≡ None
