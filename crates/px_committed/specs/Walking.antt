-- A walk over the keys of one table, and of one table after the other.
use Rattle.std.specs.Prelude.{◌≡◌, ℕ, ◌==◌, List, Option, Some, None, if◌then◌else◌}
use Rattle.px_model.specs.declared.key.KeyOf.{KeyOf}
use Rattle.px_model.specs.declared.row.Row.{Row}
use Rattle.px_model.specs.Rows.{row_at}
use Rattle.px_tables.specs.Order.{IsBefore, IsPast}

-- the table in which the walk begins
abbrev pub first_table : Option KeyOf → ℕ
first_table None = 1
first_table (Some after) = after.table

-- the key past which it goes in a table
abbrev pub key_in : Option KeyOf → (table : ℕ) → Option (List ℕ)
key_in None table = None
key_in (Some after) table = if after.table == table then Some after.key else None

-- the last key that was passed, or else the one past which the walk goes
abbrev pub last_passed : (after passed : Option (List ℕ)) → Option (List ℕ)
last_passed after None = after
last_passed after (Some key) = Some key

-- The walk has come from the one key to the other: no row of the table stands between.
pub record HasCome (rows : List Row) (table : ℕ) (after last : Option (List ℕ)) : Type 0 where
  pub none : (key : List ℕ) → IsPast after key → ¬ IsPast last key → row_at (table, key) rows ≡ None
  pub behind : (key : List ℕ) → IsPast last key → IsPast after key

-- the row is one of the table, past the key, and none stands between
pub record IsLeastPast (rows : List Row) (table : ℕ) (after : Option (List ℕ)) (row : Row) : Type 0 where
  pub its_table : row.table ≡ table
  pub here : row_at (table, row.key) rows ≡ Some row
  pub past : IsPast after row.key
  pub least : (key : List ℕ) → IsPast after key → IsBefore key row.key → row_at (table, key) rows ≡ None

-- it is the first row of the table past the key; None where there is none
abbrev pub IsFirstIn : List Row → (table : ℕ) → (after : Option (List ℕ)) → Option Row → Type 0
IsFirstIn rows table after None = (key : List ℕ) → IsPast after key → row_at (table, key) rows ≡ None
IsFirstIn rows table after (Some row) = IsLeastPast rows table after row
