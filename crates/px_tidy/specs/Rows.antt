-- The used rows of a table in their order.
use Rattle.std.specs.Prelude.{ℕ, ◌<◌}
use Rattle.px_chain.specs.Sound.{IsUsedRow}
use Rattle.px_chain.specs.Table.{Table}

-- no row past this one is used
abbrev pub HasNoRowPast : Table → (row : ℕ) → Type 0
HasNoRowPast table row = (other : ℕ) → row < other → ¬ IsUsedRow table other

-- the least used row past another one
pub record IsNextRow (table : Table) (after row : ℕ) : Type 0 where
  pub past : after < row
  pub used : IsUsedRow table row
  pub least : (other : ℕ) → after < other → other < row → ¬ IsUsedRow table other
