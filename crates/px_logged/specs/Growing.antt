-- What calls leave as it was.
use Rattle.std.specs.Prelude.{◌≡◌}
use Rattle.px_model.specs.Machine.{Machine, commits}
use Rattle.px_logged.specs.Recounting.{rows_now}

-- a later machine has the store's shape and what stood at the opening
pub record KeepsOpening (m later : Machine) : Type 0 where
  pub tables : later.tables ≡ m.tables
  pub short : later.short ≡ m.short
  pub opening : later.opening ≡ m.opening
  pub before : later.before ≡ m.before
  pub base : later.base ≡ m.base

-- a later machine has committed just what this one has
pub record KeepsCommitted (m later : Machine) : Type 0 where
  pub commits : commits later ≡ commits m
  pub rows : rows_now later ≡ rows_now m
