-- A log whose changes are what a machine did.
use Rattle.std.specs.Prelude.{◌≡◌, ℕ, ◌+◌, ◌-◌, ◌≤◌, List, Some}
use Rattle.px_model.specs.declared.machine.Open.{Open}
use Rattle.px_model.specs.declared.row.Row.{Row}
use Rattle.px_model.specs.Machine.{Machine, commits, published}
use Rattle.px_calls.specs.Steps.{open_of}
use Rattle.px_told.specs.declared.change.Change.{Change}
use Rattle.px_told.specs.Commits.{commits_in}
use Rattle.px_told.specs.Writes.{rows_in, writes_of}
use Rattle.px_told.specs.Changes.{greatest_stored}

-- the rows after all commits
abbrev pub rows_now : Machine → List Row
rows_now m = published m (commits m - m.before)

-- the log's changes are what the machine did
pub record Recounts (changes : List Change) (m : Machine) : Type 0 where
  pub commits_are : commits m ≡ commits_in changes
  pub rows_are : rows_now m ≡ rows_in changes
  -- an open transaction's writes are those of its number, which no other one has
  pub writes_are : (session : ℕ) (xact : Open) → open_of m session ≡ Some xact → writes_of (m.base + xact.number) changes ≡ xact.writes
  pub one_each : (s t : ℕ) (x y : Open) → open_of m s ≡ Some x → open_of m t ≡ Some y → x.number ≡ y.number → s ≡ t
  -- the numbers that stand in the log were given out
  pub begun : (session : ℕ) (xact : Open) → open_of m session ≡ Some xact → xact.number ≤ m.begun
  pub below : greatest_stored 0 changes ≤ m.base + m.begun
