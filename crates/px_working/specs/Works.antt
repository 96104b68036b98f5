-- A machine whose chains lie in the last front of a life.
use Rattle.std.specs.Prelude.{◌≡◌, ℕ, ◌+◌, ◌<◌, ◌≤◌, Some}
use Rattle.px_calls.specs.Steps.{open_of}
use Rattle.px_cell_laws.specs.Holding.{HoldsChains}
use Rattle.px_chain_laws.specs.Kept.{IsKept}
use Rattle.px_life.specs.Life.{Life}
use Rattle.px_model.specs.Machine.{Machine}
use Rattle.px_model.specs.declared.limits.TheConstants.{STORED_NUMBERS_END}
use Rattle.px_model.specs.declared.machine.Open.{Open}
use Rattle.px_restart.specs.declared.restart.Restart.{Restart}
use Rattle.px_shown.specs.Parts.{Parts}
use Rattle.px_working.specs.Follows.{last_store}

-- No transaction that may still write or commit has a number below the restart's low mark: such a number counts as done.
pub record AllowsWriters (restart : Restart) (m : Machine) : Type 0 where
  pub next : restart.low ≤ m.base + m.begun + 1
  pub open_ones : (session : ℕ) (xact : Open) → open_of m session ≡ Some xact → restart.low ≤ m.base + xact.number

-- Between calls: the store has the machine's shape, and its last front the machine's chains.
pub record Works (parts : Parts) (m : Machine) (life : Life) (restart : Restart) : Type 0 where
  pub short : restart.short ≡ m.short
  pub tables : restart.tables ≡ m.tables
  pub holds : HoldsChains parts m (last_store life)
  pub kept : IsKept m
  pub allows : AllowsWriters restart m
  pub numbers : m.base + m.begun < STORED_NUMBERS_END
