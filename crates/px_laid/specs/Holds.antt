-- Which sound table places hold.
use Rattle.std.specs.Prelude.{ℕ}
use Rattle.px_chain.specs.Sound.{IsSound, Layout}
use Rattle.px_chain.specs.Table.{Table}
use Rattle.px_laid.specs.Places.{Places}
use Rattle.px_laid.specs.Says.{CountsLaid, Says}

-- The places say this table, its cells are sound, and one lies at each place that its header counts.
pub record Holds (short number : ℕ) (table : Table) (layout : Layout) (places : Places) : Type 0 where
  pub sound : IsSound short table layout
  pub says : Says short number table places
  pub counts : CountsLaid places number table.header
