-- That tables, transactions and held keys are those of a machine.
use Rattle.std.specs.Prelude.{◌≡◌, true, length}
use Rattle.px_calls.specs.Steps.{open_writer}
use Rattle.px_cell_laws.specs.Holding.{HoldsChains}
use Rattle.px_chain_laws.specs.Kept.{IsKept}
use Rattle.px_held.specs.Serving.{HeldTables, Serves}
use Rattle.px_history.specs.Store.{Store}
use Rattle.px_locks.specs.Holders.{Holders, holder_of}
use Rattle.px_model.specs.Machine.{Machine}
use Rattle.px_model.specs.Rows.{Key, in_order}
use Rattle.px_shown.specs.Parts.{no_parts}
use Rattle.px_site.specs.State.{State}
use Rattle.px_xacts.specs.Transactions.{Transactions}
use Rattle.px_xacts_laws.specs.Mirrors.{Mirrors}

-- Tables, transactions and held keys are those of the machine, whose chains the store's cells hold. No body goes on in a data log.
pub record Sees (site : State) (held : HeldTables) (all : Transactions) (locks : Holders) (m : Machine) (store : Store) : Type 0 where
  pub serves : Serves site held store
  pub holds : HoldsChains no_parts m store
  pub kept : IsKept m
  pub order : in_order m.opening ≡ true
  pub mirrors : Mirrors m all
  pub holders : (key : Key) → holder_of key locks ≡ open_writer key m.active
  pub short : held.short ≡ m.short
  pub tables : length held.tables ≡ m.tables
