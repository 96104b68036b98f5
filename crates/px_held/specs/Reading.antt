-- Which version of a row was committed last.
use Rattle.std.specs.Prelude.{ℕ, Option, find, map}
use Rattle.px_cell_laws.specs.Reading.{view_of}
use Rattle.px_chain.specs.declared.views.SlotView.{SlotView}
use Rattle.px_chain_laws.specs.Reading.{is_committed}
use Rattle.px_history.specs.Store.{Store}
use Rattle.px_xacts.specs.Transactions.{Transactions}

-- the newest version of a row whose transaction committed since the opening
abbrev pub newest_committed : Transactions → Store → (t row : ℕ) → Option SlotView
newest_committed all store t row =
    find (λ view. is_committed view.standing) (map (view_of all (store.tables t)) ((store.layouts t).chain row))
