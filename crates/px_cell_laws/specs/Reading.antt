-- What a reader sees of the cells of a row.
use Rattle.std.specs.Prelude.{ℕ, Option, find, map, option_map}
use Rattle.px_chain.specs.declared.views.SlotView.{SlotView}
use Rattle.px_chain.specs.Table.{Table}
use Rattle.px_chain.specs.Visible.{is_visible}
use Rattle.px_history.specs.Store.{Store}
use Rattle.px_xacts.specs.Transactions.{Transactions, standing}

-- a slot by its number, with what became of its transaction
abbrev pub view_of : Transactions → Table → (slot : ℕ) → SlotView
view_of all table slot = record { slot = slot; xn = (table.slot slot).xn; standing = standing all (table.slot slot).xn }

-- the slot of a row that a reader with this stored number and this snapshot sees
abbrev pub slot_seen : Transactions → Store → (own snapshot t row : ℕ) → Option ℕ
slot_seen all store own snapshot t row =
    option_map (λ view. view.slot)
    (find (is_visible own snapshot) (map (view_of all (store.tables t)) ((store.layouts t).chain row)))
