-- How many slots and row pointers of a table are in use.
use Rattle.std.specs.Prelude.{ℕ, List, filter, length, sum_by}
use Rattle.std.specs.List.{range_with_len}
use Rattle.px_chain.specs.Sound.{Layout}
use Rattle.px_chain.specs.Table.{Table}
use Rattle.px_history.specs.Store.{Store}

-- the row pointers that are used, by their numbers, which rise
abbrev pub used_rows : Table → List ℕ
used_rows table = filter (λ row. (table.pointer row).used) (range_with_len 1 table.header.rows)

-- how many slots stand in the chains of the used rows
abbrev pub slots_in_chains : Table → Layout → ℕ
slots_in_chains table layout = sum_by (λ row. length (layout.chain row)) (used_rows table)

-- how many stand in those of all tables, whose numbers are 1 to that count
abbrev pub slots_in_all_chains : (tables : ℕ) → Store → ℕ
slots_in_all_chains tables store = sum_by (λ t. slots_in_chains (store.tables t) (store.layouts t)) (range_with_len 1 tables)
