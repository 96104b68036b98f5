-- The tables of a store by their numbers, and which places stand in their chains.
use Rattle.std.specs.Prelude.{ℕ, ◌==◌, List, map, if◌then◌else◌}
use Rattle.px_cells.specs.declared.slot.Slot.{Slot}
use Rattle.px_chain.specs.Table.{Table}
use Rattle.px_chain.specs.Sound.{Layout, IsSound}

abbrev pub Tables : Type 0
Tables = ℕ → Table

abbrev pub Layouts : Type 0
Layouts = ℕ → Layout

-- the cells of each table are sound
abbrev pub AreSound : (short : ℕ) → Tables → Layouts → Type 0
AreSound short tables layouts = (t : ℕ) → IsSound short (tables t) (layouts t)

-- another table in the place of one
abbrev pub with_table : Tables → ℕ → Table → Tables
with_table tables t table = λ n. if n == t then table else tables n

-- another layout in the place of one
abbrev pub with_layout : Layouts → ℕ → Layout → Layouts
with_layout layouts t layout = λ n. if n == t then layout else layouts n

-- the slots of a row's chain, the newest first
abbrev pub slots_of_row : Table → Layout → ℕ → List Slot
slots_of_row table layout row = map table.slot (layout.chain row)
