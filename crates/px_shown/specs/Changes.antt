-- The tables and their layouts after a link or an unlink.
use Rattle.std.specs.Prelude.{◌≡◌, ◌⊎◌, ℕ, List, ◌++◌, take, drop}
use Rattle.px_cells.specs.declared.header.Header.{Header}
use Rattle.px_cells.specs.declared.slot.Slot.{Slot}
use Rattle.px_free.specs.Places.{next_place, slots_of}
use Rattle.px_chain.specs.Table.{Table, laid}
use Rattle.px_chain.specs.Links.{BeginsRow, VariesRow, chain_of, link_cells, linked, parts_of, row_taken, slot_taken, unlink_cells, unlinked}
use Rattle.px_chain.specs.Sound.{Layout}
use Rattle.px_shown.specs.Tables.{Tables, Layouts, with_table, with_layout}

-- the slot that a link takes
abbrev pub taken_slot : Table → ℕ
taken_slot table = next_place (slots_of table.header)

-- the cells of a link over their table
abbrev pub with_link : Tables → (t : ℕ) → Header → Slot → Tables
with_link tables t header slot = with_table tables t (laid (tables t) (link_cells header (taken_slot (tables t)) slot))

-- The slot begins a row or is a new version of one, and this is the layout after its link.
abbrev pub IsLink : Table → Layout → Header → Slot → (after : Layout) → Type 0
IsLink table layout header slot after =
    (BeginsRow table header slot × (after ≡ linked (row_taken (slot_taken layout)) (taken_slot table) slot.row))
    ⊎ (VariesRow table header slot × (after ≡ linked (slot_taken layout) (taken_slot table) slot.row))

-- the cells of an unlink over their table: of a row's chain so many slots go, from a place on
abbrev pub with_unlink : Tables → Layouts → (t row from count : ℕ) → Tables
with_unlink tables layouts t row from count =
    with_table tables t (laid (tables t) (unlink_cells (tables t).header (parts_of (chain_of (tables t) ((layouts t).chain row)) from count)))

abbrev pub layouts_unlinked : Layouts → (t row from count : ℕ) → Layouts
layouts_unlinked layouts t row from count = with_layout layouts t (unlinked (layouts t) row from count)

-- what is left where so many go, from a place on
abbrev pub left_of : {X : Type 0} → List X → (from count : ℕ) → List X
left_of list from count = take from list ++ drop count (drop from list)
