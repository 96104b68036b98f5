-- The tables after a slot's part was moved to another place in the data logs.
use Rattle.std.specs.Prelude.{◌≡◌, ◌≢◌, ℕ, List, [], ◌∷◌, Contains}
use Rattle.px_cells.specs.declared.slot.Slot.{Slot}
use Rattle.px_chain.specs.Links.{IsStored}
use Rattle.px_chain.specs.Sound.{IsUsedRow}
use Rattle.px_chain.specs.Table.{Content, Table, laid}
use Rattle.px_shown.specs.Parts.{Parts}
use Rattle.px_shown.specs.Tables.{Tables, Layouts, with_table}

-- the slot with another reference
abbrev pub moved_slot : Slot → (log place : ℕ) → Slot
moved_slot slot log place = record slot { log = log; place = place }

-- the one cell of a move
abbrev pub move_cells : Table → (number log place : ℕ) → List Content
move_cells table number log place = Content.slot_is number (moved_slot (table.slot number) log place) ∷ []

-- and over its table; the layouts stay
abbrev pub with_move : Tables → (t number log place : ℕ) → Tables
with_move tables t number log place = with_table tables t (laid (tables t) (move_cells (tables t) number log place))

-- The slot stands in a chain and has a part, and the same bytes lie at the new reference, with which it is in the form.
pub record MayMove (parts : Parts) (short : ℕ) (tables : Tables) (layouts : Layouts) (t number log place : ℕ) : Type 0 where
  pub row : ℕ
  pub used : IsUsedRow (tables t) row
  pub linked : Contains ((layouts t).chain row) number
  pub long : ((tables t).slot number).log ≢ 0
  pub some : log ≢ 0
  pub stored : IsStored short (moved_slot ((tables t).slot number) log place)
  pub same : parts ((tables t).slot number).log ((tables t).slot number).place ≡ parts log place
