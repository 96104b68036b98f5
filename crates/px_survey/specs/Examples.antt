-- Cells with one flaw each.
use Rattle.std.specs.Prelude.{ℕ, [], ◌∷◌, true}
use Rattle.px_cells.specs.declared.pointer.Pointer.{Pointer}
use Rattle.px_cells.specs.declared.slot.Slot.{Slot}
use Rattle.px_cells.specs.declared.slot.SlotState.TheVariants.{Row}
use Rattle.px_chain.specs.Table.{Table}
use Rattle.px_cells.specs.Unused.{unused_slot}
use Rattle.px_survey.specs.Cells.{table_of}

-- a row with the key 6b, an empty body and no older version
abbrev pub row_slot : (row : ℕ) → Slot
row_slot row = record unused_slot { state = Row; xn = 1; row = row; key = 107 ∷ [] }

abbrev pub heads : (slot : ℕ) → Pointer
heads slot = record { used = true; head = slot }

-- the free list's one slot leads to itself
abbrev pub circle : Table
circle = table_of (record { slots = 1; free_slot = 1; rows = 0; free_row = 0 }) [] (record unused_slot { next = 1 } ∷ [])

-- a free slot, and an empty free list
abbrev pub lost_slot : Table
lost_slot = table_of (record { slots = 1; free_slot = 0; rows = 0; free_row = 0 }) [] (unused_slot ∷ [])

-- a slot that says that it is of row 2, in the chain of row 1
abbrev pub stray_slot : Table
stray_slot = table_of (record { slots = 1; free_slot = 0; rows = 1; free_row = 0 }) (heads 1 ∷ []) (row_slot 2 ∷ [])

-- two rows with one key
abbrev pub twins : Table
twins = table_of (record { slots = 2; free_slot = 0; rows = 2; free_row = 0 }) (heads 1 ∷ heads 2 ∷ []) (row_slot 1 ∷ row_slot 2 ∷ [])
