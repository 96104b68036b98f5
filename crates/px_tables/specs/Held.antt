-- What a table in memory holds: its cells, and room for one more version.
use Rattle.std.specs.Prelude.{◌≡◌, ℕ, ◌+◌, ◌-◌, IsTrue, nat_lt, List, [], ◌∷◌, ◌++◌, length, slice_index_or, slice_set, if◌then◌else◌}
use Rattle.px_cells.specs.declared.header.Header.{Header}
use Rattle.px_cells.specs.declared.pointer.Pointer.{Pointer}
use Rattle.px_cells.specs.declared.slot.Slot.{Slot}
use Rattle.px_cells.specs.Form.{is_short}
use Rattle.px_chain.specs.Sound.{IsSound, Layout, no_places}
use Rattle.px_chain.specs.Table.{Table}
use Rattle.px_cells.specs.Unused.{unused_slot, free_pointer}
use Rattle.px_tables.specs.Keys.{AreKeys}

-- The cells of a table, its number and the store's short length. Slots and row pointers stand at their numbers; at place 0
-- stands one that was never used.
pub record Cells : Type 0 where
  pub number : ℕ
  pub short : ℕ
  pub header : Header
  pub slots : List Slot
  pub pointers : List Pointer

-- For how many slots and row pointers, that of place 0 among them, there is memory; and the keys that are entered.
pub record Room : Type 0 where
  pub slots : ℕ
  pub rows : ℕ
  pub keys : List (List ℕ × ℕ)

pub record Held : Type 0 where
  pub cells : Cells
  pub room : Room

abbrev pub slot_at : List Slot → ℕ → Slot
slot_at slots number = slice_index_or slots number unused_slot

abbrev pub pointer_at : List Pointer → ℕ → Pointer
pointer_at pointers number = slice_index_or pointers number free_pointer

-- an item in the place of the one at a number, or behind the last
abbrev pub placed : {X : Type 0} → List X → (number : ℕ) → X → List X
placed items number item = if nat_lt number (length items) then slice_set items number item else items ++ item ∷ []

-- the table that cells make which stand at their numbers
abbrev pub table_at : Header → List Pointer → List Slot → Table
table_at header pointers slots = record { header = header; slot = slot_at slots; pointer = pointer_at pointers }

abbrev pub table_of : Cells → Table
table_of cells = table_at cells.header cells.pointers cells.slots

-- the table that cells make which stand in order of their numbers, and the first of them is 1
abbrev pub table_from : Header → List Pointer → List Slot → Table
table_from header pointers slots = record { header = header; slot = λ number. slot_at slots (number - 1); pointer = λ number. pointer_at pointers (number - 1) }

-- those cells, each at its number
abbrev pub cells_from : (number short : ℕ) → Header → List Pointer → List Slot → Cells
cells_from number short header pointers slots =
    record { number = number; short = short; header = header; slots = unused_slot ∷ slots; pointers = free_pointer ∷ pointers }

abbrev pub no_cells : (number short : ℕ) → Cells
no_cells number short = record { number = number; short = short; header = no_places; slots = unused_slot ∷ []; pointers = free_pointer ∷ [] }

-- the cells are sound, with these places in chains and on free lists
abbrev pub HasLayout : Cells → Layout → Type 0
HasLayout cells layout = IsSound cells.short (table_of cells) layout

-- the cells are sound and each stands at its number; the keys are those of the rows
pub record IsKept (cells : Cells) (keys : List (List ℕ × ℕ)) : Type 0 where
  pub short : IsTrue (is_short cells.short)
  pub no_slot : slot_at cells.slots 0 ≡ unused_slot
  pub no_pointer : pointer_at cells.pointers 0 ≡ free_pointer
  pub slots : length cells.slots ≡ cells.header.slots + 1
  pub pointers : length cells.pointers ≡ cells.header.rows + 1
  pub layout : Layout
  pub sound : HasLayout cells layout
  pub are_keys : AreKeys (table_of cells) keys
