-- How the places of a table hang together where its cells are sound.
use Rattle.std.specs.Prelude.{◌≡◌, ◌≢◌, ℕ, ◌≤◌, true, false, IsTrue, List, [], ◌∷◌, All, Contains}
use Rattle.px_cells.specs.declared.header.Header.{Header}
use Rattle.px_cells.specs.declared.slot.SlotState.TheVariants.{Free}
use Rattle.px_cells.specs.Form.{is_slot}
use Rattle.px_free.specs.Places.{Places, slots_of, rows_of}
use Rattle.px_chain.specs.Table.{Table}

-- The walk along `next` from a place meets just these places, in their order, and then comes to another one.
abbrev pub Walks : (next : ℕ → ℕ) → (from : ℕ) → List ℕ → (to : ℕ) → Type 0
Walks next from [] to = from ≡ to
Walks next from (met ∷ others) to = (from ≡ met) × Walks next (next met) others to

-- no place stands in the list twice
abbrev pub IsApart : List ℕ → Type 0
IsApart [] = Unit {0}
IsApart (place ∷ others) = ¬ Contains others place × IsApart others

-- the numbers of places are 1 to how many were ever used
abbrev pub IsPlace : Places → ℕ → Type 0
IsPlace places place = (1 ≤ place) × (place ≤ places.used)

-- The places on a free list are all those that are free. The walk that meets them ends, so it meets each once.
pub record IsFreeList (places : Places) (next : ℕ → ℕ) (IsFree : ℕ → Type 0) (list : List ℕ) : Type 0 where
  pub walk : Walks next places.front list 0
  pub free : All (λ place. IsPlace places place × IsFree place) list
  pub whole : (place : ℕ) → IsPlace places place → IsFree place → Contains list place

abbrev pub IsSlot : Table → ℕ → Type 0
IsSlot table slot = IsPlace (slots_of table.header) slot

abbrev pub IsFreeSlot : Table → ℕ → Type 0
IsFreeSlot table slot = (table.slot slot).state ≡ Free

abbrev pub next_slot : Table → ℕ → ℕ
next_slot table slot = (table.slot slot).next

abbrev pub IsFreeRow : Table → ℕ → Type 0
IsFreeRow table row = (table.pointer row).used ≡ false

abbrev pub IsUsedRow : Table → ℕ → Type 0
IsUsedRow table row = IsPlace (rows_of table.header) row × ((table.pointer row).used ≡ true)

abbrev pub head_of : Table → ℕ → ℕ
head_of table row = (table.pointer row).head

-- the key of a row: that of its newest version
abbrev pub key_of : Table → (row : ℕ) → List ℕ
key_of table row = (table.slot (head_of table row)).key

-- the slot holds a version of the row
pub record IsVariation (table : Table) (row slot : ℕ) : Type 0 where
  pub place : IsSlot table slot
  pub used : ¬ IsFreeSlot table slot
  pub its_row : (table.slot slot).row ≡ row
  pub its_key : (table.slot slot).key ≡ key_of table row

-- a used row pointer heads a chain of versions of its row, the newest first
pub record IsChain (table : Table) (row : ℕ) (chain : List ℕ) : Type 0 where
  pub walk : Walks (next_slot table) (head_of table row) chain 0
  pub some : chain ≢ []
  pub variations : All (IsVariation table row) chain

-- Which slots stand in the chain of each row pointer, none where that is free; and what stands on the free lists.
pub record Layout : Type 0 where
  pub chain : ℕ → List ℕ
  pub free_slots : List ℕ
  pub free_rows : List ℕ

-- The cells of a table are sound: each slot stands in the chain of its row or, where it is free, on the free list, and each
-- row pointer heads a chain or, where it is free, stands on the free list of those. No two chains have one key.
pub record IsSound (short : ℕ) (table : Table) (layout : Layout) : Type 0 where
  pub form : (slot : ℕ) → IsSlot table slot → IsTrue (is_slot short (table.slot slot))
  pub free_slots : IsFreeList (slots_of table.header) (next_slot table) (IsFreeSlot table) layout.free_slots
  pub free_rows : IsFreeList (rows_of table.header) (head_of table) (IsFreeRow table) layout.free_rows
  pub chains : (row : ℕ) → IsUsedRow table row → IsChain table row (layout.chain row)
  pub no_chain : (row : ℕ) → ¬ IsUsedRow table row → layout.chain row ≡ []
  pub linked : (slot : ℕ) → IsSlot table slot → ¬ IsFreeSlot table slot
      → IsUsedRow table (table.slot slot).row × Contains (layout.chain (table.slot slot).row) slot
  pub keys : (row other : ℕ) → IsUsedRow table row → IsUsedRow table other → key_of table row ≡ key_of table other → row ≡ other

-- a table of which no place was ever used
abbrev pub no_places : Header
no_places = record { slots = 0; free_slot = 0; rows = 0; free_row = 0 }

abbrev pub no_layout : Layout
no_layout = record { chain = λ row. []; free_slots = []; free_rows = [] }

-- Another table has the same places: only what a slot holds besides its links may differ.
pub record IsLinkedAlike (short : ℕ) (table other : Table) : Type 0 where
  pub header : other.header ≡ table.header
  pub states : (slot : ℕ) → IsSlot table slot → (other.slot slot).state ≡ (table.slot slot).state
  pub nexts : (slot : ℕ) → IsSlot table slot → next_slot other slot ≡ next_slot table slot
  pub its_rows : (slot : ℕ) → IsSlot table slot → (other.slot slot).row ≡ (table.slot slot).row
  pub its_keys : (slot : ℕ) → IsSlot table slot → (other.slot slot).key ≡ (table.slot slot).key
  pub form : (slot : ℕ) → IsSlot table slot → IsTrue (is_slot short (other.slot slot))
  pub pointers : (row : ℕ) → IsPlace (rows_of table.header) row → other.pointer row ≡ table.pointer row
