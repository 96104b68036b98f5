-- How far a survey came.
use Rattle.std.specs.Prelude.{◌≡◌, ◌⊎◌, ℕ, ◌<◌, Bool, List, [], All, Contains}
use Rattle.std.specs.BTreeSet.{BTreeSet, contains_by}
use Rattle.std.specs.Cmp.Lexicographic.{slice_cmp}
use Rattle.std.specs.Ordering.{nat_cmp}
use Rattle.std.proofs.Common.{Bor, true}
use Rattle.px_free.specs.Places.{rows_of}
use Rattle.px_chain.specs.Table.{Table}
use Rattle.px_chain.specs.Sound.{Walks, IsPlace, IsSlot, IsFreeRow, IsUsedRow, IsChain, Layout, head_of, key_of, next_slot}
use Rattle.px_survey.specs.Walked.{IsMarked}
use Rattle.px_survey.specs.Flaws.{IsOnFreeSlots, IsOnFreeRows}

-- The free lists, and the chains of the row pointers below one, are as sound cells have them.
pub record IsSurveyed (table : Table) (row : ℕ) (layout : Layout) : Type 0 where
  pub free_slots_walk : Walks (next_slot table) table.header.free_slot layout.free_slots 0
  pub free_slots : All (IsOnFreeSlots table) layout.free_slots
  pub free_rows_walk : Walks (head_of table) table.header.free_row layout.free_rows 0
  pub free_rows : All (IsOnFreeRows table) layout.free_rows
  pub free : (r : ℕ) → IsPlace (rows_of table.header) r → r < row → IsFreeRow table r → Contains layout.free_rows r
  pub chains : (r : ℕ) → IsUsedRow table r → r < row → IsChain table r (layout.chain r)
  pub no_chain : (r : ℕ) → ¬ IsUsedRow table r → layout.chain r ≡ []
  pub keys : (r other : ℕ) → IsUsedRow table r → IsUsedRow table other → r < row → other < row → key_of table r ≡ key_of table other → r ≡ other

-- the slot stands on the free list, or in a chain of the row pointers below one
abbrev pub IsListed : Table → (row : ℕ) → Layout → (slot : ℕ) → Type 0
IsListed table row layout slot =
    Contains layout.free_slots slot ⊎ ((r : ℕ) × IsUsedRow table r × (r < row) × Contains (layout.chain r) slot)

-- The row pointers below one are surveyed, and just the places that were met are marked.
pub record Reaches (table : Table) (row : ℕ) (slots rows : List Bool) : Type 0 where
  pub layout : Layout
  pub surveyed : IsSurveyed table row layout
  pub listed : (slot : ℕ) → IsSlot table slot → IsMarked slots slot → IsListed table row layout slot
  pub marked : (slot : ℕ) → IsListed table row layout slot → IsMarked slots slot
  pub listed_row : (r : ℕ) → IsPlace (rows_of table.header) r → IsMarked rows r → Contains layout.free_rows r
  pub marked_row : (r : ℕ) → Contains layout.free_rows r → IsMarked rows r

-- the keys are those of the row pointers below one
pub record AreKeys (table : Table) (row : ℕ) (has : List ℕ → Type 0) : Type 0 where
  pub some : (r : ℕ) → IsUsedRow table r → r < row → has (key_of table r)
  pub all : (key : List ℕ) → has key → (r : ℕ) × IsUsedRow table r × (r < row) × (key_of table r ≡ key)

-- the set has the key
abbrev pub HasKey : BTreeSet (Bor (List ℕ)) → List ℕ → Type 0
HasKey keys key = contains_by (λ k. slice_cmp nat_cmp key k.now) keys ≡ true

-- a key more
pub record Adds (key : List ℕ) (old new : List ℕ → Type 0) : Type 0 where
  pub here : new key
  pub kept : (other : List ℕ) → old other → new other
  pub others : (other : List ℕ) → new other → old other ⊎ (other ≡ key)
