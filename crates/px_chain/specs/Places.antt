-- Places in the chain of a row, where 0 is that of the newest slot.
use Rattle.std.specs.Prelude.{◌≡◌, ℕ, zero, suc, ◌+◌, ◌<◌, ◌≤◌, List, length, slice_index_or}

-- the slot at a place, 0 behind the last
abbrev pub slot_in : List ℕ → (place : ℕ) → ℕ
slot_in chain place = slice_index_or chain place 0

-- the slot in front of a place, 0 where none is
abbrev pub slot_before : List ℕ → (place : ℕ) → ℕ
slot_before chain zero = 0
slot_before chain (suc place) = slot_in chain place

abbrev pub StandsAt : List ℕ → (place slot : ℕ) → Type 0
StandsAt chain place slot = (place < length chain) × (slot_in chain place ≡ slot)

-- So many slots of the chain from a place on: the first of them, and the slot in front of that one, 0 where none is.
pub record IsRun (chain : List ℕ) (from newer first count : ℕ) : Type 0 where
  pub some : 1 ≤ count
  pub within : from + count ≤ length chain
  pub front : slot_before chain from ≡ newer
  pub start : slot_in chain from ≡ first
