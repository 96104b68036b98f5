-- What walks meet.
use Rattle.std.specs.Prelude.{◌≡◌, ◌≢◌, ◌⊎◌, ℕ, ◌-◌, ◌≤◌, Bool, true, false, List, All, Contains, slice_index_or}
use Rattle.px_chain.specs.Sound.{Walks}

-- The walk along `next` from a place, over places of a list, comes to this one before it comes to 0.
pub record Meets (IsOn : ℕ → Type 0) (next : ℕ → ℕ) (from place : ℕ) : Type 0 where
  pub before : List ℕ
  pub on : All IsOn before
  pub walk : Walks next from before place
  pub some : place ≢ 0

-- The walk meets a number that is none of the list's places, or a place for the second time.
pub record Strays (IsOn : ℕ → Type 0) (next : ℕ → ℕ) (from : ℕ) : Type 0 where
  pub place : ℕ
  pub met : Meets IsOn next from place
  pub wrong : (¬ IsOn place) ⊎ Contains met.before place

-- ---- marks

-- the place is marked as one that a walk met
abbrev pub IsMarked : List Bool → (place : ℕ) → Type 0
IsMarked marks place = slice_index_or marks (place - 1) false ≡ true

-- the marks are those from before and those of these places
pub record Marks (places : List ℕ) (old new : List Bool) : Type 0 where
  pub here : (place : ℕ) → Contains places place → IsMarked new place
  pub kept : (place : ℕ) → IsMarked old place → IsMarked new place
  pub others : (place : ℕ) → 1 ≤ place → IsMarked new place → IsMarked old place ⊎ Contains places place

-- The walk comes to a place, over places of the list, and they are marked now.
pub record Comes (IsOn : ℕ → Type 0) (next : ℕ → ℕ) (from at : ℕ) (old new : List Bool) : Type 0 where
  pub list : List ℕ
  pub walk : Walks next from list at
  pub on : All IsOn list
  pub marks : Marks list old new

-- The walk comes to a number that is none of the list's places, or that it met before, or that was marked.
pub record Fails (IsOn : ℕ → Type 0) (next : ℕ → ℕ) (from : ℕ) (old : List Bool) : Type 0 where
  pub place : ℕ
  pub met : Meets IsOn next from place
  pub wrong : (¬ IsOn place) ⊎ (Contains met.before place ⊎ IsMarked old place)
