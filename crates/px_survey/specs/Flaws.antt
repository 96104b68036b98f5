-- What a flaw of cells is, and which flaw is the first.
use Rattle.std.specs.Prelude.{◌≡◌, ◌⊎◌, ℕ, ◌<◌}
use Rattle.px_free.specs.Places.{rows_of}
use Rattle.px_chain.specs.Table.{Table}
use Rattle.px_chain.specs.Sound.{IsPlace, IsSlot, IsFreeSlot, IsFreeRow, IsUsedRow, IsVariation, head_of, key_of, next_slot}
use Rattle.px_survey.specs.Walked.{Meets, Strays}
use Rattle.px_survey.specs.declared.flaw.Flaw.{Flaw}
use Rattle.px_survey.specs.declared.flaw.Flaw.TheVariants.{Header, Pointer, Slot}

-- ---- the walks

abbrev pub IsOnFreeSlots : Table → ℕ → Type 0
IsOnFreeSlots table slot = IsSlot table slot × IsFreeSlot table slot

abbrev pub IsOnFreeRows : Table → ℕ → Type 0
IsOnFreeRows table row = IsPlace (rows_of table.header) row × IsFreeRow table row

abbrev pub MeetsFreeSlot : Table → (slot : ℕ) → Type 0
MeetsFreeSlot table slot = Meets (IsOnFreeSlots table) (next_slot table) table.header.free_slot slot

abbrev pub MeetsFreeRow : Table → (row : ℕ) → Type 0
MeetsFreeRow table row = Meets (IsOnFreeRows table) (head_of table) table.header.free_row row

-- the walk along the chain of a row meets the slot
abbrev pub MeetsInChain : Table → (row slot : ℕ) → Type 0
MeetsInChain table row slot = Meets (IsVariation table row) (next_slot table) (head_of table row) slot

-- ---- the flaws

abbrev pub IsFlawedHeader : Table → Type 0
IsFlawedHeader table =
    Strays (IsOnFreeSlots table) (next_slot table) table.header.free_slot ⊎ Strays (IsOnFreeRows table) (head_of table) table.header.free_row

-- the walk along its chain meets a slot that the walk of an earlier row pointer has met
pub record SharesSlot (table : Table) (row : ℕ) : Type 0 where
  pub slot : ℕ
  pub other : ℕ
  pub earlier : other < row
  pub used : IsUsedRow table other
  pub here : MeetsInChain table row slot
  pub there : MeetsInChain table other slot

-- its chain has the key of an earlier row pointer's chain
pub record SharesKey (table : Table) (row : ℕ) : Type 0 where
  pub other : ℕ
  pub earlier : other < row
  pub used : IsUsedRow table other
  pub same : key_of table other ≡ key_of table row

-- The chain of a used row pointer has no slot, or a wrong one, or one of another chain, or another chain's key.
abbrev pub IsFlawedChain : Table → (row : ℕ) → Type 0
IsFlawedChain table row =
    (head_of table row ≡ 0) ⊎ (Strays (IsVariation table row) (next_slot table) (head_of table row) ⊎ (SharesSlot table row ⊎ SharesKey table row))

abbrev pub IsFlawedPointer : Table → (row : ℕ) → Type 0
IsFlawedPointer table row =
    (IsPlace (rows_of table.header) row × IsFreeRow table row × ¬ MeetsFreeRow table row) ⊎ (IsUsedRow table row × IsFlawedChain table row)

-- no walk meets it
pub record IsUnmet (table : Table) (slot : ℕ) : Type 0 where
  pub place : IsSlot table slot
  pub free : ¬ MeetsFreeSlot table slot
  pub chains : (row : ℕ) → IsUsedRow table row → ¬ MeetsInChain table row slot

abbrev pub IsFlaw : Table → Flaw → Type 0
IsFlaw table Header = IsFlawedHeader table
IsFlaw table (Pointer row) = IsFlawedPointer table row
IsFlaw table (Slot slot) = IsUnmet table slot

-- ---- their order: the header, row pointers in order of number, slots in order of number

abbrev pub IsBefore : (flaw other : Flaw) → Type 0
IsBefore Header Header = ⊥
IsBefore Header (Pointer row) = Unit {0}
IsBefore Header (Slot slot) = Unit {0}
IsBefore (Pointer row) Header = ⊥
IsBefore (Pointer row) (Pointer other) = row < other
IsBefore (Pointer row) (Slot slot) = Unit {0}
IsBefore (Slot slot) Header = ⊥
IsBefore (Slot slot) (Pointer row) = ⊥
IsBefore (Slot slot) (Slot other) = slot < other

pub record IsFirstFlaw (table : Table) (flaw : Flaw) : Type 0 where
  pub is : IsFlaw table flaw
  pub first : (other : Flaw) → IsBefore other flaw → ¬ IsFlaw table other
