-- The walk along a chain.
use Rattle.std.specs.Prelude.{ℕ, zero, suc, ◌==◌, ◌<◌, ◌≤◌, All, List, [], ◌∷◌, length, if◌then◌else◌}
use Rattle.px_cells.specs.declared.slot.Slot.{Slot}
use Rattle.px_chain.specs.declared.chain.Linked.{Linked}
use Rattle.px_chain.specs.Sound.{Walks}
use Rattle.px_tables.specs.Held.{slot_at}

-- The slots along `next` from a number to 0, but no more than so many.
unfoldable pub walked : (most : ℕ) → List Slot → (number : ℕ) → List Linked
walked zero slots number = []
walked (suc most) slots number =
    if number == 0 then [] else record { number = number; slot = slot_at slots number } ∷ walked most slots (slot_at slots number).next

-- the walk from there meets these slots and ends
pub record Ends (slots : List Slot) (number : ℕ) : Type 0 where
  pub chain : List ℕ
  pub walk : Walks (λ n. (slot_at slots n).next) number chain 0
  pub places : All (λ place. (1 ≤ place × place < length slots)) chain
  pub short : length chain ≤ length slots
