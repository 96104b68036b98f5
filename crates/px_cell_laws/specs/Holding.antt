-- That the cells of a store hold the chains of a machine.
use Rattle.std.specs.Prelude.{◌≡◌, ℕ, ◌<◌, ◌≤◌, nat_le, Bool, true, false, List, [], ◌∷◌, All, map, reverse, Option, Some, None, if◌then◌else◌}
use Rattle.px_cells.specs.declared.slot.Slot.{Slot}
use Rattle.px_model.specs.declared.standing.Standing.{Standing}
use Rattle.px_model.specs.declared.standing.Standing.TheVariants.{Before, Open, RolledBack, Committed}
use Rattle.px_model.specs.declared.machine.Variation.{Variation}
use Rattle.px_model.specs.Rows.{Key}
use Rattle.px_model.specs.Machine.{Machine}
use Rattle.px_model.specs.Chains.{chain}
use Rattle.px_shown.specs.Shown.{AreToldByChains, write_of}
use Rattle.px_shown.specs.Tables.{AreSound}
use Rattle.px_history.specs.Store.{Store, versions_of}
use Rattle.px_chain_laws.specs.Reading.{is_committed, standing_in}
use Rattle.px_shown.specs.Parts.{Parts}

-- of a number up to the base no transaction is known
abbrev pub number_past : (base xn : ℕ) → Option ℕ
number_past base xn = if nat_le xn base then None else Some xn

-- what a slot of a table holds, as the machine has it
abbrev pub variation_in : Parts → (base t : ℕ) → Slot → Variation
variation_in parts base t slot = record { xn = number_past base slot.xn; write = write_of parts t slot }

-- the list, unless it is empty
abbrev pub if_any : {X : Type 0} → List X → Option (List X)
if_any [] = None
if_any (x ∷ xs) = Some (x ∷ xs)

-- what a chain of slots tells of its key
abbrev pub variations_in : Parts → (base t : ℕ) → List Slot → Option (List Variation)
variations_in parts base t slots = if_any (map (variation_in parts base t) slots)

-- the machine's chain of a key, the newest first, if it has one
abbrev pub newest_first : Machine → Key → Option (List Variation)
newest_first m key = if_any (reverse (chain m key))

abbrev pub is_rolled_back : Standing → Bool
is_rolled_back Before = false
is_rolled_back Open = false
is_rolled_back RolledBack = true
is_rolled_back (Committed place) = false

-- The store's cells are sound, and the versions of each row are the machine's chain of its key; a key without a row has no
-- chain. What the opening found is done, of the transactions since then just those that committed; and just those that were
-- rolled back are over.
pub record HoldsChains (parts : Parts) (m : Machine) (store : Store) : Type 0 where
  pub sound : AreSound m.short store.tables store.layouts
  pub chains : AreToldByChains store.tables store.layouts (variations_in parts m.base) (newest_first m)
  pub found : (t row : ℕ) → All (λ slot. slot.xn ≤ m.base → store.done slot.xn ≡ true) (versions_of store t row)
  pub done : (xn : ℕ) → m.base < xn → store.done xn ≡ is_committed (standing_in m (Some xn))
  pub over : (xn : ℕ) → m.base < xn → store.over xn ≡ is_rolled_back (standing_in m (Some xn))
