-- What one transaction wrote, as the chains have it.
use Rattle.std.specs.Prelude.{◌≡◌, ℕ, ◌==◌, ◌++◌, false, List, All, Option, find, option_map}
use Rattle.px_cells.specs.declared.slot.Slot.{Slot}
use Rattle.px_chain.specs.Sound.{IsUsedRow}
use Rattle.px_model.specs.declared.write.Write.{Write}
use Rattle.px_machine_laws.specs.Seen.{last_of_key}
use Rattle.px_shown.specs.Parts.{Parts}
use Rattle.px_shown.specs.Tables.{Tables, Layouts, slots_of_row}
use Rattle.px_shown.specs.Shown.{Done, AreToldByChains, write_of}

-- the first slot that this transaction wrote
abbrev pub first_of : (xn : ℕ) → List Slot → Option Slot
first_of xn slots = find (λ slot. slot.xn == xn) slots

-- none of the slots is of this transaction
abbrev pub HasNoneOf : (xn : ℕ) → List Slot → Type 0
HasNoneOf xn slots = All (λ slot. (slot.xn == xn) ≡ false) slots

-- none of the slots is of a transaction that is done
abbrev pub HasNoneDone : Done → List Slot → Type 0
HasNoneDone done slots = All (λ slot. done slot.xn ≡ false) slots

-- what the transaction wrote in this chain stands in front of all that is done
pub record IsInFront (done : Done) (xn : ℕ) (slots : List Slot) : Type 0 where
  pub before : List Slot
  pub behind : List Slot
  pub split : slots ≡ before ++ behind
  pub not_done : HasNoneDone done before
  pub others : HasNoneOf xn behind

-- and so in each chain
abbrev pub AreInFront : Done → (xn : ℕ) → Tables → Layouts → Type 0
AreInFront done xn tables layouts = (t row : ℕ) → IsUsedRow (tables t) row → IsInFront done xn (slots_of_row (tables t) (layouts t) row)

-- of each key the last of these writes is what the transaction wrote last in its chain
abbrev pub AreWritesOf : Parts → (xn : ℕ) → Tables → Layouts → List Write → Type 0
AreWritesOf parts xn tables layouts writes =
    AreToldByChains tables layouts (λ t slots. option_map (write_of parts t) (first_of xn slots)) (λ key. last_of_key key writes)
