-- A store's tables as a front of its log has them, and what became of its transactions.
use Rattle.std.specs.Prelude.{◌≡◌, ℕ, Bool, true, false, List, [], ◌∷◌, take, drop}
use Rattle.px_cells.specs.declared.slot.Slot.{Slot}
use Rattle.px_cells.specs.declared.slot.SlotState.TheVariants.{Row}
use Rattle.px_chain.specs.Sound.{IsUsedRow, no_layout}
use Rattle.px_chain.specs.Unused.{unused_table}
use Rattle.px_shown.specs.Shown.{Done}
use Rattle.px_shown.specs.Tables.{Tables, Layouts, slots_of_row}

-- Its tables and which places stand in their chains; which transactions are done; and which are over, and never will be done.
pub record Store : Type 0 where
  pub tables : Tables
  pub layouts : Layouts
  pub done : Done
  pub over : ℕ → Bool

-- it may still commit
pub record IsOpen (store : Store) (xn : ℕ) : Type 0 where
  pub undone : store.done xn ≡ false
  pub not_over : store.over xn ≡ false

-- the store of a log without changes
abbrev pub nothing : Store
nothing = record { tables = λ t. unused_table; layouts = λ t. no_layout; done = λ xn. false; over = λ xn. false }

-- the versions of a row, the newest first
abbrev pub versions_of : Store → (t row : ℕ) → List Slot
versions_of store t row = slots_of_row (store.tables t) (store.layouts t) row

-- so many of them, from a place on
abbrev pub versions_from : Store → (t row from count : ℕ) → List Slot
versions_from store t row from count = take count (drop from (versions_of store t row))

-- one version, which is done and a row
pub record IsOneRow (done : Done) (slots : List Slot) : Type 0 where
  pub slot : Slot
  pub alone : slots ≡ slot ∷ []
  pub its_done : done slot.xn ≡ true
  pub here : slot.state ≡ Row

-- and so in each chain: nothing is left to tidy
pub record IsTidied (store : Store) : Type 0 where
  pub each : (t row : ℕ) → IsUsedRow (store.tables t) row → IsOneRow store.done (versions_of store t row)
