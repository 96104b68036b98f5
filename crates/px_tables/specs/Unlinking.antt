-- What prepares that versions go, and what laying it needs.
use Rattle.std.specs.Prelude.{◌≡◌, ℕ, ◌+◌, ◌≤◌, Bool, false, not, List, Option, Some, None, drop, fold, length, slice_set, take}
use Rattle.px_cells.specs.declared.pointer.Pointer.{Pointer}
use Rattle.px_cells.specs.declared.slot.Slot.{Slot}
use Rattle.px_chain.specs.declared.chain.Linked.{Linked}
use Rattle.px_chain.specs.declared.unlinking.Unlinked.{Unlinked}
use Rattle.px_chain.specs.Links.{Parts, chain_of, parts_of, pointer_content, unlinked_header, unlinked_pointer, unlinked_slots}
use Rattle.px_chain.specs.Places.{StandsAt, slot_in}
use Rattle.px_chain.specs.Sound.{IsUsedRow, Layout}
use Rattle.px_tables.specs.declared.unlinking.Unlinking.{Unlinking}
use Rattle.px_tables.specs.Held.{Cells, HasLayout, table_of}

-- a row's chain with so many versions gone, from a place on
abbrev pub parts_in : Cells → Layout → (row from count : ℕ) → Parts
parts_in cells layout row from count = parts_of (chain_of (table_of cells) (layout.chain row)) from count

-- what the unlink of these parts changes
pub record IsUnlinkOf (cells : Cells) (unlinked : Unlinked) (parts : Parts) : Type 0 where
  pub header : unlinked.header ≡ unlinked_header cells.header parts
  pub slots : unlinked.slots.items ≡ unlinked_slots cells.header parts
  pub pointer : pointer_content unlinked.pointer ≡ unlinked_pointer cells.header parts

-- The unlinking is one of versions of these cells: from a place of the row's chain on, where its first slot stands.
pub record IsUnlink (cells : Cells) (unlinking : Unlinking) : Type 0 where
  pub from : ℕ
  pub used : IsUsedRow (table_of cells) unlinking.row
  pub some : 1 ≤ unlinking.count
  pub stands : (layout : Layout) → HasLayout cells layout → StandsAt (layout.chain unlinking.row) from unlinking.first
  pub within : (layout : Layout) → HasLayout cells layout → from + unlinking.count ≤ length (layout.chain unlinking.row)
  pub unlink : (layout : Layout) → HasLayout cells layout → IsUnlinkOf cells unlinking.unlinked (parts_in cells layout unlinking.row from unlinking.count)

-- the slots were read that stand in the row's chain from a place on, and the number of the one behind them, 0 where none is
pub record AreRead (cells : Cells) (chain : List ℕ) (from count : ℕ) (gone : List Linked) (behind : ℕ) : Type 0 where
  pub gone_are : gone ≡ chain_of (table_of cells) (take count (drop from chain))
  pub behind_is : behind ≡ slot_in chain (from + count)

-- the row pointer is given back
abbrev pub is_given_back : Option (ℕ × Pointer) → Bool
is_given_back None = false
is_given_back (Some named) = not named.1.used

-- ---- lists with cells at their numbers

abbrev pub with_slots : List Slot → List Linked → List Slot
with_slots slots changed = fold (λ list linked. slice_set list linked.number linked.slot) slots changed

abbrev pub with_pointer : List Pointer → Option (ℕ × Pointer) → List Pointer
with_pointer pointers None = pointers
with_pointer pointers (Some named) = slice_set pointers named.0 named.1
