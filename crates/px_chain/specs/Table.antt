-- A table as its cells say, and cells laid over it.
use Rattle.std.specs.Prelude.{ℕ, ◌==◌, List, fold, if◌then◌else◌}
use Rattle.px_cells.specs.declared.header.Header.{Header}
use Rattle.px_cells.specs.declared.pointer.Pointer.{Pointer}
use Rattle.px_cells.specs.declared.slot.Slot.{Slot}

-- the header, and by their numbers the slots and the row pointers
pub record Table : Type 0 where
  pub header : Header
  pub slot : ℕ → Slot
  pub pointer : ℕ → Pointer

-- what a cell says
pub data Content : Type 0 where
  header_is : Header → Content
  slot_is : ℕ → Slot → Content
  pointer_is : ℕ → Pointer → Content

abbrev pub overlaid : Table → Content → Table
overlaid table (header_is header) = record table { header = header }
overlaid table (slot_is number slot) = record table { slot = λ n. if n == number then slot else table.slot n }
overlaid table (pointer_is number pointer) = record table { pointer = λ n. if n == number then pointer else table.pointer n }

-- cells over a table, each over those before it
abbrev pub laid : Table → List Content → Table
laid table cells = fold overlaid table cells
