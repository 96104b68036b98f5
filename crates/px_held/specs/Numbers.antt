-- The stored numbers in the chains of a table.
use Rattle.std.specs.Prelude.{◌≡◌, ℕ, ◌<◌, ◌≤◌}
use Rattle.px_cells.specs.declared.cell.CellKind.TheVariants as kind
use Rattle.px_chain.specs.Sound.{IsFreeSlot, IsSlot}
use Rattle.px_chain.specs.Table.{Table}
use Rattle.px_history.specs.Fitting.{IsStoredNumber}
use Rattle.px_recs.specs.Place.{place_of, table_file}
use Rattle.px_site.specs.declared.name.FileName.{FileName}

-- the slot holds a version
abbrev pub IsVersion : Table → (slot : ℕ) → Type 0
IsVersion table slot = IsSlot table slot × ¬ IsFreeSlot table slot

-- The least number from one on past the stored number of each version.
pub record IsPastVersions (first : ℕ) (table : Table) (next : ℕ) : Type 0 where
  pub from : first ≤ next
  pub stored : (slot : ℕ) → IsVersion table slot → IsStoredNumber (table.slot slot).xn
  pub past : (slot : ℕ) → IsVersion table slot → (table.slot slot).xn < next
  pub least : (other : ℕ) → first ≤ other → ((slot : ℕ) → IsVersion table slot → (table.slot slot).xn < other) → next ≤ other

-- the version in this slot has no stored number
pub record IsUnstored (table : Table) (slot : ℕ) : Type 0 where
  pub version : IsVersion table slot
  pub number : ¬ IsStoredNumber (table.slot slot).xn

-- and this is its place
pub record IsUnstoredAt (short number : ℕ) (table : Table) (file : FileName) (place : ℕ) : Type 0 where
  pub slot : ℕ
  pub unstored : IsUnstored table slot
  pub its_file : file ≡ table_file kind.Slot number
  pub its_place : place ≡ place_of short kind.Slot slot
