-- The least numbers past those of changes and of versions.
use Rattle.std.specs.Prelude.{ℕ, ◌<◌, ◌≤◌, List, All}
use Rattle.px_change.specs.declared.change.Change.{Change}
use Rattle.px_held.specs.Numbers.{IsUnstoredAt, IsVersion}
use Rattle.px_history.specs.Fitting.{IsStoredNumber, IsTable}
use Rattle.px_shown.specs.Tables.{Tables}
use Rattle.px_site.specs.declared.name.FileName.{FileName}

-- the least number from one on past those of the changes
pub record IsPastChanges (first : ℕ) (changes : List Change) (next : ℕ) : Type 0 where
  pub from : first ≤ next
  pub past : All (λ change. change.xn < next) changes
  pub least : (other : ℕ) → first ≤ other → All (λ change. change.xn < other) changes → next ≤ other

-- each version of the tables 1 to this one has a number below that one
abbrev pub AreVersionsBelow : Tables → (last next : ℕ) → Type 0
AreVersionsBelow tables last next = (t slot : ℕ) → IsTable last t → IsVersion (tables t) slot → ((tables t).slot slot).xn < next

-- the least number from one on past those of these versions, each of which has a stored one
pub record IsPastTables (first : ℕ) (tables : Tables) (last next : ℕ) : Type 0 where
  pub from : first ≤ next
  pub stored : (t slot : ℕ) → IsTable last t → IsVersion (tables t) slot → IsStoredNumber ((tables t).slot slot).xn
  pub past : AreVersionsBelow tables last next
  pub least : (other : ℕ) → first ≤ other → AreVersionsBelow tables last other → next ≤ other

-- a version of one of the tables 1 to this one has no stored number, and this is its place
pub record IsUnstoredIn (short last : ℕ) (tables : Tables) (file : FileName) (place : ℕ) : Type 0 where
  pub number : ℕ
  pub within : IsTable last number
  pub unstored : IsUnstoredAt short number (tables number) file place
