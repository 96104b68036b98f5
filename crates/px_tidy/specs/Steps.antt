-- The steps that tidy a store, and what they leave.
use Rattle.std.specs.Prelude.{◌≡◌, ◌≢◌, ◌↔◌, ℕ, zero, suc, ◌≤◌, List, [], ◌++◌, map}
use Rattle.px_chain.specs.Sound.{IsUsedRow}
use Rattle.px_model.specs.declared.row.Row.{Row}
use Rattle.px_shown.specs.Parts.{Parts}
use Rattle.px_shown.specs.Shown.{Shows}
use Rattle.px_shown.specs.Tables.{AreSound}
use Rattle.px_history.specs.Steps.{AreSteps, Step, after_steps}
use Rattle.px_history.specs.Store.{Store, versions_of}
use Rattle.px_tidy.specs.Kept.{kept, tidied_away}

-- an unlink for each version of the row that goes, the oldest first
abbrev pub tidying_row : Store → (t row : ℕ) → List Step
tidying_row store t row = map (λ place. Step.unlink t row place 1) (tidied_away store.done (versions_of store t row))

-- the rows 1 to this one, one after the other
abbrev pub tidying_rows : Store → (t last : ℕ) → List Step
tidying_rows store t zero = []
tidying_rows store t (suc last) = tidying_rows store t last ++ tidying_row store t (suc last)

abbrev pub tidying_table : Store → (t : ℕ) → List Step
tidying_table store t = tidying_rows store t (store.tables t).header.rows

-- the tables 1 to this one, one after the other
abbrev pub tidying_tables : Store → (last : ℕ) → List Step
tidying_tables store zero = []
tidying_tables store (suc last) = tidying_tables store last ++ tidying_table store (suc last)

-- ---- what they leave

-- of the row's versions only the one that stays is left, and where none stays there is no row
pub record IsRowTidied (store after : Store) (t row : ℕ) : Type 0 where
  pub versions : versions_of after t row ≡ kept store.done (versions_of store t row)
  pub used : IsUsedRow (after.tables t) row ↔ (kept store.done (versions_of store t row) ≢ [])

pub record IsRowSame (store after : Store) (t row : ℕ) : Type 0 where
  pub versions : versions_of after t row ≡ versions_of store t row
  pub used : IsUsedRow (after.tables t) row ↔ IsUsedRow (store.tables t) row

-- The steps lead from a store to another one, and each may follow. The cells stay sound and show the same rows, and the same
-- numbers are done. Each of these rows is tidied, and every other one is as it was. What lies in the data logs has no part in it.
pub record Tidies (short : ℕ) (store : Store) (steps : List Step) (after : Store) (IsOne : (t row : ℕ) → Type 0) : Type 0 where
  pub lead : after ≡ after_steps store steps
  pub follow : (parts : Parts) → AreSteps parts short store steps
  pub sound : AreSound short after.tables after.layouts
  pub shows : (parts : Parts) (rows : List Row) → Shows parts store.tables store.layouts store.done rows → Shows parts after.tables after.layouts after.done rows
  pub done : after.done ≡ store.done
  pub tidied : (t row : ℕ) → IsOne t row → IsRowTidied store after t row
  pub others : (t row : ℕ) → ¬ IsOne t row → IsRowSame store after t row

-- which rows are tidied: a row, the rows 1 to one of a table, a table, and the tables 1 to one

abbrev pub IsRow : (t row : ℕ) → (n q : ℕ) → Type 0
IsRow t row n q = (n ≡ t) × (q ≡ row)

abbrev pub IsRowUpTo : (t last : ℕ) → (n q : ℕ) → Type 0
IsRowUpTo t last n q = (n ≡ t) × (1 ≤ q) × (q ≤ last)

abbrev pub IsOfTable : (t : ℕ) → (n q : ℕ) → Type 0
IsOfTable t n q = n ≡ t

abbrev pub IsOfTableUpTo : (last : ℕ) → (n q : ℕ) → Type 0
IsOfTableUpTo last n q = (1 ≤ n) × (n ≤ last)

-- the store has the tables 1 to this one: no other one has a row
abbrev pub HasTables : Store → (last : ℕ) → Type 0
HasTables store last = (t row : ℕ) → IsUsedRow (store.tables t) row → (1 ≤ t) × (t ≤ last)
