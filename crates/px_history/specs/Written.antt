-- The cells that a step writes, and the change that a frame of the log has for it.
use Rattle.std.specs.Prelude.{◌≡◌, ◌⊎◌, ℕ, ◌==◌, List, [], ◌∷◌, ◌++◌, filter, flat_map, map, if◌then◌else◌}
use Rattle.px_cells.specs.declared.cell.Cell.{Cell}
use Rattle.px_cells.specs.declared.slot.Slot.{Slot}
use Rattle.px_change.specs.declared.change.Change.{Change}
use Rattle.px_change.specs.declared.change.ChangeKind.{ChangeKind}
use Rattle.px_change.specs.declared.change.ChangeKind.TheVariants as kind
use Rattle.px_chain.specs.Cells.{cell_of}
use Rattle.px_chain.specs.Links.{chain_of, link_cells, parts_of, unlink_cells}
use Rattle.px_chain.specs.Table.{Content}
use Rattle.px_shown.specs.Changes.{taken_slot}
use Rattle.px_shown.specs.Moves.{move_cells}
use Rattle.px_history.specs.Store.{Store, versions_from}
use Rattle.px_history.specs.Steps.{Step, after_step}

-- the table that has the step's cells, 0 where there are none
abbrev pub table_of : Step → ℕ
table_of (Step.put t header slot) = t
table_of (Step.commit xn number) = 0
table_of (Step.rollback xn) = 0
table_of (Step.unlink t row from count) = t
table_of (Step.move t number log place) = t

abbrev pub contents_of : Store → Step → List Content
contents_of store (Step.put t header slot) = link_cells header (taken_slot (store.tables t)) slot
contents_of store (Step.commit xn number) = []
contents_of store (Step.rollback xn) = []
contents_of store (Step.unlink t row from count) =
    unlink_cells (store.tables t).header (parts_of (chain_of (store.tables t) ((store.layouts t).chain row)) from count)
contents_of store (Step.move t number log place) = move_cells (store.tables t) number log place

-- those of one table
abbrev pub contents_in : (table : ℕ) → Store → Step → List Content
contents_in table store step = if table == table_of step then contents_of store step else []

-- the cells of one table that the steps write, in their order
abbrev pub contents_by : (table : ℕ) → Store → List Step → List Content
contents_by table store [] = []
contents_by table store (step ∷ steps) = contents_in table store step ++ contents_by table (after_step store step) steps

-- ---- changes

-- who wrote the first of these versions
abbrev pub first_writer : List Slot → ℕ
first_writer [] = 0
first_writer (slot ∷ slots) = slot.xn

abbrev pub kind_of : Step → ChangeKind
kind_of (Step.put t header slot) = kind.Put
kind_of (Step.commit xn number) = kind.Commit
kind_of (Step.rollback xn) = kind.Rollback
kind_of (Step.unlink t row from count) = kind.Tidy
kind_of (Step.move t number log place) = kind.Move

abbrev pub writer_of : Store → Step → ℕ
writer_of store (Step.put t header slot) = slot.xn
writer_of store (Step.commit xn number) = xn
writer_of store (Step.rollback xn) = xn
writer_of store (Step.unlink t row from count) = first_writer (versions_from store t row from count)
writer_of store (Step.move t number log place) = ((store.tables t).slot number).xn

abbrev pub commit_of : Step → ℕ
commit_of (Step.put t header slot) = 0
commit_of (Step.commit xn number) = number
commit_of (Step.rollback xn) = 0
commit_of (Step.unlink t row from count) = 0
commit_of (Step.move t number log place) = 0

-- the change of a step, in a store with that short length; an unlink's is the opening's
abbrev pub change_of : (short : ℕ) → Store → Step → Change
change_of short store step = record {
  kind = kind_of step;
  xn = writer_of store step;
  commit = commit_of step;
  cells = map (cell_of (table_of step) short) (contents_of store step);
}

-- the change of each step, in their order
abbrev pub changes_of : (short : ℕ) → Store → List Step → List Change
changes_of short store [] = []
changes_of short store (step ∷ steps) = change_of short store step ∷ changes_of short (after_step store step) steps

-- An unlink stands in the log as the opening's or as the sweeper's; whose number it carries is no part of the step.
abbrev pub IsMarkOf : Step → (short : ℕ) → Store → Change → Type 0
IsMarkOf (Step.put t header slot) short store change = change ≡ change_of short store (Step.put t header slot)
IsMarkOf (Step.commit xn number) short store change = change ≡ change_of short store (Step.commit xn number)
IsMarkOf (Step.rollback xn) short store change = change ≡ change_of short store (Step.rollback xn)
IsMarkOf (Step.unlink t row from count) short store change = (change.kind ≡ kind.Tidy) ⊎ (change.kind ≡ kind.Sweep)
IsMarkOf (Step.move t number log place) short store change = change ≡ change_of short store (Step.move t number log place)

-- the change is one that the log may have for the step
pub record IsChangeOf (short : ℕ) (store : Store) (step : Step) (change : Change) : Type 0 where
  pub mark : IsMarkOf step short store change
  pub cells : change.cells ≡ (change_of short store step).cells
  pub commit : change.commit ≡ (change_of short store step).commit

-- and so is each of these, in their order
abbrev pub AreChangesOf : (short : ℕ) → Store → List Step → List Change → Type 0
AreChangesOf short store [] [] = Unit {0}
AreChangesOf short store [] (change ∷ changes) = ⊥
AreChangesOf short store (step ∷ steps) [] = ⊥
AreChangesOf short store (step ∷ steps) (change ∷ changes) =
    IsChangeOf short store step change × AreChangesOf short (after_step store step) steps changes

-- ---- the cells of changes

-- the cells of one table that a change has, in their order
abbrev pub cells_for : (table : ℕ) → Change → List Cell
cells_for table change = filter (λ cell. cell.table == table) change.cells

-- and that changes have
abbrev pub cells_in : (table : ℕ) → List Change → List Cell
cells_in table changes = flat_map (cells_for table) changes
