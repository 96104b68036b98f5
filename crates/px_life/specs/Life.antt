-- The frames of a store since it was opened, as steps from what the opening found.
use Rattle.std.specs.Prelude.{◌≡◌, ℕ, ◌+◌, ◌-◌, ◌≤◌, ◌<◌, List, [], ◌∷◌, ◌++◌, All, length, take, drop, Some, IsSome, true}
use Rattle.px_model.specs.declared.row.Row.{Row}
use Rattle.px_change.specs.declared.change.Change.{Change}
use Rattle.px_change.specs.Grammar.{may_hold}
use Rattle.px_change.specs.declared.change.ChangeKind.{ChangeKind}
use Rattle.px_change.specs.declared.change.ChangeKind.TheVariants as kind
use Rattle.px_history.specs.Base.{IsBase}
use Rattle.px_history.specs.Steps.{AreSteps, Step, after_steps}
use Rattle.px_history.specs.Store.{Store}
use Rattle.px_history.specs.Writers.{AreAlone}
use Rattle.px_history.specs.Fitting.{AreWritten}
use Rattle.px_history.specs.Written.{AreChangesOf}
use Rattle.px_shown.specs.Parts.{Parts}
use Rattle.px_cells.specs.declared.cell.CellKind.{CellKind}
use Rattle.px_cells.specs.declared.cell.CellKind.TheVariants as kinds
use Rattle.px_laid.specs.Places.{Places, none_laid}
use Rattle.px_opened.specs.Kept.{HoldsStore}
use Rattle.px_opened.specs.Opened.{changes_over}
use Rattle.px_life.specs.Laid.{cells_by, is_laid_by}

-- ---- the log

-- each of them stands in a frame that may hold it, the first in this one
abbrev pub MayStand : (tables number short : ℕ) → List Change → Type 0
MayStand tables number short [] = Unit {0}
MayStand tables number short (change ∷ changes) = (may_hold tables number short change ≡ true) × MayStand tables (number + 1) short changes

-- whom the Commits among the changes are of
abbrev pub committer : ChangeKind → (xn : ℕ) → List ℕ
committer kind.Put xn = []
committer kind.Commit xn = xn ∷ []
committer kind.Rollback xn = []
committer kind.Sweep xn = []
committer kind.Move xn = []
committer kind.Tidy xn = []

abbrev pub committed_by : List Change → List ℕ
committed_by [] = []
committed_by (change ∷ changes) = committer change.kind change.xn ++ committed_by changes

-- ---- a life

-- `first` is the number of the first change that is known, `redo` that of the first one that the opening laid over the files.
-- From `start` on, the end of what it read, the changes are those of the steps from the store that it found, `base`, whose
-- cells are `below`.
pub record Life : Type 0 where
  pub first : ℕ
  pub changes : List Change
  pub redo : ℕ
  pub start : ℕ
  pub base : Store
  pub below : Places
  pub steps : List Step

abbrev pub end_of : Life → ℕ
end_of life = life.first + length life.changes

-- the changes from a frame on and below another one
abbrev pub between : Life → (from to : ℕ) → List Change
between life from to = take (to - from) (drop (from - life.first) life.changes)

-- the cells of the store, once the frames from the start on and below this one are laid
abbrev pub places_at : Life → ℕ → Places
places_at life frame = changes_over life.below (between life life.start frame)

-- the store that they are
abbrev pub store_at : Life → ℕ → Store
store_at life frame = after_steps life.base (take (frame - life.start) life.steps)

-- what was read over the files is what the opening found
pub record AreRead (life : Life) : Type 0 where
  pub each : (what : CellKind) (table number : ℕ) (bytes : List ℕ) → life.below what table number ≡ Some bytes
      → is_laid_by (cells_by (between life life.redo life.start)) what table number ≡ true
      → changes_over none_laid (between life life.redo life.start) what table number ≡ Some bytes
  pub headers : (table : ℕ) → is_laid_by (cells_by (between life life.redo life.start)) kinds.Header table 0 ≡ true
      → IsSome (life.below kinds.Header table 0)

-- In a store with that short length and so many tables, over these data logs: the opening found a base with these rows, and each change since then
-- is that of a step that may follow, in rows with one writer at a time.
pub record IsLife (parts : Parts) (short tables next : ℕ) (rows : List Row) (life : Life) : Type 0 where
  pub redo_from : life.first ≤ life.redo
  pub start_from : life.redo ≤ life.start
  pub count : life.start + length life.steps ≡ end_of life
  pub base : IsBase parts short next rows life.base
  pub held : HoldsStore short tables life.base life.below
  pub read : AreRead life
  pub follow : AreSteps parts short life.base life.steps
  pub alone : AreAlone life.base life.steps
  pub written : AreWritten tables life.steps
  -- what the opening read has the Commits of lower numbers alone
  pub earlier : All (λ xn. xn < next) (committed_by (take (life.start - life.first) life.changes))
  pub stand : MayStand tables life.first short life.changes
  pub are : AreChangesOf short life.base life.steps (drop (life.start - life.first) life.changes)

-- one frame more
abbrev pub grown : Life → Step → Change → Life
grown life step change = record life { changes = life.changes ++ change ∷ []; steps = life.steps ++ step ∷ [] }
