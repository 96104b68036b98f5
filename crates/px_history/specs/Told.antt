-- What the steps tell of the writes and ends of transactions, and that a store agrees with it.
use Rattle.std.specs.Prelude.{◌≡◌, ◌↔◌, ℕ, ◌+◌, ◌<◌, ◌≤◌, true, false, List, [], ◌∷◌, flat_map}
use Rattle.px_model.specs.declared.row.Row.{Row}
use Rattle.px_shown.specs.Parts.{Parts}
use Rattle.px_shown.specs.Shown.{Shows, write_of}
use Rattle.px_shown.specs.Tables.{AreSound}
use Rattle.px_shown.specs.Writes.{AreWritesOf}
use Rattle.px_told.specs.declared.change.Change.{Change}
use Rattle.px_told.specs.declared.change.Change.TheVariants.{Put, Commit, Rollback}
use Rattle.px_told.specs.Changes.{IsUntold}
use Rattle.px_told.specs.Commits.{HasCommitOf, last_commit}
use Rattle.px_told.specs.Writes.{rows_over, writes_of}
use Rattle.px_history.specs.Store.{Store, IsOpen}
use Rattle.px_history.specs.Steps.{Step}

-- a write, with the whole of its body, a commit or a rollback; an unlink and a move tell nothing
abbrev pub told : Parts → Step → List Change
told parts (Step.put t header slot) = Put slot.xn (write_of parts t slot) ∷ []
told parts (Step.commit xn number) = Commit xn number ∷ []
told parts (Step.rollback xn) = Rollback xn ∷ []
told parts (Step.unlink t row from count) = []
told parts (Step.move t number log place) = []

abbrev pub told_by : Parts → List Step → List Change
told_by parts steps = flat_map (told parts) steps

-- ---- the numbers of commits

-- a commit has the next number, where the last one before the changes had this one
abbrev pub IsNumberedOn : (last : ℕ) → List Change → Step → Type 0
IsNumberedOn last changes (Step.put t header slot) = Unit {0}
IsNumberedOn last changes (Step.commit xn number) = number ≡ last_commit last changes + 1
IsNumberedOn last changes (Step.rollback xn) = Unit {0}
IsNumberedOn last changes (Step.unlink t row from count) = Unit {0}
IsNumberedOn last changes (Step.move t number log place) = Unit {0}

-- the last commit's number after the step, where it was this one
abbrev pub last_after : (last : ℕ) → Step → ℕ
last_after last (Step.put t header slot) = last
last_after last (Step.commit xn number) = number
last_after last (Step.rollback xn) = last
last_after last (Step.unlink t row from count) = last
last_after last (Step.move t number log place) = last

-- ---- agreement

-- A store agrees with the changes told since a base, whose rows and next number these are. Its cells are sound and show the rows
-- after the changes. Of the later numbers those are done that have a Commit there, and of the earlier ones those that were done
-- in the base; none that is done is over. Who may still commit has a later number, and so may each of whom nothing is told; the
-- chains have just the writes that the changes tell of it.
pub record Agrees (parts : Parts) (short next : ℕ) (rows : List Row) (base : Store) (changes : List Change) (store : Store) : Type 0 where
  pub sound : AreSound short store.tables store.layouts
  pub shows : Shows parts store.tables store.layouts store.done (rows_over rows changes)
  pub done : (xn : ℕ) → ((next ≤ xn) × (store.done xn ≡ true)) ↔ HasCommitOf xn changes
  pub earlier : (xn : ℕ) → xn < next → store.done xn ≡ base.done xn
  pub not_over : (xn : ℕ) → store.done xn ≡ true → store.over xn ≡ false
  pub later : (xn : ℕ) → IsOpen store xn → next ≤ xn
  pub fresh : (xn : ℕ) → next ≤ xn → IsUntold xn changes → store.over xn ≡ false
  pub wrote : (xn : ℕ) → IsOpen store xn → AreWritesOf parts xn store.tables store.layouts (writes_of xn changes)
