-- The Commits among changes, and their numbers.
use Rattle.std.specs.Prelude.{◌≡◌, ℕ, ◌+◌, List, [], ◌∷◌, Contains, take}
use Rattle.px_told.specs.declared.change.Change.{Change}
use Rattle.px_told.specs.declared.change.Change.TheVariants.{Put, Commit, Rollback}
use Rattle.px_told.specs.Writes.{rows_in}

-- the last Commit's number, or this one where there is none
abbrev pub last_commit : ℕ → List Change → ℕ
last_commit last [] = last
last_commit last (Put xn write ∷ changes) = last_commit last changes
last_commit last (Commit xn commit ∷ changes) = last_commit commit changes
last_commit last (Rollback xn ∷ changes) = last_commit last changes

unfoldable pub commits_in : List Change → ℕ
commits_in changes = last_commit 0 changes

-- the Commits are numbered on from there, without gaps
abbrev pub CountsFrom : ℕ → List Change → Type 0
CountsFrom last [] = Unit {0}
CountsFrom last (Put xn write ∷ changes) = CountsFrom last changes
CountsFrom last (Commit xn commit ∷ changes) = (commit ≡ last + 1) × CountsFrom commit changes
CountsFrom last (Rollback xn ∷ changes) = CountsFrom last changes

-- some Commit is of this transaction
abbrev pub HasCommitOf : (xn : ℕ) → List Change → Type 0
HasCommitOf xn changes = (number : ℕ) × Contains changes (Commit xn number)

-- the first of these changes have each Commit of them all
pub record HasAll (kept : ℕ) (changes : List Change) : Type 0 where
  pub counted : CountsFrom 0 (take kept changes)
  pub commits : commits_in (take kept changes) ≡ commits_in changes
  pub rows : rows_in (take kept changes) ≡ rows_in changes
