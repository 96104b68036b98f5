-- That each row has one writer at a time, so that each commit may follow.
use Rattle.std.specs.Prelude.{◌≢◌, ◌⊎◌, ℕ, List, [], ◌∷◌}
use Rattle.px_shown.specs.Writes.{AreInFront, HasNoneOf}
use Rattle.px_history.specs.Store.{Store, IsOpen, versions_of}
use Rattle.px_history.specs.Steps.{Step, after_step}

-- a version is put where no other transaction that may still commit has one
abbrev pub IsAlone : Store → Step → Type 0
IsAlone store (Step.put t header slot) = (other : ℕ) → IsOpen store other → other ≢ slot.xn → HasNoneOf other (versions_of store t slot.row)
IsAlone store (Step.commit xn number) = Unit {0}
IsAlone store (Step.rollback xn) = Unit {0}
IsAlone store (Step.unlink t row from count) = Unit {0}
IsAlone store (Step.move t number log place) = Unit {0}

-- and so are all of these
abbrev pub AreAlone : Store → List Step → Type 0
AreAlone store [] = Unit {0}
AreAlone store (step ∷ steps) = IsAlone store step × AreAlone (after_step store step) steps

-- No two transactions that may still commit have versions of one row, and what each wrote stands in front of all that is done.
pub record HaveOneWriter (store : Store) : Type 0 where
  pub apart : (a b : ℕ) → IsOpen store a → IsOpen store b → a ≢ b
      → (t row : ℕ) → HasNoneOf a (versions_of store t row) ⊎ HasNoneOf b (versions_of store t row)
  pub in_front : (xn : ℕ) → IsOpen store xn → AreInFront store.done xn store.tables store.layouts
