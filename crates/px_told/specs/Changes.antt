-- Whose a change is, and of whom a list of changes tells nothing.
use Rattle.std.specs.Prelude.{◌≢◌, ℕ, ◌≤◌, max, Bool, true, false, List, [], ◌∷◌, All}
use Rattle.px_told.specs.declared.change.Change.{Change}
use Rattle.px_told.specs.declared.change.Change.TheVariants.{Put, Commit, Rollback}

-- a change without a row ends a transaction
abbrev pub is_end : Change → Bool
is_end (Put xn write) = false
is_end (Commit xn commit) = true
is_end (Rollback xn) = true

abbrev pub stored_number : Change → ℕ
stored_number (Put xn write) = xn
stored_number (Commit xn commit) = xn
stored_number (Rollback xn) = xn

abbrev pub greatest_stored : ℕ → List Change → ℕ
greatest_stored most [] = most
greatest_stored most (change ∷ changes) = greatest_stored (max most (stored_number change)) changes

-- nothing is told of this transaction
abbrev pub IsUntold : (xn : ℕ) → List Change → Type 0
IsUntold xn changes = All (λ change. stored_number change ≢ xn) changes

-- nothing is told of the transaction with this number, nor of later ones
abbrev pub AreUntoldFrom : (next : ℕ) → List Change → Type 0
AreUntoldFrom next changes = (xn : ℕ) → next ≤ xn → IsUntold xn changes
