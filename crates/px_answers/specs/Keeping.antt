-- The rows that tickets keep.
use Rattle.std.specs.Prelude.{Bool, true, false, ◌≡◌, ℕ, ◌<◌, ◌++◌, List, [], ◌∷◌, Option, Some, None, slice_index_or, slice_set}
use Rattle.px_calls.specs.declared.call.Call.{Call}
use Rattle.px_calls.specs.declared.call.Call.TheVariants.{Hold}
use Rattle.px_calls.specs.Steps.{open_of}
use Rattle.px_model.specs.declared.limits.TheConstants.{SESSIONS}
use Rattle.px_model.specs.declared.machine.Open.{Open}
use Rattle.px_model.specs.declared.row.Row.{Row}
use Rattle.px_model.specs.Machine.{Machine}

-- for each session the rows that its tickets keep, in order
abbrev pub Kept : Type 0
Kept = List (List Row)

abbrev pub kept_by : Kept → (session : ℕ) → List Row
kept_by kept session = slice_index_or kept session []

abbrev pub none_kept : Kept
none_kept = [] ∷ [] ∷ [] ∷ [] ∷ [] ∷ [] ∷ [] ∷ [] ∷ [] ∷ [] ∷ [] ∷ [] ∷ [] ∷ [] ∷ [] ∷ [] ∷ []

abbrev pub with_kept : Kept → (session : ℕ) → Row → Kept
with_kept kept session row = slice_set kept session (kept_by kept session ++ row ∷ [])

abbrev pub without_kept : Kept → (session : ℕ) → Kept
without_kept kept session = slice_set kept session []

abbrev pub kept_in : Option Open → List Row
kept_in None = []
kept_in (Some xact) = xact.kept

-- each session's tickets keep what its open transaction keeps
abbrev pub KeepsTickets : Kept → Machine → Type 0
KeepsTickets kept m = (session : ℕ) → session < SESSIONS → kept_by kept session ≡ kept_in (open_of m session)

abbrev pub is_hold : Call → Bool
is_hold (Hold table key) = true
is_hold _ = false
