-- The transactions that are open were begun: their numbers were given out, each once.
use Rattle.std.specs.Prelude.{◌≡◌, ◌<◌, ◌≤◌, ℕ, List, Option, Some, None, slice_index_or}
use Rattle.px_model.specs.declared.machine.Open.{Open}

pub record WereBegun (begun : ℕ) (active : List (Option Open)) : Type 0 where
  pub from_one : (session : ℕ) (xact : Open) → slice_index_or active session None ≡ Some xact → 0 < xact.number
  pub given : (session : ℕ) (xact : Open) → slice_index_or active session None ≡ Some xact → xact.number ≤ begun
  pub apart : (one other : ℕ) (x y : Open) → slice_index_or active one None ≡ Some x → slice_index_or active other None ≡ Some y
      → x.number ≡ y.number → one ≡ other
