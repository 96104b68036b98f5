-- The number of the next transaction.
use Rattle.std.specs.Prelude.{ℕ, ◌<◌, ◌≤◌, List, All}
use Rattle.px_change.specs.declared.change.Change.{Change}
use Rattle.px_restart.specs.declared.restart.Restart.{Restart}
use Rattle.px_shown.specs.Tables.{Layouts, Tables}
use Rattle.px_life.specs.Found.{AreBelow}

-- Neither the restart nor a frame that was read nor a version in a chain names this number or a greater one.
pub record IsUnnamed (restart : Restart) (changes : List Change) (found : Tables) (layouts : Layouts) (next : ℕ) : Type 0 where
  pub restart_is : restart.next ≤ next
  pub frames : All (λ change. change.xn < next) changes
  pub versions : AreBelow next found layouts

-- the least of these
pub record IsNext (restart : Restart) (changes : List Change) (found : Tables) (layouts : Layouts) (next : ℕ) : Type 0 where
  pub unnamed : IsUnnamed restart changes found layouts next
  pub least : (other : ℕ) → IsUnnamed restart changes found layouts other → next ≤ other
