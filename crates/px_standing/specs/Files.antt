-- The files of a store, and its restart files among them.
use Rattle.std.specs.Prelude.{ℕ, List}
use Rattle.px_site.specs.declared.name.FileName.{FileName}
use Rattle.px_site.specs.declared.name.FileName.TheVariants.{Restart as RestartFile}
use Rattle.px_restart.specs.declared.restart.Restart.{Restart}
use Rattle.px_restart.specs.Restart.{RestartAt}

-- what is in the files, by their names
abbrev pub Files : Type 0
Files = FileName → List ℕ

abbrev pub first_restart : Files → List ℕ
first_restart files = files (RestartFile 0)

abbrev pub second_restart : Files → List ℕ
second_restart files = files (RestartFile 1)

-- neither restart file checks
pub record HasNoRestart (files : Files) : Type 0 where
  pub first : (restart : Restart) → RestartAt (first_restart files) restart → ⊥
  pub second : (restart : Restart) → RestartAt (second_restart files) restart → ⊥
