-- What the files of a store stand for.
use Rattle.std.specs.Prelude.{ℕ, List}
use Rattle.px_model.specs.declared.row.Row.{Row}
use Rattle.px_reached.specs.Stands as over
use Rattle.px_shown.specs.Parts.{no_parts}
use Rattle.px_standing.specs.Files.{Files}

-- The files stand for this number of commits and these rows. Until bodies go on in data logs nothing lies in these.
abbrev pub StandsFor : Files → ℕ → List Row → Type 0
StandsFor files commits rows = over.StandsFor no_parts files commits rows
