-- When the cells that were opened are those of what was found.
use Rattle.std.specs.Prelude.{◌≡◌}
use Rattle.px_restart.specs.declared.restart.Restart.{Restart}
use Rattle.px_cell_opening.specs.Opened as cells
use Rattle.px_cell_opening.specs.declared.opening.Cells.{Cells}
use Rattle.px_cell_standing.specs.Found.{Found, machine_of}

-- the machine that starts with them is that of what was found, and the log has as many frames
pub record AreCellsOf (found : Found) (restart : Restart) (opened : Cells) : Type 0 where
  pub machine : machine_of found ≡ cells.machine_of restart found.commits found.rows opened.base
  pub commits_are : found.commits ≡ opened.commits
  pub redone_are : found.redone ≡ opened.redone
  pub frames : found.frames ≡ opened.log.frames
