use Rattle.px_beginning.proofs.Lasting.{no_cells_rest}
use Rattle.px_beginning.proofs.found.without_cells_files_rest.Goals as goal

pub returns : goal.returns
returns c = no_cells_rest
