-- Which change bytes hold, and the steps in which it is read.
use Rattle.std.specs.Prelude.{◌≡◌, ℕ, ◌^◌, ◌<◌, true, List, ◌++◌, length}
use Rattle.std.specs.List.{flat_map, AllByRecursion}
use Rattle.px_cells.specs.declared.cell.Cell.{Cell}
use Rattle.px_change.specs.declared.change.Change.{Change}
use Rattle.px_change.specs.Text.{head, cell_head, cell_text, change_text}
use Rattle.px_change.specs.Grammar.{is_change}

-- the bytes are those of a change of the grammar
pub record HoldsChange (short : ℕ) (bytes : List ℕ) (change : Change) : Type 0 where
  pub grammar : is_change short change ≡ true
  pub text : bytes ≡ change_text change

-- ---- steps

-- the bytes are a head with these numbers, and a rest
pub record IsHead (bytes : List ℕ) (kind xn commit count : ℕ) (rest : List ℕ) : Type 0 where
  pub front : bytes ≡ head kind xn commit count ++ rest
  pub xn_fits : xn < 2 ^ 64
  pub commit_fits : commit < 2 ^ 64

-- the bytes are the head of a cell with these numbers, and a rest
pub record IsCellHead (bytes : List ℕ) (what table number size : ℕ) (rest : List ℕ) : Type 0 where
  pub front : bytes ≡ cell_head what table number size ++ rest
  pub number_fits : number < 2 ^ 32
  pub size_fits : size < 2 ^ 16

-- the numbers of a cell fit their fields
pub record Fits (cell : Cell) : Type 0 where
  pub number : cell.number < 2 ^ 32
  pub size : length cell.bytes < 2 ^ 16

-- the bytes begin with a cell
pub record IsCellThen (bytes : List ℕ) (cell : Cell) (rest : List ℕ) : Type 0 where
  pub fits : Fits cell
  pub front : bytes ≡ cell_text cell ++ rest

-- the bytes are so many cells
pub record AreCells (bytes : List ℕ) (count : ℕ) (cells : List Cell) : Type 0 where
  pub fit : AllByRecursion Fits cells
  pub many : length cells ≡ count
  pub text : bytes ≡ flat_map cell_text cells
