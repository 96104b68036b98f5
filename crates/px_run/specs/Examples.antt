-- A small run.
use Rattle.std.specs.Prelude.{ℕ, List, [], ◌∷◌, ◌++◌, codes}
use Rattle.px_model.specs.declared.row.Row.{Row}
use Rattle.px_cell_standing.specs.Found.{Found}

-- what is found in a store that was just made
abbrev pub small : Found
small = record { tables = 1; short = 64; rows = []; commits = 0; base = 0; redone = 0; frames = 0 }

abbrev pub small_row : Row
small_row = record { table = 1; key = codes "k1"; tag = 7; body = codes "abc" }

abbrev pub small_input : List ℕ
small_input = codes "a begin" ++ 10 ∷ codes "a insert 1 6b31 7 616263" ++ 10 ∷ codes "a get 1 6b31" ++ 10 ∷ codes "a commit" ++ 10 ∷ []

abbrev pub small_told : List ℕ
small_told = codes "opened commits 0 rows 0 redone 0" ++ 10 ∷ codes "began 1" ++ 10 ∷ codes "inserted" ++ 10 ∷ codes "row 7 616263" ++ 10 ∷ codes "committed 1" ++ 10 ∷ []
