-- The path of a folder that is asked for.
use Rattle.std.specs.Prelude.{ℕ, List, [], ◌∷◌, codes}

-- this path, or that of the current folder where it is empty
abbrev pub path_or_current : List ℕ → List ℕ
path_or_current [] = codes "."
path_or_current (byte ∷ path) = byte ∷ path
