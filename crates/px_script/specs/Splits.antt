-- Bytes cut at spaces.
use Rattle.std.specs.Prelude.{ℕ, ◌==◌, List, [], Option, Some, None}
use Rattle.std.specs.List.{slice_split}

-- the parts between spaces: a space at an end, and a second one in a row, make an empty word, which no line has
abbrev pub words_of : List ℕ → List (List ℕ)
words_of bytes = slice_split (λ byte. byte == 32) bytes

-- the words that are left: none behind the last one
abbrev pub words_left : Option (List ℕ) → List (List ℕ)
words_left None = []
words_left (Some bytes) = words_of bytes
