-- How the bytes of an input are lines.
use Rattle.std.specs.Prelude.{ℕ, ◌==◌, List, [], ◌∷◌, ◌++◌, if◌then◌else◌}

-- the lines that are complete in the bytes, without their line feeds, where this much of a line was read before
abbrev pub complete_after : List ℕ → List ℕ → List (List ℕ)
complete_after line [] = []
complete_after line (byte ∷ bytes) = if byte == 10 then line ∷ complete_after [] bytes else complete_after (line ++ byte ∷ []) bytes

-- what is read of the line behind them
abbrev pub rest_after : List ℕ → List ℕ → List ℕ
rest_after line [] = line
rest_after line (byte ∷ bytes) = if byte == 10 then rest_after [] bytes else rest_after (line ++ byte ∷ []) bytes

unfoldable pub complete_lines : List ℕ → List (List ℕ)
complete_lines bytes = complete_after [] bytes

unfoldable pub open_line : List ℕ → List ℕ
open_line bytes = rest_after [] bytes

-- at the end of an input what is left is a line too, where it has a byte
abbrev pub last_line : List ℕ → List (List ℕ)
last_line [] = []
last_line (byte ∷ line) = (byte ∷ line) ∷ []

abbrev pub lines_at_end : List ℕ → List (List ℕ)
lines_at_end bytes = complete_lines bytes ++ last_line (open_line bytes)
