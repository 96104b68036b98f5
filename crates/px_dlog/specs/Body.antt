-- How a body is stored: its first bytes in a slot, and the rest in parts.
use Rattle.std.specs.Prelude.{ℕ, nat_le, List, [], ◌∷◌, length, take, drop, if◌then◌else◌}

-- the bytes in the slot
abbrev pub head_of : (short : ℕ) → List ℕ → List ℕ
head_of short body = take short body

-- the bytes of its parts, in order: one has all that stands behind the short length
abbrev pub parts_of : (short : ℕ) → List ℕ → List (List ℕ)
parts_of short body = if nat_le (length body) short then [] else drop short body ∷ []
