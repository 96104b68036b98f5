-- The commands that words are.
use Rattle.std.specs.Prelude.{◌≤◌, ℕ, Bool, true, false, nat_le, List, [], ◌∷◌, codes, Option, Some, None, option_map, option_and_then, if◌then◌else◌}
use Rattle.px_model.specs.declared.limits.TheConstants.{MOST_TABLES, SHORTEST_SHORT, LONGEST_SHORT}
use Rattle.px_script.specs.Words.{same, number_of}
use Rattle.px_run.specs.declared.command.Command.{Command}
use Rattle.px_run.specs.declared.command.Command.TheVariants.{Make, Run, Dump}

abbrev pub at_least : ℕ → ℕ → Option ℕ
at_least least n = if nat_le least n then Some n else None

-- the number from `least` to `most` whose decimal text this is
abbrev pub number_from : (least most : ℕ) → List ℕ → Option ℕ
number_from least most word = option_and_then (at_least least) (number_of most word)

-- the words behind `make`: how many tables, and the short length
unfoldable pub make_of : (tables short : List ℕ) → Option Command
make_of tables short = option_and_then (λ n. option_map (Make n) (number_from SHORTEST_SHORT LONGEST_SHORT short)) (number_from 1 MOST_TABLES tables)

unfoldable pub command_of : List (List ℕ) → Option Command
command_of [] = None
command_of (verb ∷ []) = if same verb (codes "run") then Some Run else (if same verb (codes "dump") then Some Dump else None)
command_of (verb ∷ a ∷ []) = None
command_of (verb ∷ a ∷ b ∷ []) = if same verb (codes "make") then make_of a b else None
command_of (verb ∷ a ∷ b ∷ c ∷ words) = None

-- such a store may be made
abbrev pub IsMakeable : Command → Type 0
IsMakeable (Make tables short) = (1 ≤ tables) × (tables ≤ MOST_TABLES) × (SHORTEST_SHORT ≤ short) × (short ≤ LONGEST_SHORT)
IsMakeable Run = Unit {0}
IsMakeable Dump = Unit {0}

-- the words ask for a store that is there
abbrev pub opens : Option Command → Bool
opens (Some Run) = true
opens (Some Dump) = true
opens _ = false
