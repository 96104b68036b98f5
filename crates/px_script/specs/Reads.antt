-- What reading words as a line, or as a part of one, answers.
use Rattle.std.specs.Prelude.{◌≡◌, ℕ, List, [], ◌∷◌, Option, Some, None, Result, Ok, Err}
use Rattle.hex.specs.declared.error.FromHexError.{FromHexError}
use Rattle.hex.specs.declared.error.FromHexError.TheVariants.{OutOfMemory as HexOutOfMemory}
use Rattle.px_script.specs.declared.no_line.NoLine.{NoLine}
use Rattle.px_script.specs.declared.no_line.NoLine.TheVariants.{OutOfMemory, Outside}

-- the value where there is one, and that there is none where the answer is that the words are outside the grammar
abbrev pub Reads : {A : Type 0} → Option A → Result A NoLine → Type 0
Reads reading (Ok value) = reading ≡ Some value
Reads reading (Err Outside) = reading ≡ None
Reads reading (Err OutOfMemory) = Unit {0}

-- the reading of the first word, if there is one
abbrev pub first_by : {A : Type 0} → (List ℕ → Option A) → List (List ℕ) → Option A
first_by reading [] = None
first_by reading (word ∷ words) = reading word

-- the first word was read and the others are left
abbrev pub ReadsFirst : {A : Type 0} → (List ℕ → Option A) → (old new : List (List ℕ)) → Result A NoLine → Type 0
ReadsFirst reading old new (Ok value) = (word : List ℕ) × (old ≡ word ∷ new) × (reading word ≡ Some value)
ReadsFirst reading old new (Err Outside) = first_by reading old ≡ None
ReadsFirst reading old new (Err OutOfMemory) = Unit {0}

-- text that isn't hexadecimal is outside the grammar
abbrev pub no_line_of : FromHexError → NoLine
no_line_of HexOutOfMemory = OutOfMemory
no_line_of _ = Outside
