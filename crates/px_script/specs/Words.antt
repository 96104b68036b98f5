-- Words of lines: numbers, keys and bodies. Each is the one text of its value.
use Rattle.std.specs.Prelude.{ℕ, Bool, ◌&&◌, ◌||◌, nat_le, nat_eq, List, [], ◌∷◌, codes, Option, Some, None, if◌then◌else◌, Result, Ok, Err}
use Rattle.std.specs.Cmp.Lexicographic.{pointwise}
use Rattle.std.specs.Fmt.{decimal}
use Rattle.std.specs.Str.Parse.{digits_value}
use Rattle.hex.specs.declared.error.FromHexError.{FromHexError}
use Rattle.hex.specs.Hex.{encode_lower, decode_of}

abbrev pub same : List ℕ → List ℕ → Bool
same a b = pointwise nat_eq a b

-- the number up to `most` whose decimal text this is
unfoldable pub number_of : ℕ → List ℕ → Option ℕ
number_of most word =
    if nat_le (digits_value 10 word) most && same word (decimal (digits_value 10 word)) then Some (digits_value 10 word) else None

-- `0` to `9` and `a` to `f`
abbrev pub is_lower_digit : ℕ → Bool
is_lower_digit digit = (nat_le 48 digit && nat_le digit 57) || (nat_le 97 digit && nat_le digit 102)

abbrev pub if_same_hex : List ℕ → Result (List ℕ) FromHexError → Option (List ℕ)
if_same_hex word (Err error) = None
if_same_hex word (Ok bytes) = if same word (encode_lower bytes) then Some bytes else None

-- the bytes, one or more, whose lower-case hexadecimal text this is
unfoldable pub bytes_of : List ℕ → Option (List ℕ)
bytes_of [] = None
bytes_of (digit ∷ word) = if_same_hex (digit ∷ word) (decode_of (digit ∷ word))

-- the same, and `-` for none
unfoldable pub body_of : List ℕ → Option (List ℕ)
body_of word = if same word (codes "-") then Some [] else bytes_of word
