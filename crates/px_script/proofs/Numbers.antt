-- When a word is a number.
use Rattle.std.proofs.Common.{◌≡◌, ℕ, ◌-◌, ◌^◌, ◌<◌, ◌≤◌, inl, inr, List, [], ◌∷◌, length, get_or, take, Some, None, leb, sym, ap, ◌∙◌, arith}
use Rattle.std.proofs.lemmas.Bool.{cases_eq, leb-true, le-leb}
use Rattle.std.proofs.lemmas.Bool.Decides.{nat_tests}
use Rattle.std.proofs.lemmas.Fmt.{decimal_is_IsNumeral, decimal-digits_value, decimal_digit, decimal_nonempty, first_decimal}
use Rattle.std.proofs.lemmas.Slice.Eq.{bytes_eq-Decides}
use Rattle.std.proofs.lemmas.Str.Parse.{IsNumeralModel, numerals_by_value, tells_digits, digit_at, digits_value-take-le}
use Rattle.std.specs.Char.{digit_value}
use Rattle.std.specs.Fmt.{decimal}
use Rattle.std.specs.Int.{IsInRange}
use Rattle.std.specs.Str.Parse.{AllDigits, digits_value}
use Rattle.px_script.specs.Words.{same, number_of}
use Rattle.px_script.proofs.Choices.{none_where_one_fails, some_where_both_hold}

pub digit_value-digit : (digit : ℕ) → 48 ≤ digit → digit ≤ 57 → digit_value digit ≡ digit - 48
digit_value-digit digit low high = grind (arith, nat_tests)

pub numerals : IsNumeralModel (AllDigits 10) (digits_value 10)
numerals = numerals_by_value (AllDigits 10) tells_digits

-- the word is no number where it isn't the text of its digits' value, or that is past the limit
pub number_of-none : (most : ℕ) (word : List ℕ) → (digits_value 10 word ≤ most → word ≡ decimal (digits_value 10 word) → ⊥) → number_of most word ≡ None
unfolding number_of
number_of-none most word h =
    none_where_one_fails (leb (digits_value 10 word) most) (same word (decimal (digits_value 10 word))) (digits_value 10 word)
    (λ below text. h (leb-true (digits_value 10 word) most below) ((bytes_eq-Decides word (decimal (digits_value 10 word))).0 text))

pub number_of-some : (most : ℕ) (word : List ℕ) → digits_value 10 word ≤ most → word ≡ decimal (digits_value 10 word) → number_of most word ≡ Some (digits_value 10 word)
unfolding number_of
number_of-some most word below text =
    some_where_both_hold (leb (digits_value 10 word) most) (same word (decimal (digits_value 10 word))) (digits_value 10 word)
    (le-leb (digits_value 10 word) most below) ((bytes_eq-Decides word (decimal (digits_value 10 word))).1 text)

-- the text of a number isn't empty
pub number_of-empty : (most : ℕ) (word : List ℕ) → most < 2 ^ 32 → length word ≡ 0 → number_of most word ≡ None
number_of-empty most word small empty =
    number_of-none most word (λ below text.
    let some = decimal_nonempty (digits_value 10 word) (omega arith) in
    omega (arith, some, ap length text))

-- and begins with `0` only where that is all of it
pub number_of-leading : (most : ℕ) (word : List ℕ) → most < 2 ^ 32 → get_or word 0 0 ≡ 48 → 1 < length word → number_of most word ≡ None
number_of-leading most word small zero long =
    number_of-none most word (λ below text.
    elim (cases_eq (digits_value 10 word) 0) [
      | inl nothing ↦
          let one : decimal (digits_value 10 word) ≡ 48 ∷ [] = ap decimal nothing ∙ decimal_digit 0 (omega arith) in
          omega (arith, ap length (text ∙ one))
      | inr something ↦
          let first = first_decimal (digits_value 10 word) (omega arith) (omega arith) in
          omega (arith, first, ap (λ (w : List ℕ). get_or w 0 0) text)
    ])

-- each of its bytes is a digit
pub number_of-no_digit : (most : ℕ) (word : List ℕ) (i : ℕ) → most < 2 ^ 32 → i < length word → ¬ (IsInRange 48 57 (get_or word i 0)) → number_of most word ≡ None
number_of-no_digit most word i small within other =
    number_of-none most word (λ below text.
    let numeral = decimal_is_IsNumeral (digits_value 10 word) (omega arith) in
    let there : i < length (decimal (digits_value 10 word)) = omega (arith, ap length text) in
    let digit = digit_at (decimal (digits_value 10 word)) i numeral.0.1 there in
    other (rw (← text) at digit))

-- its first digits are no more than the limit
pub number_of-large : (most : ℕ) (word : List ℕ) (i : ℕ) → most < digits_value 10 (take i word) → number_of most word ≡ None
number_of-large most word i large =
    number_of-none most word (λ below text.
    omega (arith, digits_value-take-le 10 word i (omega arith)))

-- all digits were read, and none of them is a leading zero
pub number_of-read : (most : ℕ) (word : List ℕ) → most < 2 ^ 32 → AllDigits 10 word → 0 < length word → (get_or word 0 0 ≡ 48 → length word ≡ 1) → digits_value 10 word ≤ most → number_of most word ≡ Some (digits_value 10 word)
number_of-read most word small digits some plain below =
    number_of-some most word below (sym (decimal-digits_value numerals word digits some plain (omega arith)))
