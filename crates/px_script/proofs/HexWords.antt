-- When a word is the hexadecimal text of bytes.
use Rattle.std.proofs.Common.{◌≡◌, ℕ, suc, ◌+◌, ◌*◌, ◌/◌, ◌%◌, ◌<◌, ◌==◌, Bool, true, false, ◌&&◌, cond, leb, List, [], ◌∷◌, length, slice_index, Option, Some, None, unwrap_or, Result, Ok, Err, refl, sym, ap, ◌∙◌, arith, inl, inr}
use Rattle.std.proofs.lemmas.Bool.{agree_below_at, eqb-true, cond-true, cond-false, false_from_ne_true, and_parts, or_cases, leb-true}
use Rattle.std.proofs.lemmas.List.Elements.{All-cons, All-head, All-tail, All-nil, All-same}
use Rattle.std.proofs.lemmas.Slice.Eq.{bytes_eq-Decides}
use Rattle.std.specs.List.{AllPass}
use Rattle.std.specs.Prelude.{codes}
use Rattle.std.specs.Result.{result_unwrap_or}
use Rattle.hex.specs.Hex.{IsBytes, decode_of, decode_pairs, encode_lower, encode_with, hex_digit_value, lower_digits, digit_or_error, value_at, pair_value, ◌>>=◌}
use Rattle.hex.specs.declared.error.FromHexError.{FromHexError}
use Rattle.hex.proofs.HexLemmas.{decode_of-ok, decode_of-odd, decode_of-even}
use Rattle.px_script.specs.Words.{same, bytes_of, body_of, if_same_hex, is_lower_digit}

-- a digit in lower case is the one that its value has in the table
abbrev reads_back : ℕ → Bool
reads_back digit = cond (is_lower_digit digit) (slice_index lower_digits (unwrap_or (hex_digit_value digit) 0) == digit) true

-- the table has digits in lower case alone
abbrev is_lower_at : ℕ → Bool
is_lower_at place = is_lower_digit (slice_index lower_digits place)

lower-small : (digit : ℕ) → is_lower_digit digit ≡ true → digit < 103
lower-small digit lower =
    elim (or_cases (leb 48 digit && leb digit 57) (leb 97 digit && leb digit 102) lower) [
      | inl decimal ↦ omega (arith, leb-true digit 57 (and_parts (leb 48 digit) (leb digit 57) decimal).1)
      | inr letter ↦ omega (arith, leb-true digit 102 (and_parts (leb 97 digit) (leb digit 102) letter).1)
    ]

digit-back : (digit value : ℕ) → is_lower_digit digit ≡ true → hex_digit_value digit ≡ Some value → slice_index lower_digits value ≡ digit
digit-back digit value lower read =
    let back : reads_back digit ≡ true = agree_below_at reads_back (λ place. true) 103 digit refl (lower-small digit lower) in
    let same : (slice_index lower_digits (unwrap_or (hex_digit_value digit) 0) == digit) ≡ true =
    sym (cond-true (is_lower_digit digit) (slice_index lower_digits (unwrap_or (hex_digit_value digit) 0) == digit) true lower) ∙ back in
    rw read at (eqb-true (slice_index lower_digits (unwrap_or (hex_digit_value digit) 0)) digit same)

table-lower : (place : ℕ) → place < 16 → is_lower_digit (slice_index lower_digits place) ≡ true
table-lower place small = agree_below_at is_lower_at (λ place. true) 16 place refl small

-- the text of bytes has digits in lower case alone
pub text-lower : (bytes : List ℕ) → IsBytes bytes → AllPass is_lower_digit (encode_lower bytes)
unfolding encode_with
text-lower [] h = All-nil (λ digit. is_lower_digit digit ≡ true)
text-lower (byte ∷ bytes) h =
    let fits : byte < 256 = h 0 in
    let others = text-lower bytes (λ k. h (suc k)) in
    All-cons (λ digit. is_lower_digit digit ≡ true) (slice_index lower_digits (byte / 16)) (slice_index lower_digits (byte % 16) ∷ encode_lower bytes)
    (table-lower (byte / 16) (omega arith))
    (All-cons (λ digit. is_lower_digit digit ≡ true) (slice_index lower_digits (byte % 16)) (encode_lower bytes) (table-lower (byte % 16) (omega arith)) others)

-- what an `Ok` after `>>=` shows
bind_ok : {A B : Type 0} (r : Result A FromHexError) (f : A → Result B FromHexError) (y : B) → (r >>= f) ≡ Ok y → (x : A) × (r ≡ Ok x) × (f x ≡ Ok y)
bind_ok (Ok x) f y h = (x, refl, h)
bind_ok (Err e) f y h = cc h

-- the value of a digit that read
digit_read : (c i : ℕ) (o : Option ℕ) (v : ℕ) → digit_or_error c i o ≡ Ok v → o ≡ Some v
digit_read c i (Some w) v h = ap Some (ap (λ (r : Result ℕ FromHexError). result_unwrap_or r 0) h)
digit_read c i None v h = cc h

value-small : (c v : ℕ) → hex_digit_value c ≡ Some v → v < 16
value-small c v h = grind (arith)

-- what digits in lower case read as has them for its text
pub text-back : (i : ℕ) (text bytes : List ℕ) → AllPass is_lower_digit text → decode_pairs i text ≡ Ok bytes → encode_lower bytes ≡ text
unfolding encode_with decode_pairs
text-back i [] bytes lower h =
    let e : [] ≡ bytes = ap (λ (r : Result (List ℕ) FromHexError). result_unwrap_or r []) h in
    rw (← e) refl
text-back i (high ∷ []) bytes lower h = cc h
text-back i (high ∷ low ∷ text) bytes lower h =
    let p0 = bind_ok (pair_value high low i) _ bytes h in
    let p1 = bind_ok (value_at high i) _ p0.0 p0.1 in
    let p2 = bind_ok (value_at low (i + 1)) _ p0.0 p1.2 in
    let p3 = bind_ok (decode_pairs (i + 2) text) _ bytes p0.2 in
    let read_high = digit_read high i (hex_digit_value high) p1.0 p1.1 in
    let read_low = digit_read low (i + 1) (hex_digit_value low) p2.0 p2.1 in
    let small_high : p1.0 < 16 = value-small high p1.0 read_high in
    let small_low : p2.0 < 16 = value-small low p2.0 read_low in
    let whole : p0.0 ∷ p3.0 ≡ bytes = ap (λ (r : Result (List ℕ) FromHexError). result_unwrap_or r []) p3.2 in
    let byte : p1.0 * 16 + p2.0 ≡ p0.0 = ap (λ (r : Result ℕ FromHexError). result_unwrap_or r 0) p2.2 in
    let tail = All-tail (λ digit. is_lower_digit digit ≡ true) high (low ∷ text) lower in
    let first = digit-back high p1.0 (All-head (λ digit. is_lower_digit digit ≡ true) high (low ∷ text) lower) read_high in
    let second = digit-back low p2.0 (All-head (λ digit. is_lower_digit digit ≡ true) low text tail) read_low in
    let others = text-back (i + 2) text p3.0 (All-tail (λ digit. is_lower_digit digit ≡ true) low text tail) p3.1 in
    let over : p0.0 / 16 ≡ p1.0 = omega arith in
    let under : p0.0 % 16 ≡ p2.0 = omega arith in
    rw (← whole, over, under, first, second, others) refl

bytes_of-by : (digit : ℕ) (word bytes : List ℕ) → decode_of (digit ∷ word) ≡ Ok bytes → bytes_of (digit ∷ word) ≡ if_same_hex (digit ∷ word) (Ok bytes)
unfolding bytes_of
bytes_of-by digit word bytes h = ap (if_same_hex (digit ∷ word)) h

pub bytes_of-empty : (word : List ℕ) → length word ≡ 0 → bytes_of word ≡ None
unfolding bytes_of
bytes_of-empty [] h = refl
bytes_of-empty (digit ∷ word) h = absurd (omega arith)

pub bytes_of-error : (word : List ℕ) (e : FromHexError) → decode_of word ≡ Err e → bytes_of word ≡ None
unfolding bytes_of
bytes_of-error [] e h = refl
bytes_of-error (digit ∷ word) e h = ap (if_same_hex (digit ∷ word)) h

pub bytes_of-odd : (word : List ℕ) → length word % 2 ≡ 1 → bytes_of word ≡ None
bytes_of-odd word odd = bytes_of-error word _ (decode_of-odd word odd)

-- a digit that isn't one in lower case
pub bytes_of-other : (word : List ℕ) → (AllPass is_lower_digit word → ⊥) → bytes_of word ≡ None
unfolding bytes_of
bytes_of-other [] other = refl
bytes_of-other (digit ∷ word) other = with_decoded digit word (decode_of (digit ∷ word)) refl other where
  with_decoded : (digit : ℕ) (word : List ℕ) (decoded : Result (List ℕ) FromHexError) → decode_of (digit ∷ word) ≡ decoded → (AllPass is_lower_digit (digit ∷ word) → ⊥) → if_same_hex (digit ∷ word) decoded ≡ None
  with_decoded digit word (Err e) h other = refl
  with_decoded digit word (Ok bytes) h other =
      cond-false (same (digit ∷ word) (encode_lower bytes)) (Some bytes) None
      (false_from_ne_true (same (digit ∷ word) (encode_lower bytes)) (λ yes.
      other (All-same (λ c. is_lower_digit c ≡ true) (digit ∷ word) (encode_lower bytes)
      ((bytes_eq-Decides (digit ∷ word) (encode_lower bytes)).0 yes)
      (text-lower bytes (decode_of-ok (digit ∷ word) bytes h).3))))

pub bytes_of-read : (word bytes : List ℕ) → 0 < length word → AllPass is_lower_digit word → decode_of word ≡ Ok bytes → bytes_of word ≡ Some bytes
bytes_of-read [] bytes some lower h = absurd (omega arith)
bytes_of-read (digit ∷ word) bytes some lower h =
    let even = (decode_of-ok (digit ∷ word) bytes h).0 in
    let text = text-back 0 (digit ∷ word) bytes lower (sym (decode_of-even (digit ∷ word) even) ∙ h) in
    bytes_of-by digit word bytes h
    ∙ cond-true (same (digit ∷ word) (encode_lower bytes)) (Some bytes) None ((bytes_eq-Decides (digit ∷ word) (encode_lower bytes)).1 (sym text))

pub body_of-dash : (word : List ℕ) → same word (codes "-") ≡ true → body_of word ≡ Some []
unfolding body_of
body_of-dash word h = cond-true (same word (codes "-")) (Some []) (bytes_of word) h

pub body_of-other : (word : List ℕ) → same word (codes "-") ≡ false → body_of word ≡ bytes_of word
unfolding body_of
body_of-other word h = cond-false (same word (codes "-")) (Some []) (bytes_of word) h
