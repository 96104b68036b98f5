-- The decimal texts in file names.
use Rattle.std.proofs.Common.{◌≡◌, ◌≢◌, ℕ, zero, suc, ◌^◌, ◌<◌, ◌≤◌, List, [], ◌∷◌, ◌++◌, get_or, Option, Some, None, IfSome, IfNone, Result, Ok, Err, IsUtf8, decimal, refl, sym, ap, ◌∙◌, arith}
use Rattle.std.specs.Str.Parse.{AllDigits, digits_value, ParsesUnsigned}
use Rattle.std.proofs.lemmas.List.{append_cancel_left}
use Rattle.std.proofs.lemmas.Str.{IsUtf8-from_ascii}
use Rattle.std.proofs.lemmas.Str.Parse.{IsNumeralModel, numerals_by_value, tells_digits, parse_plain}
use Rattle.std.proofs.lemmas.Fmt.{first_decimal, decimal_digit, decimal-digits_value, parse-decimal, IsAscii-decimal}
use Rattle.px_site.specs.Names.{IsPlain}

digits_model : IsNumeralModel (AllDigits 10) (digits_value 10)
digits_model = numerals_by_value (AllDigits 10) tells_digits

-- a number's text begins with neither a plus nor a zero that other digits follow
pub plain_decimal : (n : ℕ) → n < 2 ^ 64 → IsPlain (decimal n)
plain_decimal zero small = let e : decimal 0 ≡ 48 ∷ [] = decimal_digit 0 (omega arith) in rw e (record { no_plus = λ h. absurd (omega (arith, h)); no_zeros = λ h. refl })
plain_decimal (suc n) small =
    let first : 48 < get_or (decimal (suc n)) 0 0 = first_decimal (suc n) (omega arith) small in
    record { no_plus = λ h. omega (arith, first, h); no_zeros = λ h. absurd (omega (arith, first, h)) }

-- and is text
pub utf8_decimal : (text : List ℕ) (n : ℕ) → n < 2 ^ 64 → text ≡ decimal n → IsUtf8 text
utf8_decimal text n small is = rw is (IsUtf8-from_ascii (decimal n) (IsAscii-decimal n small))

-- a plain text that is read as a number is that number's text
pub read_is_decimal : {E : Type 0} → (text : List ℕ) (r : Result ℕ E) (n : ℕ) → IsPlain text → r ≡ Ok n → ParsesUnsigned 32 10 text r → text ≡ decimal n
read_is_decimal text (Err e) n plain is parsed = absurd (cc)
read_is_decimal {E} text (Ok m) n plain is parsed =
    let read = parse_plain digits_model {E = E} 32 text (Ok m) parsed plain.no_plus in
    let same : m ≡ n = cc in
    sym (ap decimal (sym same ∙ read.1) ∙ decimal-digits_value digits_model text read.0.0 read.0.1 plain.no_zeros (omega (arith, read.0.2)))

-- a text that isn't read is no number's
pub unread_is_none : {E : Type 0} → (text : List ℕ) (r : Result ℕ E) (e : E) → r ≡ Err e → ParsesUnsigned 32 10 text r → (n : ℕ) → n < 2 ^ 32 → text ≢ decimal n
unread_is_none text r e failed parsed n small is = let read : r ≡ Ok n = parse-decimal 32 n text r small (omega arith) is parsed in absurd (cc)

module _ (text word digits : List ℕ) (least most : ℕ) (split : text ≡ word ++ digits) where
  -- the number after a word
  pub found_after : (r : Option ℕ) → IfSome r (λ n. (least ≤ n) × (n ≤ most) × (digits ≡ decimal n)) → IfSome r (λ n. (least ≤ n) × (n ≤ most) × (text ≡ word ++ decimal n))
  found_after (Some n) found = (found.0, found.1, split ∙ ap (λ (rest : List ℕ). word ++ rest) found.2)
  found_after None found = tt

  pub absent_after : (r : Option ℕ) → IfNone r ((n : ℕ) → least ≤ n → n ≤ most → digits ≢ decimal n) → IfNone r ((n : ℕ) → least ≤ n → n ≤ most → text ≢ word ++ decimal n)
  absent_after (Some n) absent = tt
  absent_after None absent = λ n low high is. absent n low high (append_cancel_left word digits (decimal n) (sym split ∙ is))
