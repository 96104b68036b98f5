-- Texts without a line feed.
use Rattle.std.proofs.Common.{◌≡◌, ◌≢◌, ℕ, zero, suc, ◌+◌, ◌/◌, ◌%◌, ◌==◌, not, ◌&&◌, ltb, Bool, true, false, cond, List, [], ◌∷◌, ◌++◌, take, slice_index, refl, ap, ◌∙◌, arith, inl, inr}
use Rattle.std.specs.Prelude.{codes}
use Rattle.std.specs.Fmt.{decimal, digits, digits_onto, digit_glyph}
use Rattle.std.proofs.lemmas.Bool.{cases_Bool, cond-true, cond-false, ne_eqb, eqb-false, and_parts, and_from, not-true}
use Rattle.hex.specs.Hex.{encode_lower, encode_with, lower_digits}
use Rattle.px_site.specs.declared.name.FileName.{FileName}
use Rattle.px_site.specs.declared.name.FileName.TheVariants.{Rec, Row, Dlog, Xlog, Restart, Index, Ilog}
use Rattle.px_site.specs.Names.{file_text}
use Rattle.px_calls.specs.Texts.{body_text}
use Rattle.px_script.specs.Lines.{complete_after, complete_lines}

-- no byte is a line feed
abbrev pub no_feed : List ℕ → Bool
no_feed [] = true
no_feed (byte ∷ bytes) = not (byte == 10) && no_feed bytes

pub no_feed_both : (a b : List ℕ) → no_feed a ≡ true → no_feed b ≡ true → no_feed (a ++ b) ≡ true
no_feed_both [] b first second = second
no_feed_both (byte ∷ a) b first second =
    let two = and_parts (not (byte == 10)) (no_feed a) first in
    and_from (not (byte == 10)) (no_feed (a ++ b)) two.0 (no_feed_both a b two.1 second)

pub no_feed_front : (few : ℕ) (a : List ℕ) → no_feed a ≡ true → no_feed (take few a) ≡ true
no_feed_front zero a all = refl
no_feed_front (suc few) [] all = refl
no_feed_front (suc few) (byte ∷ a) all =
    let two = and_parts (not (byte == 10)) (no_feed a) all in
    and_from (not (byte == 10)) (no_feed (take few a)) two.0 (no_feed_front few a two.1)

none_after : (line bytes : List ℕ) → no_feed bytes ≡ true → complete_after line bytes ≡ []
none_after line [] all = refl
none_after line (byte ∷ bytes) all =
    let two = and_parts (not (byte == 10)) (no_feed bytes) all in
    cond-false (byte == 10) (line ∷ complete_after [] bytes) (complete_after (line ++ byte ∷ []) bytes) (not-true (byte == 10) two.0)
    ∙ none_after (line ++ byte ∷ []) bytes two.1

-- then no line is complete
pub no_line : (bytes : List ℕ) → no_feed bytes ≡ true → complete_lines bytes ≡ []
unfolding complete_lines
no_line bytes all = none_after [] bytes all

-- ---- numbers and bytes

other_byte : (byte : ℕ) (rest : List ℕ) → byte ≢ 10 → no_feed rest ≡ true → no_feed (byte ∷ rest) ≡ true
other_byte byte rest other all = and_from (not (byte == 10)) (no_feed rest) (ap not (ne_eqb byte 10 other)) all

glyph_other : (d : ℕ) → digit_glyph false d ≢ 10
glyph_other d is =
    elim (cases_Bool (ltb d 10)) [
      | inl low ↦ omega (arith, is, cond-true (ltb d 10) (48 + d) (87 + d) low)
      | inr high ↦ omega (arith, is, cond-false (ltb d 10) (48 + d) (87 + d) high)
    ]

digits_no_feed : (most n : ℕ) (acc : List ℕ) → no_feed acc ≡ true → no_feed (digits_onto most 10 false n acc) ≡ true
digits_no_feed zero n acc all = all
digits_no_feed (suc most) n acc all =
    let more : List ℕ = digit_glyph false (n % 10) ∷ acc in
    let one : no_feed more ≡ true = other_byte (digit_glyph false (n % 10)) acc (glyph_other (n % 10)) all in
    either (n / 10 == 0) more (digits_onto most 10 false (n / 10) more) one (digits_no_feed most (n / 10) more one)
  where
    either : (last : Bool) (x y : List ℕ) → no_feed x ≡ true → no_feed y ≡ true → no_feed (cond last x y) ≡ true
    either true x y h k = h
    either false x y h k = k

pub decimal_no_feed : (n : ℕ) → no_feed (decimal n) ≡ true
unfolding digits
decimal_no_feed n = digits_no_feed 64 n [] refl

at_no_feed : (table : List ℕ) (place : ℕ) → no_feed table ≡ true → slice_index table place ≢ 10
at_no_feed [] place all is = omega (arith, is)
at_no_feed (byte ∷ table) zero all is =
    eqb-false byte 10 (not-true (byte == 10) (and_parts (not (byte == 10)) (no_feed table) all).0) is
at_no_feed (byte ∷ table) (suc place) all is = at_no_feed table place (and_parts (not (byte == 10)) (no_feed table) all).1 is

pub hex_no_feed : (bytes : List ℕ) → no_feed (encode_lower bytes) ≡ true
unfolding encode_with
hex_no_feed [] = refl
hex_no_feed (byte ∷ bytes) =
    let high : ℕ = slice_index lower_digits (byte / 16) in
    let low : ℕ = slice_index lower_digits (byte % 16) in
    other_byte high (low ∷ encode_lower bytes) (at_no_feed lower_digits (byte / 16) refl)
    (other_byte low (encode_lower bytes) (at_no_feed lower_digits (byte % 16) refl) (hex_no_feed bytes))

pub body_no_feed : (body : List ℕ) → no_feed (body_text body) ≡ true
body_no_feed [] = refl
body_no_feed (byte ∷ body) = hex_no_feed (byte ∷ body)

pub file_no_feed : (file : FileName) → no_feed (file_text file) ≡ true
file_no_feed (Rec table) = no_feed_both (codes "rec-") (decimal table) refl (decimal_no_feed table)
file_no_feed (Row table) = no_feed_both (codes "row-") (decimal table) refl (decimal_no_feed table)
file_no_feed (Dlog n) = no_feed_both (codes "dlog-") (decimal n) refl (decimal_no_feed n)
file_no_feed (Xlog n) = no_feed_both (codes "xlog-") (decimal n) refl (decimal_no_feed n)
file_no_feed (Restart n) = no_feed_both (codes "restart-") (decimal n) refl (decimal_no_feed n)
file_no_feed Index = refl
file_no_feed Ilog = refl
