-- Where a search for a byte cuts the bytes.
use Rattle.std.proofs.Common.{◌≡◌, ℕ, ◌+◌, ◌-◌, ◌<◌, Bool, true, false, not, Bor, Option, Some, None, refl, List, [], ◌∷◌, ◌++◌, length, get_or, take, drop, sym, ap, ◌∙◌, arith}
use Rattle.std.proofs.lemmas.Bool.{false_from_ne_true}
use Rattle.std.proofs.lemmas.List.{take_rest, drop_more, get_or-take, take-append-drop, length-take}
use Rattle.std.proofs.lemmas.List.Elements.{All-from_get_or}
use Rattle.std.proofs.lemmas.List.Splits.{slice_split_none, slice_split_at, length-slice_split}
use Rattle.std.specs.Bool.{IsTrue}
use Rattle.std.specs.List.{All}
use Rattle.std.specs.Option.{is_some, option_copied}
use Rattle.memchr.specs.Find.{Nowhere, NoneBefore, Passes, is_byte}
use Rattle.px_script.specs.Splits.{words_of, words_left}

-- no byte passed
pub none-passes : (test : ℕ → Bool) (bytes : List ℕ) → Nowhere (Passes test bytes) 0 (length bytes) → All (λ byte. test byte ≡ false) bytes
none-passes test bytes none =
    All-from_get_or (λ byte. test byte ≡ false) bytes 0
    (λ k within. false_from_ne_true (test (get_or bytes k 0)) (λ passes. none k (omega arith) within passes))

-- none before the first place that passed
pub none-before : (test : ℕ → Bool) (bytes : List ℕ) (end : ℕ) → NoneBefore (Passes test bytes) 0 (length bytes) end → All (λ byte. test byte ≡ false) (take end bytes)
none-before test bytes end first =
    All-from_get_or (λ byte. test byte ≡ false) (take end bytes) 0
    (λ k within.
    let before : k < end = omega (arith, length-take end bytes) in
    rw (get_or-take end bytes k 0 before)
    (false_from_ne_true (test (get_or bytes k 0)) (λ passes. first.before k (omega arith) before passes)))

-- the bytes before the place, the one there, and those behind it
pub cut : (bytes : List ℕ) (end : ℕ) → end < length bytes → bytes ≡ take end bytes ++ get_or bytes end 0 ∷ drop (end + 1) bytes
cut bytes end within = sym (take-append-drop end bytes) ∙ ap (λ (rest : List ℕ). take end bytes ++ rest) (drop_more bytes end 0 within)

pub words-none : (bytes : List ℕ) → Nowhere (Passes (is_byte 32) bytes) 0 (length bytes) → words_of bytes ≡ bytes ∷ []
words-none bytes none = slice_split_none (is_byte 32) bytes (none-passes (is_byte 32) bytes none)

pub words-at : (bytes : List ℕ) (end : ℕ) → NoneBefore (Passes (is_byte 32) bytes) 0 (length bytes) end → Passes (is_byte 32) bytes end → words_of bytes ≡ take end bytes ∷ words_of (take (length bytes - (end + 1)) (drop (end + 1) bytes))
words-at bytes end first passes =
    rw (take_rest bytes (end + 1))
    (ap words_of (cut bytes end first.high)
    ∙ slice_split_at (is_byte 32) (take end bytes) (get_or bytes end 0) (drop (end + 1) bytes) (none-before (is_byte 32) bytes end first) passes)

-- there is a first word always
pub words-some : (bytes : List ℕ) → words_of bytes ≡ [] → ⊥
words-some bytes h = omega (arith, length-slice_split (is_byte 32) bytes, ap length h)

-- none is left exactly behind the last word
pub words_left-empty : (rest : Option (Bor (List ℕ))) (none : Bool) → is_some rest ≡ not none → (IsTrue none → words_left (option_copied rest) ≡ []) × (words_left (option_copied rest) ≡ [] → IsTrue none)
words_left-empty None true h = (λ _. refl, λ _. refl)
words_left-empty None false h = absurd (cc h)
words_left-empty (Some rest) true h = absurd (cc h)
words_left-empty (Some rest) false h = (λ no. absurd (cc no), λ empty. absurd (words-some rest.now empty))
