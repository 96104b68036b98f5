-- A line, given a number of times over, byte by byte.
use Rattle.std.proofs.Common.{◌≡◌, ℕ, zero, suc, ◌+◌, ◌-◌, ◌<◌, min, List, [], ◌∷◌, ◌++◌, length, get_or, take, drop, set, refl, sym, ap, ◌∙◌, append_assoc, add-one, arith, drop-cons, length-append}
use Rattle.std.proofs.Math.Seq.{take-suc-set, drop-append_seam}
use Rattle.std.proofs.lemmas.List.{get_or_append_left, take-append-le, nil_from_length}
use Rattle.std.specs.List.{repeat}
use Rattle.px_source.specs.Source.{Took}

-- an empty line is nothing, however often
pub repeat_empty : (line : List ℕ) (times : ℕ) → length line ≡ 0 → repeat times line ≡ []
repeat_empty [] zero empty = refl
repeat_empty [] (suc times) empty = repeat_empty [] times empty
repeat_empty (byte ∷ line) times empty = absurd (omega arith)

module _ (line : List ℕ) (times at : ℕ) (some : 0 < times) (within : at < length line) where
  -- the next byte is taken from the line
  pub next_byte : drop at (repeat times line) ≡ get_or line at 0 ∷ drop (at + 1) (repeat times line)
  next_byte = by_times times some
    where
      by_times : (times : ℕ) → 0 < times → drop at (repeat times line) ≡ get_or line at 0 ∷ drop (at + 1) (repeat times line)
      by_times zero some = absurd (omega arith)
      by_times (suc n) some =
          let here : at < length (line ++ repeat n line) = omega (arith, within, length-append line (repeat n line)) in
          drop-cons (line ++ repeat n line) at 0 here
          ∙ ap (λ (byte : ℕ). byte ∷ drop (suc at) (line ++ repeat n line)) (get_or_append_left line (repeat n line) 0 at within)
          ∙ ap (λ (next : ℕ). get_or line at 0 ∷ drop next (line ++ repeat n line)) (sym (add-one at))

  -- past its last byte the next line begins
  pub next_line : at + 1 ≡ length line → drop (at + 1) (repeat times line) ≡ drop 0 (repeat (times - 1) line)
  next_line last = by_times times some
    where
      by_times : (times : ℕ) → 0 < times → drop (at + 1) (repeat times line) ≡ drop 0 (repeat (times - 1) line)
      by_times zero some = absurd (omega arith)
      by_times (suc n) some =
          let one_less : suc n - 1 ≡ n = omega arith in
          ap (λ (k : ℕ). drop k (line ++ repeat n line)) last ∙ drop-append_seam line (repeat n line) ∙ ap (λ (k : ℕ). repeat k line) (sym one_less)

  -- a byte more at the front of the buffer
  pub one_given : (buf left : List ℕ) (given : ℕ) → given < length buf → left ≡ take given buf ++ drop at (repeat times line) → left ≡ take (given + 1) (set buf given (get_or line at 0)) ++ drop (at + 1) (repeat times line)
  one_given buf left given room so_far =
      let byte = get_or line at 0 in
      let rest = drop (at + 1) (repeat times line) in
      so_far
      ∙ ap (λ (bytes : List ℕ). take given buf ++ bytes) next_byte
      ∙ sym (append_assoc (take given buf) (byte ∷ []) rest)
      ∙ ap (λ (bytes : List ℕ). bytes ++ rest) (sym (take-suc-set buf given byte room))
      ∙ ap (λ (n : ℕ). take n (set buf given byte) ++ rest) (sym (add-one given))

-- what a read of the front of a buffer takes
pub took : (old new sub rest : List ℕ) (n : ℕ) → n ≡ min (length sub) (length old) → old ≡ take n sub ++ new → (0 < length (sub ++ rest) → 0 < length sub) → Took old new (sub ++ rest) n
took old new sub rest n count given some = record {
  taken = rw (take-append-le n sub rest (omega arith)) given;
  ended = λ none room. nil_from_length old (omega (arith, some room));
}
