use Rattle.std.proofs.Common.{◌≡◌, ◌⊎◌, ℕ, List, Err, sym, ◌∙◌, arith, length, inl, inr}
use Rattle.std.proofs.lemmas.Bool.{eqb-true, eqb-false, both_ways}
use Rattle.std.proofs.lemmas.Result.{err_from_is_err_and}
use Rattle.hex.specs.Hex.{decode_of}
use Rattle.hex.specs.declared.error.FromHexError.{FromHexError}
use Rattle.hex.specs.declared.error.FromHexError.TheVariants.{InvalidHexCharacter, OddLength, InvalidStringLength, OutOfMemory}
use Rattle.px_script.specs.Reads.{Reads, no_line_of}
use Rattle.px_script.specs.Words.{bytes_of}
use Rattle.px_script.proofs.HexWords.{bytes_of-empty, bytes_of-error, bytes_of-odd, bytes_of-other, bytes_of-read}
use Rattle.px_script.proofs.hexadecimal.bytes_of.Goals as goal
use Rattle.px_script.proofs.hexadecimal.bytes_of.Goals.{then-is_empty-via-then-is_empty, then-is_empty-via-else-is_empty+then-word-eq1, then-is_empty-via-else-is_empty+else-word-eq1+then-not-are_lower_digits}

pub returns-then-is_empty : goal.returns-then-is_empty
returns-then-is_empty c =
    elim c.then-is_empty.branch [
      | then-is_empty-via-then-is_empty w ↦
          bytes_of-empty c.args.word.now (eqb-true (length c.args.word.now) 0 (sym c.is_empty.ensures ∙ w.if-is_empty.true))
      | then-is_empty-via-else-is_empty+then-word-eq1 w ↦ bytes_of-odd c.args.word.now (omega arith)
      | then-is_empty-via-else-is_empty+else-word-eq1+then-not-are_lower_digits w ↦
          bytes_of-other c.args.word.now
          (λ lower. both_ways w.are_lower_digits.result w.if-not-are_lower_digits.true (w.are_lower_digits.ensures.1 lower))
    ]

-- want of memory, or text that isn't hexadecimal
refused : (word : List ℕ) (error : FromHexError) → (error ≡ OutOfMemory) ⊎ (decode_of word ≡ Err error) → Reads (bytes_of word) (Err (no_line_of error))
refused word OutOfMemory why = tt
refused word (InvalidHexCharacter c i) (inl short) = cc short
refused word (InvalidHexCharacter c i) (inr bad) = bytes_of-error word (InvalidHexCharacter c i) bad
refused word OddLength (inl short) = cc short
refused word OddLength (inr bad) = bytes_of-error word OddLength bad
refused word InvalidStringLength (inl short) = cc short
refused word InvalidStringLength (inr bad) = bytes_of-error word InvalidStringLength bad

pub returns-in_err-bytes : goal.returns-in_err-bytes
returns-in_err-bytes c =
    let p = err_from_is_err_and c.from_residual.result c.from_residual.ensures.1 in
    rw (p.1, p.2) (refused c.args.word.now c.in_err-bytes.field-0.0 c.in_err-bytes.ensures.err)

pub returns : goal.returns
returns c =
    let some = eqb-false (length c.args.word.now) 0 (sym c.is_empty.ensures ∙ c.if-is_empty.false) in
    rw c.from_vec.ensures
    (bytes_of-read c.args.word.now c.in_ok-bytes.bytes.items (omega (arith, some)) (c.are_lower_digits.ensures.0 c.if-not-are_lower_digits.false) c.in_ok-bytes.ensures.ok)
