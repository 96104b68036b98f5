-- The bytes of a window, after a write past its end or a step of its start.
use Rattle.std.proofs.Common.{◌≡◌, ℕ, ◌+◌, ◌-◌, ◌≤◌, List, ◌++◌, length, take, drop, slice_range, refl, sym, ap, ◌∙◌, arith}
use Rattle.std.proofs.lemmas.List.{take_at, drop_at, take-append-le, drop-append-le, drop-take, drop-drop, length-take-le, length-drop}
use borrow.Rule.Slice.PartMut.{put_mid, post_of}
use lib.Seq.{take-add}

-- the first bytes of what was written past the end
pub grown : (bytes piece : List ℕ) (start end room count : ℕ) → start ≤ end → end ≤ length bytes → count ≤ length piece → slice_range (put_mid end room bytes piece) start (end + count) ≡ slice_range bytes start end ++ take count piece
grown bytes piece start end room count ordered within fits =
    let front = length-take-le end bytes within in
    let held = drop start (take end bytes) in
    let len : length held ≡ end - start = omega (arith, length-drop start (take end bytes)) in
    let sum : end + count - start ≡ (end - start) + count = omega arith in
    let parts : end ≡ start + (end - start) = omega arith in
    let same : held ≡ take (end - start) (drop start bytes) = ap (λ j. drop start (take j bytes)) parts ∙ drop-take start (end - start) bytes in
    let after = piece ++ post_of end room bytes in
    ap (take (end + count - start)) (drop-append-le start (take end bytes) after (omega arith))
    ∙ ap (λ j. take j (held ++ after)) sum ∙ take-add (end - start) count (held ++ after)
    ∙ (rw (take_at held after _ len, drop_at held after _ len, take-append-le count piece (post_of end room bytes) fits, same) refl)

pub consumed : (bytes : List ℕ) (start end count : ℕ) → start + count ≤ end → slice_range bytes (start + count) end ≡ drop count (slice_range bytes start end)
consumed bytes start end count inside =
    let parts : end - start ≡ count + (end - (start + count)) = omega arith in
    sym (ap (λ j. drop count (take j (drop start bytes))) parts ∙ drop-take count _ (drop start bytes)
    ∙ ap (take (end - (start + count))) (drop-drop count start bytes))
