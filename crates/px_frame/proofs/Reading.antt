-- The bytes behind a header fit it exactly where a frame checks.
use Rattle.std.proofs.Common.{◌≡◌, ℕ, ◌+◌, ◌-◌, ◌<◌, ◌≤◌, List, ◌++◌, length, take, drop, sym, ap, subst, ◌∙◌, arith}
use Rattle.std.specs.Prelude.{slice_range}
use Rattle.std.specs.Int.{w64, to_be_bytes}
use Rattle.std.proofs.lemmas.List.{take_at, drop-drop, take-append-drop, length-take, length-drop}
use Rattle.px_bytes.specs.Sum.{fnv_of}
use Rattle.px_bytes.proofs.Numbers.{one_u32, one_u64, fnv_of_fits}
use Rattle.px_frame.specs.declared.frame.TheConstants.{HEADER_SIZE}
use Rattle.px_bytes.specs.declared.limits.TheConstants.{NUMBER_LIMIT, LONGEST_PAYLOAD}
use Rattle.px_frame.specs.declared.header.TheConstants.{SUMMED_FROM}
use Rattle.px_frame.specs.declared.header.Header.{Header}
use Rattle.px_frame.specs.Frame.{summed, frame, FrameAt}
use Rattle.px_frame.specs.Header.{IsHeader, Checks}
use Rattle.px_frame.proofs.Frames.{header_text, frame-header_text, frame_long, spelled}

pub checks_frame : (bytes : List ℕ) (header : Header) (number : ℕ) → IsHeader bytes header → Checks bytes header number → FrameAt bytes number (take header.length (drop HEADER_SIZE bytes))
unfolding header_text
checks_frame bytes header number is_header checks =
    let payload = take header.length (drop HEADER_SIZE bytes) in
    let rest = drop (HEADER_SIZE + header.length) bytes in
    let there : HEADER_SIZE + header.length ≤ length bytes = checks.there in
    let long : length payload ≡ header.length = simp (length-take, length-drop) (omega arith) in
    let whole : drop HEADER_SIZE bytes ≡ payload ++ rest = sym (take-append-drop header.length (drop HEADER_SIZE bytes)) ∙ ap (λ (r : List ℕ). payload ++ r) (drop-drop header.length HEADER_SIZE bytes) in
    let second : drop SUMMED_FROM bytes ≡ summed header.number payload ++ rest = ap (λ (b : List ℕ). drop SUMMED_FROM b) is_header.front ∙ ap (λ (r : List ℕ). to_be_bytes w64 header.number ++ r) whole in
    let summed_part : slice_range bytes SUMMED_FROM (HEADER_SIZE + header.length) ≡ summed header.number payload =
    ap (λ (b : List ℕ). take (HEADER_SIZE + header.length - SUMMED_FROM) b) second ∙ take_at (summed header.number payload) rest (HEADER_SIZE + header.length - SUMMED_FROM) (omega (arith, long)) in
    let right : fnv_of (summed header.number payload) ≡ header.sum = ap fnv_of (sym summed_part) ∙ checks.right in
    let front : bytes ≡ frame header.number payload ++ rest =
    is_header.front
    ∙ ap (λ (r : List ℕ). header_text header.length header.sum header.number r) whole
    ∙ ap (λ (n : ℕ). header_text n header.sum header.number (payload ++ rest)) (sym long)
    ∙ ap (λ (s : ℕ). header_text (length payload) s header.number (payload ++ rest)) (sym right)
    ∙ sym (frame-header_text header.number payload rest) in
    record {
      can = record { numbered = checks.below; shortest = omega (arith, long, checks.shortest); longest = omega (arith, long, checks.longest) };
      front = subst (λ (n : ℕ). bytes ≡ frame n payload ++ drop (HEADER_SIZE + length payload) bytes) checks.same (subst (λ (k : ℕ). bytes ≡ frame header.number payload ++ drop (HEADER_SIZE + k) bytes) (sym long) front);
    }

pub frame_checks : (bytes : List ℕ) (header : Header) (number : ℕ) (payload : List ℕ) → IsHeader bytes header → FrameAt bytes number payload → Checks bytes header number
unfolding header_text
frame_checks bytes header number payload is_header at =
    let rest = drop (HEADER_SIZE + length payload) bytes in
    let numbered : number < NUMBER_LIMIT = at.can.numbered in
    let longest : length payload ≤ LONGEST_PAYLOAD = at.can.longest in
    let both : header_text header.length header.sum header.number (drop HEADER_SIZE bytes) ≡ header_text (length payload) (fnv_of (summed number payload)) number (payload ++ rest) = sym is_header.front ∙ spelled bytes number payload at in
    let lengths = one_u32 header.length (length payload) _ _ is_header.length_fits (omega arith) both in
    let sums = one_u32 header.sum (fnv_of (summed number payload)) _ _ is_header.sum_fits (fnv_of_fits (summed number payload)) lengths.1 in
    let numbers = one_u64 header.number number _ _ is_header.number_fits (omega arith) sums.1 in
    let second : drop SUMMED_FROM bytes ≡ summed number payload ++ rest = ap (λ (b : List ℕ). drop SUMMED_FROM b) (spelled bytes number payload at) in
    let summed_part : slice_range bytes SUMMED_FROM (HEADER_SIZE + header.length) ≡ summed number payload =
    ap (λ (b : List ℕ). take (HEADER_SIZE + header.length - SUMMED_FROM) b) second ∙ take_at (summed number payload) rest (HEADER_SIZE + header.length - SUMMED_FROM) (omega (arith, lengths.0)) in
    record {
      same = numbers.0;
      below = numbered;
      shortest = omega (arith, lengths.0, at.can.shortest);
      longest = omega (arith, lengths.0);
      there = omega (arith, lengths.0, frame_long bytes number payload at);
      right = ap fnv_of summed_part ∙ sym sums.0;
    }
