-- The scan goes through full segments.
use Rattle.std.proofs.Common.{◌≡◌, ℕ, ◌+◌, ◌≤◌, Bool, true, false, ◌&&◌, cond, leb, eqb, List, [], ◌∷◌, ◌++◌, length, refl, sym, ap, ◌∙◌, append_assoc, arith}
use Rattle.std.proofs.lemmas.Bool.{and_from, le-leb, eq-eqb}
use Rattle.std.proofs.lemmas.List.{append-nil, length-append}
use Rattle.px_scan.specs.declared.segments.TheConstants.{SEGMENT_SIZE}
use Rattle.px_scan.specs.Scan.{frames, CanFrames, frames_of}
use Rattle.px_scan.specs.Segments.{is_full, scan_segments, segments, AreFull, all_of}
use Rattle.px_scan.proofs.Scans.{frames_of-frames}

abbrev nothing : List (List ℕ)
nothing = []

cond_same : (b : Bool) → cond b (nothing) nothing ≡ nothing
cond_same true = refl
cond_same false = refl

full_goes_on : (number : ℕ) (payloads : List (List ℕ)) (others : List (List ℕ)) → CanFrames number payloads → SEGMENT_SIZE ≤ length (frames number payloads) → scan_segments (frames number payloads ∷ others) number ≡ payloads ++ scan_segments others (number + length payloads)
unfolding scan_segments
full_goes_on number payloads others can long =
    let segment = frames number payloads in
    let test : (leb SEGMENT_SIZE (length segment) && eqb (length segment) (length segment)) ≡ true = and_from _ _ (le-leb SEGMENT_SIZE (length segment) long) (eq-eqb (length segment) (length segment) refl) in
    ap (λ (ps : List (List ℕ)). ps ++ cond (leb SEGMENT_SIZE (length segment) && eqb (length (frames number ps)) (length segment)) (scan_segments others (number + length ps)) []) (frames_of-frames number payloads can)
    ∙ ap (λ (b : Bool). payloads ++ cond b (scan_segments others (number + length payloads)) []) test

last_alone : (image : List ℕ) (number : ℕ) → scan_segments (image ∷ []) number ≡ frames_of image number
unfolding scan_segments
last_alone image number = ap (λ (ps : List (List ℕ)). frames_of image number ++ ps) (cond_same (is_full image number)) ∙ append-nil (frames_of image number)

pub full_then : (first : ℕ) (full : List (List (List ℕ))) (image : List ℕ) → AreFull first full → scan_segments (segments first full ++ image ∷ []) first ≡ all_of full ++ frames_of image (first + length (all_of full))
unfolding segments
full_then first [] image can = let e : first ≡ first + 0 = omega arith in last_alone image first ∙ ap (λ (n : ℕ). frames_of image n) e
full_then first (ps ∷ full) image can =
    let e : first + length ps + length (all_of full) ≡ first + length (ps ++ all_of full) = omega (arith, length-append ps (all_of full)) in
    full_goes_on first ps (segments (first + length ps) full ++ image ∷ []) can.0 can.1
    ∙ ap (λ (qs : List (List ℕ)). ps ++ qs) (full_then (first + length ps) full image can.2)
    ∙ sym (append_assoc ps (all_of full) (frames_of image (first + length ps + length (all_of full))))
    ∙ ap (λ (n : ℕ). (ps ++ all_of full) ++ frames_of image n) e
