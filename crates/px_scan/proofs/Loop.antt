-- The loop of the scan.
use Rattle.std.proofs.Common.{◌≡◌, ℕ, ◌+◌, ◌≤◌, List, [], ◌∷◌, ◌++◌, length, drop, None, refl, sym, ap, ◌∙◌, append_assoc, arith}
use Rattle.std.proofs.lemmas.List.{append-nil, drop-drop, length-drop, length-append}
use Rattle.px_frame.specs.declared.frame.TheConstants.{HEADER_SIZE}
use Rattle.px_frame.specs.Frame.{frame, FrameAt, payload_at}
use Rattle.px_frame.proofs.Frames.{length-frame, frame_long, payload_at-again}
use Rattle.px_scan.specs.Scan.{frames, frames_of}
use Rattle.px_scan.proofs.Scans.{frames_of-end, frames_of-step}
use Rattle.px_scan.proofs.Written.{frames-one}

-- these payloads were read, and the next frame is looked for at that place with that number
pub record IsScanning (bytes : List ℕ) (number : ℕ) (done : List (List ℕ)) (stop next : ℕ) : Type 0 where
  pub within : stop ≤ length bytes
  pub front : bytes ≡ frames number done ++ drop stop bytes
  pub place : stop ≡ length (frames number done)
  pub numbered : next ≡ number + length done
  pub whole : done ++ frames_of (drop stop bytes) next ≡ frames_of bytes number

pub scan_begins : (bytes : List ℕ) (number : ℕ) → IsScanning bytes number [] 0 number
unfolding frames
scan_begins bytes number = record { within = omega arith; front = refl; place = refl; numbered = omega arith; whole = refl }

pub scan_goes_on : (bytes : List ℕ) (number : ℕ) (done : List (List ℕ)) (stop next : ℕ) (p : List ℕ) → IsScanning bytes number done stop next → FrameAt (drop stop bytes) next p → IsScanning bytes number (done ++ p ∷ []) (stop + (HEADER_SIZE + length p)) (next + 1)
scan_goes_on bytes number done stop next p s at =
    let size : HEADER_SIZE + length p ≤ length (drop stop bytes) = frame_long (drop stop bytes) next p at in
    let rest = drop (HEADER_SIZE + length p) (drop stop bytes) in
    let later : rest ≡ drop (stop + (HEADER_SIZE + length p)) bytes = drop-drop (HEADER_SIZE + length p) stop bytes in
    let one : frames number (done ++ p ∷ []) ≡ frames number done ++ frame next p = frames-one number done p ∙ ap (λ (n : ℕ). frames number done ++ frame n p) (sym s.numbered) in
    record {
      within = omega (arith, s.within, length-drop stop bytes);
      front =
          s.front
          ∙ ap (λ (b : List ℕ). frames number done ++ b) at.front
          ∙ sym (append_assoc (frames number done) (frame next p) rest)
          ∙ ap (λ (b : List ℕ). b ++ rest) (sym one)
          ∙ ap (λ (b : List ℕ). frames number (done ++ p ∷ []) ++ b) later;
      place = let e : length (frames number done ++ frame next p) ≡ stop + (HEADER_SIZE + length p) = omega (arith, length-append (frames number done) (frame next p), length-frame next p, s.place) in sym (ap length one ∙ e);
      numbered = omega (arith, s.numbered, length-append done (p ∷ []));
      whole =
          append_assoc done (p ∷ []) (frames_of (drop (stop + (HEADER_SIZE + length p)) bytes) (next + 1))
          ∙ ap (λ (b : List ℕ). done ++ (p ∷ frames_of b (next + 1))) (sym later)
          ∙ ap (λ (ps : List (List ℕ)). done ++ ps) (sym (frames_of-step (drop stop bytes) next p (payload_at-again (drop stop bytes) next p at)))
          ∙ s.whole;
    }

pub scan_ends : (bytes : List ℕ) (number : ℕ) (done : List (List ℕ)) (stop next : ℕ) → IsScanning bytes number done stop next → payload_at (drop stop bytes) next ≡ None → done ≡ frames_of bytes number
scan_ends bytes number done stop next s none = sym (append-nil done) ∙ ap (λ (ps : List (List ℕ)). done ++ ps) (sym (frames_of-end (drop stop bytes) next none)) ∙ s.whole
