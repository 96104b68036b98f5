-- What is scanned of a log that was cut.
use Rattle.std.proofs.Common.{◌≡◌, ℕ, zero, suc, ◌+◌, List, [], ◌∷◌, ◌++◌, length, take, drop, None, refl, sym, ap, subst, ◌∙◌}
use Rattle.std.proofs.lemmas.List.{append-nil, drop_at, take-append-drop}
use Rattle.px_frame.specs.declared.frame.TheConstants.{HEADER_SIZE}
use Rattle.px_frame.specs.Frame.{frame, FrameAt, payload_at}
use Rattle.px_frame.proofs.Frames.{length-frame, payload_at-none}
use Rattle.px_scan.specs.Scan.{frames, CanFrames, frames_of}
use Rattle.px_scan.specs.Crash.{overlay, written, HasAt, IsPlainSince}
use Rattle.px_scan.proofs.Scans.{frames_of-end, frames_of-frames, scanned_again}
use Rattle.px_scan.proofs.Written.{overlay_mid, HasAt-here}

-- ---- the tail stays away

no_writes : (synced : List ℕ) (count : ℕ) → written synced (take {A = ℕ × List ℕ} count []) ≡ synced
no_writes synced zero = refl
no_writes synced (suc count) = refl

-- what checks behind the frames, the synced tail has at its front
tail_has : (number : ℕ) (payloads : List (List ℕ)) (tail image behind : List ℕ) → CanFrames number payloads → image ≡ frames number payloads ++ behind → IsPlainSince image (frames number payloads ++ tail) [] number
    → (q : List ℕ) → FrameAt behind (number + length payloads) q → FrameAt tail (number + length payloads) q
tail_has number payloads tail image behind can e plain q at =
    let n = number + length payloads in
    let p = plain payloads q behind can e at in
    let h : HasAt (frames number payloads ++ tail) (length (frames number payloads)) (frame n q) =
    subst (λ (c : List ℕ). HasAt c (length (frames number payloads)) (frame n q)) (no_writes (frames number payloads ++ tail) p.0) p.1 in
    let here : take (length (frame n q)) tail ≡ frame n q = ap (λ (b : List ℕ). take (length (frame n q)) b) (sym (drop_at (frames number payloads) tail (length (frames number payloads)) refl)) ∙ h in
    record {
      can = at.can;
      front = sym (take-append-drop (length (frame n q)) tail) ∙ ap (λ (b : List ℕ). b ++ drop (length (frame n q)) tail) here ∙ ap (λ (k : ℕ). frame n q ++ drop k tail) (length-frame n q);
    }

pub cut_stays : (number : ℕ) (payloads : List (List ℕ)) (tail image behind : List ℕ) → CanFrames number payloads → ((payload : List ℕ) → ¬ FrameAt tail (number + length payloads) payload)
    → image ≡ frames number payloads ++ behind → IsPlainSince image (frames number payloads ++ tail) [] number → frames_of image number ≡ payloads
cut_stays number payloads tail image behind can none e plain =
    let n = number + length payloads in
    let no_frame : payload_at behind n ≡ None = payload_at-none behind n (λ q at. none q (tail_has number payloads tail image behind can e plain q at)) in
    ap (λ (b : List ℕ). frames_of b number) e
    ∙ scanned_again number payloads behind can
    ∙ ap (λ (qs : List (List ℕ)). payloads ++ qs) (frames_of-end behind n no_frame)
    ∙ append-nil payloads

-- ---- why a cut is synced

-- the content as it was written is plain
pub written_plain : (synced : List ℕ) (write : ℕ × List ℕ) (number : ℕ) → IsPlainSince (overlay synced write) synced (write ∷ []) number
written_plain synced write number before payload rest can e at =
    let f = frame (number + length before) payload in
    let spelled : overlay synced write ≡ frames number before ++ (f ++ drop (HEADER_SIZE + length payload) rest) = e ∙ ap (λ (b : List ℕ). frames number before ++ b) at.front in
    (1, subst (λ (b : List ℕ). HasAt b (length (frames number before)) f) (sym spelled) (HasAt-here (frames number before) f (drop (HEADER_SIZE + length payload) rest)))

pub comes_back : (number : ℕ) (a b c torn : List ℕ) → CanFrames number (a ∷ b ∷ c ∷ []) → length torn ≡ length (frame (number + 1) b)
    → frames_of (overlay (frame number a ++ (torn ++ frame (number + 1 + 1) c)) (length (frame number a), frame (number + 1) b)) number ≡ a ∷ b ∷ c ∷ []
unfolding frames
comes_back number a b c torn can same =
    let f = frame (number + 1 + 1) c in
    let spelled : frame number a ++ (frame (number + 1) b ++ f) ≡ frames number (a ∷ b ∷ c ∷ []) = ap (λ (x : List ℕ). frame number a ++ (frame (number + 1) b ++ x)) (sym (append-nil f)) in
    ap (λ (x : List ℕ). frames_of x number) (overlay_mid (frame number a) torn (frame (number + 1) b) f same ∙ spelled) ∙ frames_of-frames number (a ∷ b ∷ c ∷ []) can
