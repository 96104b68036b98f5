-- The frames of bytes, one by one.
use Rattle.std.proofs.Common.{◌≡◌, ℕ, zero, suc, ◌+◌, ◌-◌, ◌≤◌, List, [], ◌∷◌, ◌++◌, length, drop, Option, Some, None, refl, sym, ap, subst, ◌∙◌, append_assoc, arith}
use Rattle.std.specs.Option.{option_map_or}
use Rattle.std.proofs.lemmas.List.{append-nil, drop_at, length-drop}
use Rattle.px_frame.specs.declared.frame.TheConstants.{HEADER_SIZE}
use Rattle.px_frame.specs.Frame.{frame, CanFrame, FrameAt, payload_at}
use Rattle.px_frame.proofs.Frames.{length-frame, frame_long, written_again, payload_at-found, payload_at-again}
use Rattle.px_scan.specs.Scan.{frames, CanFrames, frames_within, frames_of}

-- ---- the fuel doesn't matter

within-some : (most : ℕ) (bytes : List ℕ) (number : ℕ) (payload : List ℕ) → payload_at bytes number ≡ Some payload → frames_within (suc most) bytes number ≡ payload ∷ frames_within most (drop (HEADER_SIZE + length payload) bytes) (number + 1)
unfolding frames_within
within-some most bytes number payload e = ap (λ (o : Option (List ℕ)). option_map_or (λ p. p ∷ frames_within most (drop (HEADER_SIZE + length p) bytes) (number + 1)) o []) e

within-none : (most : ℕ) (bytes : List ℕ) (number : ℕ) → payload_at bytes number ≡ None → frames_within most bytes number ≡ []
unfolding frames_within
within-none zero bytes number e = refl
within-none (suc most) bytes number e = ap (λ (o : Option (List ℕ)). option_map_or (λ p. p ∷ frames_within most (drop (HEADER_SIZE + length p) bytes) (number + 1)) o []) e

-- a frame that is found has its bytes
pub found_long : (bytes : List ℕ) (number : ℕ) (payload : List ℕ) → payload_at bytes number ≡ Some payload → HEADER_SIZE + length payload ≤ length bytes
found_long bytes number payload e = frame_long bytes number payload (payload_at-found bytes number payload e)

enough : (m n : ℕ) (bytes : List ℕ) (number : ℕ) (o : Option (List ℕ)) → payload_at bytes number ≡ o → length bytes ≤ m → length bytes ≤ n → frames_within m bytes number ≡ frames_within n bytes number
enough m n bytes number None e le_m le_n = within-none m bytes number e ∙ sym (within-none n bytes number e)
enough zero n bytes number (Some p) e le_m le_n = absurd (omega (arith, found_long bytes number p e))
enough (suc m) zero bytes number (Some p) e le_m le_n = absurd (omega (arith, found_long bytes number p e))
enough (suc m) (suc n) bytes number (Some p) e le_m le_n =
    let rest = drop (HEADER_SIZE + length p) bytes in
    let shorter : length rest + HEADER_SIZE ≤ length bytes = omega (arith, length-drop (HEADER_SIZE + length p) bytes, found_long bytes number p e) in
    within-some m bytes number p e ∙ ap (λ (ps : List (List ℕ)). p ∷ ps) (enough m n rest (number + 1) (payload_at rest (number + 1)) refl (omega arith) (omega arith)) ∙ sym (within-some n bytes number p e)

-- ---- the frames of bytes: none, or the first and those of the rest

pub frames_of-end : (bytes : List ℕ) (number : ℕ) → payload_at bytes number ≡ None → frames_of bytes number ≡ []
unfolding frames_of
frames_of-end bytes number e = within-none (length bytes) bytes number e

pub frames_of-step : (bytes : List ℕ) (number : ℕ) (payload : List ℕ) → payload_at bytes number ≡ Some payload → frames_of bytes number ≡ payload ∷ frames_of (drop (HEADER_SIZE + length payload) bytes) (number + 1)
unfolding frames_of
frames_of-step bytes number payload e =
    let rest = drop (HEADER_SIZE + length payload) bytes in
    let long = found_long bytes number payload e in
    let some : length bytes ≡ suc (length bytes - 1) = omega arith in
    ap (λ (most : ℕ). frames_within most bytes number) some
    ∙ within-some (length bytes - 1) bytes number payload e
    ∙ ap (λ (ps : List (List ℕ)). payload ∷ ps) (enough (length bytes - 1) (length rest) rest (number + 1) (payload_at rest (number + 1)) refl (omega (arith, length-drop (HEADER_SIZE + length payload) bytes)) (omega arith))

-- ---- frames that were written

pub payload_at-frame : (number : ℕ) (payload rest : List ℕ) → CanFrame number payload → payload_at (frame number payload ++ rest) number ≡ Some payload
payload_at-frame number payload rest can = payload_at-again (frame number payload ++ rest) number payload (written_again number payload rest can)

pub frames_of-frame : (number : ℕ) (payload rest : List ℕ) → CanFrame number payload → frames_of (frame number payload ++ rest) number ≡ payload ∷ frames_of rest (number + 1)
frames_of-frame number payload rest can =
    frames_of-step (frame number payload ++ rest) number payload (payload_at-frame number payload rest can)
    ∙ ap (λ (r : List ℕ). payload ∷ frames_of r (number + 1)) (drop_at (frame number payload) rest (HEADER_SIZE + length payload) (length-frame number payload))

pub scanned_again : (number : ℕ) (payloads : List (List ℕ)) (rest : List ℕ) → CanFrames number payloads → frames_of (frames number payloads ++ rest) number ≡ payloads ++ frames_of rest (number + length payloads)
unfolding frames
scanned_again number [] rest can = let e : number ≡ number + 0 = omega arith in ap (λ (n : ℕ). frames_of rest n) e
scanned_again number (p ∷ ps) rest can =
    let e : number + 1 + length ps ≡ number + suc (length ps) = omega arith in
    ap (λ (b : List ℕ). frames_of b number) (append_assoc (frame number p) (frames (number + 1) ps) rest)
    ∙ frames_of-frame number p (frames (number + 1) ps ++ rest) can.0
    ∙ ap (λ (qs : List (List ℕ)). p ∷ qs) (scanned_again (number + 1) ps rest can.1 ∙ ap (λ (n : ℕ). ps ++ frames_of rest n) e)

-- ---- the scan is the longest

-- what is scanned stands at the front, and no frame checks behind it
pub record IsScan (bytes : List ℕ) (number : ℕ) (payloads : List (List ℕ)) (rest : List ℕ) : Type 0 where
  pub front : bytes ≡ frames number payloads ++ rest
  pub can : CanFrames number payloads
  pub ends : payload_at rest (number + length payloads) ≡ None

pub IsScan-end : (bytes : List ℕ) (number : ℕ) → payload_at bytes number ≡ None → IsScan bytes number [] bytes
unfolding frames
IsScan-end bytes number e = let same : number ≡ number + 0 = omega arith in record { front = refl; can = tt; ends = subst (λ (n : ℕ). payload_at bytes n ≡ None) same e }

pub IsScan-step : (bytes : List ℕ) (number : ℕ) (payload : List ℕ) (payloads : List (List ℕ)) (rest : List ℕ) → FrameAt bytes number payload → IsScan (drop (HEADER_SIZE + length payload) bytes) (number + 1) payloads rest → IsScan bytes number (payload ∷ payloads) rest
unfolding frames
IsScan-step bytes number payload payloads rest at s =
    let same : number + 1 + length payloads ≡ number + suc (length payloads) = omega arith in
    record {
      front = at.front ∙ ap (λ (r : List ℕ). frame number payload ++ r) s.front ∙ sym (append_assoc (frame number payload) (frames (number + 1) payloads) rest);
      can = (at.can, s.can);
      ends = subst (λ (n : ℕ). payload_at rest n ≡ None) same s.ends;
    }

pub scan_within : (most : ℕ) (bytes : List ℕ) (number : ℕ) (o : Option (List ℕ)) → payload_at bytes number ≡ o → length bytes ≤ most → (rest : List ℕ) × IsScan bytes number (frames_of bytes number) rest
scan_within most bytes number None e le = (bytes, subst (λ (ps : List (List ℕ)). IsScan bytes number ps bytes) (sym (frames_of-end bytes number e)) (IsScan-end bytes number e))
scan_within zero bytes number (Some p) e le = absurd (omega (arith, found_long bytes number p e))
scan_within (suc most) bytes number (Some p) e le =
    let next = drop (HEADER_SIZE + length p) bytes in
    let shorter : length next ≤ most = omega (arith, length-drop (HEADER_SIZE + length p) bytes, found_long bytes number p e) in
    let s = scan_within most next (number + 1) (payload_at next (number + 1)) refl shorter in
    (s.0, subst (λ (ps : List (List ℕ)). IsScan bytes number ps s.0) (sym (frames_of-step bytes number p e)) (IsScan-step bytes number p (frames_of next (number + 1)) s.0 (payload_at-found bytes number p e) s.1))

pub is_scan : (bytes : List ℕ) (number : ℕ) → (rest : List ℕ) × IsScan bytes number (frames_of bytes number) rest
is_scan bytes number = scan_within (length bytes) bytes number (payload_at bytes number) refl (omega arith)

-- no frame checks where there is none
pub nothing_at : (bytes : List ℕ) (number : ℕ) (payload : List ℕ) → payload_at bytes number ≡ None → FrameAt bytes number payload → ⊥
nothing_at bytes number payload none at = let some : payload_at bytes number ≡ Some payload = payload_at-again bytes number payload at in absurd cc

-- ---- frames with nothing behind them

empty_none : (number : ℕ) → payload_at [] number ≡ None
empty_none number = by_answer (payload_at [] number) refl
  where
    by_answer : (o : Option (List ℕ)) → payload_at [] number ≡ o → o ≡ None
    by_answer None e = refl
    by_answer (Some p) e = absurd (omega (arith, found_long [] number p e))

pub frames_of-frames : (number : ℕ) (payloads : List (List ℕ)) → CanFrames number payloads → frames_of (frames number payloads) number ≡ payloads
frames_of-frames number payloads can =
    ap (λ (b : List ℕ). frames_of b number) (sym (append-nil (frames number payloads)))
    ∙ scanned_again number payloads [] can
    ∙ ap (λ (ps : List (List ℕ)). payloads ++ ps) (frames_of-end [] (number + length payloads) (empty_none (number + length payloads)))
    ∙ append-nil payloads
