-- What is scanned of the images of a log that only grew since its last sync.
use Rattle.std.proofs.Common.{◌≡◌, ℕ, zero, suc, ◌+◌, ◌≤◌, List, [], ◌∷◌, ◌++◌, length, take, drop, Option, Some, None, refl, sym, ap, subst, ◌∙◌, append_assoc, arith}
use Rattle.std.proofs.lemmas.List.{take-append-drop, length-append, length-take}
use Rattle.px_frame.specs.declared.frame.TheConstants.{HEADER_SIZE}
use Rattle.px_frame.specs.Frame.{frame, CanFrame, FrameAt, payload_at}
use Rattle.px_frame.proofs.Frames.{length-frame, written_again, one_payload, payload_at-found}
use Rattle.px_scan.specs.Scan.{frames, CanFrames, frames_of}
use Rattle.px_scan.specs.Crash.{written, appends, HasAt, IsPlainSince}
use Rattle.px_scan.proofs.Scans.{frames_of-end, frames_of-frame}
use Rattle.px_scan.proofs.Written.{frames-split, written-front, HasAt-longer, HasAt-behind}

-- ---- each frame that checks in the image, in a place where a scan reads it, this one content has there

abbrev pub Agrees : List ℕ → List ℕ → ℕ → Type 0
Agrees image content number =
    (before : List (List ℕ)) (payload rest : List ℕ) → CanFrames number before → image ≡ frames number before ++ rest → FrameAt rest (number + length before) payload
    → HasAt content (length (frames number before)) (frame (number + length before) payload)

agrees_since : (image synced : List ℕ) (number from : ℕ) (payloads : List (List ℕ)) → IsPlainSince image synced (appends (length synced) from payloads) number → Agrees image (synced ++ frames from payloads) number
agrees_since image synced number from payloads plain before payload rest can e at =
    let p = plain before payload rest can e at in
    let front = written synced (take p.0 (appends (length synced) from payloads)) in
    subst (λ (c : List ℕ). HasAt c (length (frames number before)) (frame (number + length before) payload)) (written-front synced from p.0 payloads)
    (HasAt-longer front (frames (from + length (take p.0 payloads)) (drop p.0 payloads)) (length (frames number before)) (number + length before) payload p.1)

-- behind a frame of both
agrees_behind : (number : ℕ) (p image content : List ℕ) → CanFrame number p → Agrees (frame number p ++ image) (frame number p ++ content) number → Agrees image content (number + 1)
unfolding frames
agrees_behind number p image content can_p agrees before payload rest can e at =
    let same : number + 1 + length before ≡ number + suc (length before) = omega arith in
    let f = frame (number + suc (length before)) payload in
    let front : frame number p ++ image ≡ frames number (p ∷ before) ++ rest = ap (λ (b : List ℕ). frame number p ++ b) e ∙ sym (append_assoc (frame number p) (frames (number + 1) before) rest) in
    let h = agrees (p ∷ before) payload rest (can_p, can) front (subst (λ (n : ℕ). FrameAt rest n payload) same at) in
    let at_place : HasAt (frame number p ++ content) (length (frame number p) + length (frames (number + 1) before)) f =
    subst (λ (n : ℕ). HasAt (frame number p ++ content) n f) (length-append (frame number p) (frames (number + 1) before)) h in
    subst (λ (n : ℕ). HasAt content (length (frames (number + 1) before)) (frame n payload)) (sym same) (HasAt-behind (frame number p) content (length (frames (number + 1) before)) f at_place)

-- a frame that checks at the front is the frame that the content has there
first_is : (number : ℕ) (p q image content : List ℕ) → CanFrame number p → Agrees image (frame number p ++ content) number → FrameAt image number q → q ≡ p
unfolding frames
first_is number p q image content can agrees at =
    let zero_more : number ≡ number + 0 = omega arith in
    let h = agrees [] q image tt refl (subst (λ (n : ℕ). FrameAt image n q) zero_more at) in
    let here : take (length (frame number q)) (frame number p ++ content) ≡ frame number q = subst (λ (n : ℕ). HasAt (frame number p ++ content) 0 (frame n q)) (sym zero_more) h in
    let front : frame number p ++ content ≡ frame number q ++ drop (HEADER_SIZE + length q) (frame number p ++ content) =
    sym (take-append-drop (length (frame number q)) (frame number p ++ content)) ∙ ap (λ (b : List ℕ). b ++ drop (length (frame number q)) (frame number p ++ content)) here ∙ ap (λ (n : ℕ). frame number q ++ drop n (frame number p ++ content)) (length-frame number q) in
    one_payload (frame number p ++ content) number number q p (record { can = at.can; front = front }) (written_again number p content can)

-- where nothing was written, nothing checks
none_written : (number : ℕ) (q image : List ℕ) → Agrees image [] number → ¬ FrameAt image number q
unfolding frames
none_written number q image agrees at =
    let zero_more : number ≡ number + 0 = omega arith in
    let empty : List ℕ = [] in
    let f = frame (number + 0) q in
    let h : take (length f) empty ≡ f = agrees [] q image tt refl (subst (λ (n : ℕ). FrameAt image n q) zero_more at) in
    absurd (omega (arith, ap length h, length-take (length f) empty, length-frame (number + 0) q))

-- ---- the scan of an image

pub record Recovers (image : List ℕ) (number durable : ℕ) (payloads : List (List ℕ)) : Type 0 where
  pub kept : ℕ
  pub at_least : durable ≤ kept
  pub at_most : kept ≤ length payloads
  pub scan : frames_of image number ≡ take kept payloads

recovers_none : (image : List ℕ) (number : ℕ) (payloads : List (List ℕ)) → payload_at image number ≡ None → Recovers image number 0 payloads
recovers_none image number payloads e = record { kept = 0; at_least = omega arith; at_most = omega arith; scan = frames_of-end image number e }

recovers_more : (image : List ℕ) (number durable : ℕ) (p : List ℕ) (ps : List (List ℕ)) → CanFrame number p → Recovers image (number + 1) durable ps → Recovers (frame number p ++ image) number (suc durable) (p ∷ ps)
recovers_more image number durable p ps can r = record {
  kept = suc r.kept;
  at_least = omega (arith, r.at_least);
  at_most = omega (arith, r.at_most);
  scan = frames_of-frame number p image can ∙ ap (λ (qs : List (List ℕ)). p ∷ qs) r.scan;
}

recovers_fewer : (image : List ℕ) (number m n : ℕ) (ps : List (List ℕ)) → m ≤ n → Recovers image number n ps → Recovers image number m ps
recovers_fewer image number m n ps le r = record { kept = r.kept; at_least = omega (arith, r.at_least); at_most = r.at_most; scan = r.scan }

-- of frames none of which need be there
recovers_some : (ps : List (List ℕ)) (number : ℕ) (image : List ℕ) (o : Option (List ℕ)) → payload_at image number ≡ o → CanFrames number ps → Agrees image (frames number ps) number → Recovers image number 0 ps
unfolding frames
recovers_some ps number image None e can agrees = recovers_none image number ps e
recovers_some [] number image (Some q) e can agrees = absurd (none_written number q image agrees (payload_at-found image number q e))
recovers_some (p ∷ ps) number image (Some q) e can agrees =
    let at = payload_at-found image number q e in
    let same = first_is number p q image (frames (number + 1) ps) can.0 agrees at in
    let rest = drop (HEADER_SIZE + length q) image in
    let front : image ≡ frame number p ++ rest = at.front ∙ ap (λ (x : List ℕ). frame number x ++ rest) same in
    let next = recovers_some ps (number + 1) rest (payload_at rest (number + 1)) refl can.1 (agrees_behind number p rest (frames (number + 1) ps) can.0 (subst (λ (b : List ℕ). Agrees b (frame number p ++ frames (number + 1) ps) number) front agrees)) in
    subst (λ (b : List ℕ). Recovers b number 0 (p ∷ ps)) (sym front) (recovers_fewer (frame number p ++ rest) number 0 1 (p ∷ ps) (omega arith) (recovers_more rest number 0 p ps can.0 next))

-- of frames the first of which are there
pub recovers : (ps : List (List ℕ)) (number durable : ℕ) (rest : List ℕ) → CanFrames number ps → durable ≤ length ps → Agrees (frames number (take durable ps) ++ rest) (frames number ps) number → Recovers (frames number (take durable ps) ++ rest) number durable ps
unfolding frames
recovers ps number zero rest can le agrees = recovers_some ps number rest (payload_at rest number) refl can agrees
recovers [] number (suc durable) rest can le agrees = absurd (omega arith)
recovers (p ∷ ps) number (suc durable) rest can le agrees =
    let tail = frames (number + 1) (take durable ps) ++ rest in
    let regroup : (frame number p ++ frames (number + 1) (take durable ps)) ++ rest ≡ frame number p ++ tail = append_assoc (frame number p) (frames (number + 1) (take durable ps)) rest in
    let next = recovers ps (number + 1) durable rest can.1 (omega arith) (agrees_behind number p tail (frames (number + 1) ps) can.0 (subst (λ (b : List ℕ). Agrees b (frame number p ++ frames (number + 1) ps) number) regroup agrees)) in
    subst (λ (b : List ℕ). Recovers b number (suc durable) (p ∷ ps)) (sym regroup) (recovers_more tail number durable p ps can.0 next)

pub survives : (number durable : ℕ) (payloads : List (List ℕ)) (image behind : List ℕ) → CanFrames number payloads → durable ≤ length payloads
    → image ≡ frames number (take durable payloads) ++ behind
    → IsPlainSince image (frames number (take durable payloads)) (appends (length (frames number (take durable payloads))) (number + durable) (drop durable payloads)) number
    → Recovers image number durable payloads
survives number durable payloads image behind can le parts plain =
    let synced = frames number (take durable payloads) in
    let agrees : Agrees image (frames number payloads) number =
    subst (λ (c : List ℕ). Agrees image c number) (frames-split number durable payloads le) (agrees_since image synced number (number + durable) (drop durable payloads) plain) in
    subst (λ (b : List ℕ). Recovers b number durable payloads) (sym parts) (recovers payloads number durable behind can le (subst (λ (b : List ℕ). Agrees b (frames number payloads) number) parts agrees))
