-- The content after frames were appended.
use Rattle.std.proofs.Common.{◌≡◌, ℕ, zero, suc, ◌+◌, ◌≤◌, List, [], ◌∷◌, ◌++◌, length, take, drop, fold, refl, sym, ap, ◌∙◌, append_assoc, arith}
use Rattle.std.proofs.lemmas.List.{append-nil, take_all, drop_all, take_at, drop_at, take-append-drop, take-append-le, drop-append-le, length-append, length-take, length-drop}
use Rattle.std.proofs.Math.Seq.{drop-append-add}
use Rattle.px_frame.specs.declared.frame.TheConstants.{HEADER_SIZE}
use Rattle.px_frame.specs.Frame.{frame}
use Rattle.px_frame.proofs.Frames.{length-frame}
use Rattle.px_scan.specs.Scan.{frames}
use Rattle.px_scan.specs.Crash.{overlay, written, appends, HasAt}

-- ---- frames in two parts

pub frames-append : (number : ℕ) (ps qs : List (List ℕ)) → frames number (ps ++ qs) ≡ frames number ps ++ frames (number + length ps) qs
unfolding frames
frames-append number [] qs = let e : number ≡ number + 0 = omega arith in ap (λ (n : ℕ). frames n qs) e
frames-append number (p ∷ ps) qs =
    let e : number + 1 + length ps ≡ number + suc (length ps) = omega arith in
    ap (λ (b : List ℕ). frame number p ++ b) (frames-append (number + 1) ps qs ∙ ap (λ (n : ℕ). frames (number + 1) ps ++ frames n qs) e)
    ∙ sym (append_assoc (frame number p) (frames (number + 1) ps) (frames (number + suc (length ps)) qs))

pub frames-one : (number : ℕ) (done : List (List ℕ)) (p : List ℕ) → frames number (done ++ p ∷ []) ≡ frames number done ++ frame (number + length done) p
unfolding frames
frames-one number done p = frames-append number done (p ∷ []) ∙ ap (λ (b : List ℕ). frames number done ++ b) (append-nil (frame (number + length done) p))

pub frames-split : (number durable : ℕ) (payloads : List (List ℕ)) → durable ≤ length payloads → frames number (take durable payloads) ++ frames (number + durable) (drop durable payloads) ≡ frames number payloads
frames-split number durable payloads le =
    let many : length (take durable payloads) ≡ durable = omega (arith, length-take durable payloads) in
    ap (λ (n : ℕ). frames number (take durable payloads) ++ frames (number + n) (drop durable payloads)) (sym many)
    ∙ sym (frames-append number (take durable payloads) (drop durable payloads))
    ∙ ap (λ (ps : List (List ℕ)). frames number ps) (take-append-drop durable payloads)

-- ---- writes

overlay_end : (content bytes : List ℕ) → overlay content (length content, bytes) ≡ content ++ bytes
overlay_end content bytes =
    ap (λ (b : List ℕ). b ++ (bytes ++ drop (length content + length bytes) content)) (take_all (length content) content (omega arith))
    ∙ ap (λ (b : List ℕ). content ++ (bytes ++ b)) (drop_all (length content + length bytes) content (omega arith))
    ∙ ap (λ (b : List ℕ). content ++ b) (append-nil bytes)

pub overlay_mid : (front old new behind : List ℕ) → length old ≡ length new → overlay (front ++ (old ++ behind)) (length front, new) ≡ front ++ (new ++ behind)
overlay_mid front old new behind same =
    let whole = front ++ (old ++ behind) in
    let tail : drop (length front + length new) whole ≡ behind = drop-append-add front (old ++ behind) (length new) ∙ drop_at old behind (length new) same in
    ap (λ (b : List ℕ). b ++ (new ++ drop (length front + length new) whole)) (take_at front (old ++ behind) (length front) refl) ∙ ap (λ (b : List ℕ). front ++ (new ++ b)) tail

written-appends : (content : List ℕ) (number : ℕ) (payloads : List (List ℕ)) → written content (appends (length content) number payloads) ≡ content ++ frames number payloads
unfolding frames appends
written-appends content number [] = sym (append-nil content)
written-appends content number (p ∷ ps) =
    ap (λ (b : List ℕ). fold overlay b (appends (length content + length (frame number p)) (number + 1) ps)) (overlay_end content (frame number p))
    ∙ ap (λ (n : ℕ). fold overlay (content ++ frame number p) (appends n (number + 1) ps)) (sym (length-append content (frame number p)))
    ∙ written-appends (content ++ frame number p) (number + 1) ps
    ∙ append_assoc content (frame number p) (frames (number + 1) ps)

take-appends : (count place number : ℕ) (payloads : List (List ℕ)) → take count (appends place number payloads) ≡ appends place number (take count payloads)
unfolding appends
take-appends zero place number payloads = refl
take-appends (suc count) place number [] = refl
take-appends (suc count) place number (p ∷ ps) = ap (λ (writes : List (ℕ × List ℕ)). (place, frame number p) ∷ writes) (take-appends count (place + length (frame number p)) (number + 1) ps)

-- the content after some of the writes is a front of that after all
pub written-front : (synced : List ℕ) (number count : ℕ) (payloads : List (List ℕ)) → written synced (take count (appends (length synced) number payloads)) ++ frames (number + length (take count payloads)) (drop count payloads) ≡ synced ++ frames number payloads
written-front synced number count payloads =
    ap (λ (writes : List (ℕ × List ℕ)). written synced writes ++ frames (number + length (take count payloads)) (drop count payloads)) (take-appends count (length synced) number payloads)
    ∙ ap (λ (b : List ℕ). b ++ frames (number + length (take count payloads)) (drop count payloads)) (written-appends synced number (take count payloads))
    ∙ append_assoc synced (frames number (take count payloads)) (frames (number + length (take count payloads)) (drop count payloads))
    ∙ ap (λ (b : List ℕ). synced ++ b) (sym (frames-append number (take count payloads) (drop count payloads)) ∙ ap (λ (ps : List (List ℕ)). frames number ps) (take-append-drop count payloads))

-- ---- bytes at a place

-- a frame that a front of the content has, the content has
pub HasAt-longer : (front more : List ℕ) (place number : ℕ) (payload : List ℕ) → HasAt front place (frame number payload) → HasAt (front ++ more) place (frame number payload)
HasAt-longer front more place number payload h =
    let f = frame number payload in
    let long : HEADER_SIZE + length payload ≤ length f = omega (arith, length-frame number payload) in
    let there : length f ≤ length (drop place front) = omega (arith, ap length h, length-take (length f) (drop place front)) in
    let within : place ≤ length front = omega (arith, length-drop place front) in
    ap (λ (b : List ℕ). take (length f) b) (drop-append-le place front more within) ∙ take-append-le (length f) (drop place front) more there ∙ h

pub HasAt-behind : (front content : List ℕ) (place : ℕ) (bytes : List ℕ) → HasAt (front ++ content) (length front + place) bytes → HasAt content place bytes
HasAt-behind front content place bytes h = ap (λ (b : List ℕ). take (length bytes) b) (sym (drop-append-add front content place)) ∙ h

-- the content has what stands there
pub HasAt-here : (front bytes behind : List ℕ) → HasAt (front ++ (bytes ++ behind)) (length front) bytes
HasAt-here front bytes behind = ap (λ (b : List ℕ). take (length bytes) b) (drop_at front (bytes ++ behind) (length front) refl) ∙ take_at bytes behind (length bytes) refl
