-- A log that is cut where its scan stopped: until the cut is synced, a crash may leave any tail, and what it leaves is
-- read as what a crash before the cut could have left.
use Rattle.std.proofs.Common.{◌≡◌, ℕ, zero, suc, ◌+◌, ◌-◌, ◌<◌, ◌≤◌, Bool, false, ◌||◌, nat_le, List, ◌∷◌, ◌++◌, length, take, drop, get_or, Option, Some, None, refl, sym, ap, subst, ◌∙◌, append_assoc, inl, inr, arith, length-append, length-take, length-drop}
use Rattle.std.specs.List.{AllByRecursion}
use Rattle.std.proofs.lemmas.Bool.{cases_lt}
use Rattle.std.proofs.lemmas.Bool.Decides.{nat_tests}
use Rattle.std.proofs.lemmas.Grind.{same_number_lists}
use Rattle.std.proofs.lemmas.List.{append-nil, drop_at, take-append-drop, get_or-take, get_or-drop, get_or_append_left}
use Rattle.px_site.specs.Disk.{Cut, FileState, IsImage, pending_more, overlaid, touched}
use Rattle.px_frame.specs.Frame.{frame, FrameAt, payload_at}
use Rattle.px_frame.proofs.Frames.{length-frame, payload_at-found}
use Rattle.px_scan.specs.Scan.{frames, frames_of}
use Rattle.px_scan.proofs.Scans.{is_scan, scanned_again, frames_of-end, frames_of-step, frames_of-frames, nothing_at}
use Rattle.px_scan.proofs.Written.{frames-append}
use Rattle.px_xlog.specs.Written.{HasAt, IsPlainLog, IsBehind, WasWritten}
use Rattle.px_log.specs.Log.{ReadsAsBefore}
use Rattle.px_log.proofs.Growing.{behind_untouched, behind_least, behind_earlier, image_front, overlaid_kept}

-- ---- bytes by their places

has_point : (content : List ℕ) (place : ℕ) (bytes : List ℕ) (k : ℕ) → HasAt content place bytes → k < length bytes → get_or content (place + k) 0 ≡ get_or bytes k 0
has_point content place bytes k has below =
    sym (get_or-drop place content k 0) ∙ sym (get_or-take (length bytes) (drop place content) k 0 below) ∙ ap (λ (l : List ℕ). get_or l k 0) has

front_point : (bytes front rest : List ℕ) (k : ℕ) → bytes ≡ front ++ rest → k < length front → get_or bytes k 0 ≡ get_or front k 0
front_point bytes front rest k e below = ap (λ (l : List ℕ). get_or l k 0) e ∙ get_or_append_left front rest 0 k below

-- ---- what a change leaves of the premises

-- a cut is no write
written_before : (file : FileState) (len place : ℕ) (bytes : List ℕ) → WasWritten (pending_more (Cut len) file) place bytes → WasWritten file place bytes
written_before file len place bytes was = by_later was.0 was.1
  where
    by_later : (later : ℕ) → HasAt (overlaid file.synced (drop later (Cut len ∷ file.pending))) place bytes → WasWritten file place bytes
    by_later zero has = (0, has)
    by_later (suc later) has = (later, has)

pub plain_before : (file : FileState) (len : ℕ) (image : List ℕ) → IsPlainLog (pending_more (Cut len) file) image → IsPlainLog file image
plain_before file len image plain before payload rest can e at = written_before file len (length (frames 0 before)) (frame (length before) payload) (plain before payload rest can e at)

-- a front of an image that ends with a frame is plain where the image is
plain_front : (file : FileState) (image front more : List ℕ) → image ≡ front ++ more → IsPlainLog file image → IsPlainLog file front
plain_front file image front more e plain before payload rest can front_is at =
    let size = 16 + length payload in
    let text = frame (length before) payload in
    let whole : image ≡ frames 0 before ++ (rest ++ more) = e ∙ ap (λ (b : List ℕ). b ++ more) front_is ∙ append_assoc (frames 0 before) rest more in
    let spelled : rest ++ more ≡ text ++ (drop size rest ++ more) = ap (λ (b : List ℕ). b ++ more) at.front ∙ append_assoc text (drop size rest) more in
    let left : drop size (rest ++ more) ≡ drop size rest ++ more = ap (drop size) spelled ∙ drop_at text (drop size rest ++ more) size (length-frame (length before) payload) in
    plain before payload (rest ++ more) can whole (record { can = at.can; front = spelled ∙ ap (λ (b : List ℕ). text ++ b) (sym left) })

-- where the cut is past what was synced, its images are those before it
not_touched : (len at : ℕ) → at < len → nat_le len at ≡ false
not_touched len at below = grind (arith, nat_tests)

both_false : (x y : Bool) → x ≡ false → y ≡ false → (x || y) ≡ false
both_false x y e f = rw (e, f)

image_past : (file : FileState) (len : ℕ) (image : List ℕ) → AllByRecursion (IsBehind file.synced) file.pending → length file.synced ≤ len → IsImage (pending_more (Cut len) file) image → IsImage file image
image_past file len image behind past is_image = record {
  no_shorter = omega (arith, is_image.no_shorter, behind_least file.synced file.pending behind);
  no_longer = is_image.no_longer;
  kept = λ at below within untouched. is_image.kept at below within (both_false (nat_le len at) (touched file.pending at) (not_touched len at (omega arith)) untouched);
}

-- ---- a cut within what was synced

-- the premises of a cut where the scan stopped
pub record IsCut (file : FileState) (content : List ℕ) (len : ℕ) : Type 0 where
  pub behind : AllByRecursion (IsBehind file.synced) file.pending
  pub reads : IsImage file content
  pub plain : IsPlainLog file content
  pub here : len ≡ length (frames 0 (frames_of content 0))

-- the cut's image has the scanned frames, and something behind them
record HasScanned (content image rest : List ℕ) : Type 0 where
  front : image ≡ frames 0 (frames_of content 0) ++ rest

scanned_point : (file : FileState) (content : List ℕ) (len at : ℕ) → IsCut file content len → at < len → at < length file.synced → get_or (frames 0 (frames_of content 0)) at 0 ≡ get_or file.synced at 0
scanned_point file content len at cut below within =
    let scan = is_scan content 0 in
    let front : at < length (frames 0 (frames_of content 0)) = omega (arith, cut.here) in
    let synced = image_front file content cut.behind cut.reads in
    sym (front_point content (frames 0 (frames_of content 0)) scan.0 at scan.1.front front)
    ∙ sym (get_or-take (length file.synced) content at 0 within)
    ∙ ap (λ (l : List ℕ). get_or l at 0) synced

cut_point : (file : FileState) (len : ℕ) (image : List ℕ) (at : ℕ) → AllByRecursion (IsBehind file.synced) file.pending → IsImage (pending_more (Cut len) file) image → at < len → at < length file.synced → at < length image → get_or image at 0 ≡ get_or file.synced at 0
cut_point file len image at behind is_image below within there =
    is_image.kept at within there (both_false (nat_le len at) (touched file.pending at) (not_touched len at below) (behind_untouched file.synced file.pending at behind within))

has_scanned : (file : FileState) (content : List ℕ) (len : ℕ) (image : List ℕ) → IsCut file content len → len < length file.synced → IsImage (pending_more (Cut len) file) image → HasScanned content image (drop len image)
has_scanned file content len image cut within is_image =
    let text = frames 0 (frames_of content 0) in
    let long : len ≤ length image = omega (arith, is_image.no_shorter, behind_least file.synced file.pending cut.behind) in
    let size : length (take len image) ≡ length text = omega (arith, length-take len image, cut.here) in
    let same : take len image ≡ text = same_number_lists (take len image) text size (λ k inside.
    let below : k < len = omega (arith, size, inside, cut.here) in
    let synced : k < length file.synced = omega arith in
    get_or-take len image k 0 below ∙ cut_point file len image k cut.behind is_image below synced (omega arith) ∙ sym (scanned_point file content len k cut below synced)) in
    record { front = sym (take-append-drop len image) ∙ ap (λ (b : List ℕ). b ++ drop len image) same }

-- a frame that checks behind them was written there, and what was synced has as much of it as there is place for
behind_point : (file : FileState) (len : ℕ) (text : List ℕ) (k : ℕ) → AllByRecursion (IsBehind file.synced) file.pending → WasWritten file len text → k < length text → len + k < length file.synced → get_or file.synced (len + k) 0 ≡ get_or text k 0
behind_point file len text k behind was below within =
    sym (overlaid_kept file.synced (drop was.0 file.pending) (len + k) (behind_earlier file.synced file.pending was.0 behind) within)
    ∙ has_point (overlaid file.synced (drop was.0 file.pending)) len text k was.1 below

-- so none lies within what was synced: the scan of the content would have gone on
none_within : (file : FileState) (content : List ℕ) (len : ℕ) (payload : List ℕ) (rest : List ℕ) → IsCut file content len → FrameAt rest (0 + length (frames_of content 0)) payload
    → WasWritten file len (frame (0 + length (frames_of content 0)) payload) → len + length (frame (0 + length (frames_of content 0)) payload) ≤ length file.synced → ⊥
none_within file content len payload rest cut at was fits =
    let number = 0 + length (frames_of content 0) in
    let text = frame number payload in
    let scan = is_scan content 0 in
    let synced = image_front file content cut.behind cut.reads in
    let long : length file.synced ≤ length content = omega (arith, ap length synced, length-take (length file.synced) content) in
    let left : drop len content ≡ scan.0 = ap (drop len) scan.1.front ∙ drop_at (frames 0 (frames_of content 0)) scan.0 len (sym cut.here) in
    let size : length (take (length text) scan.0) ≡ length text = omega (arith, length-take (length text) scan.0, ap length left, length-drop len content) in
    let first : take (length text) scan.0 ≡ text = same_number_lists (take (length text) scan.0) text size (λ k inside.
    let below : k < length text = omega (arith, size, inside) in
    let within : len + k < length file.synced = omega arith in
    get_or-take (length text) scan.0 k 0 below
    ∙ ap (λ (l : List ℕ). get_or l k 0) (sym left)
    ∙ get_or-drop len content k 0
    ∙ sym (get_or-take (length file.synced) content (len + k) 0 within)
    ∙ ap (λ (l : List ℕ). get_or l (len + k) 0) synced
    ∙ behind_point file len text k cut.behind was below within) in
    let sized : length text ≡ 16 + length payload = length-frame number payload in
    let stands : FrameAt scan.0 number payload = record {
      can = at.can;
      front = sym (take-append-drop (length text) scan.0) ∙ ap (λ (b : List ℕ). b ++ drop (length text) scan.0) first ∙ ap (λ (n : ℕ). text ++ drop n scan.0) sized;
    } in
    nothing_at scan.0 number payload scan.1.ends stands

-- one that goes past it makes an image by itself: all that is scanned of the cut's image
record Longer (file : FileState) (image : List ℕ) : Type 0 where
  past : length file.synced ≤ length (frames 0 (frames_of image 0))
  kept : (at : ℕ) → at < length file.synced → get_or (frames 0 (frames_of image 0)) at 0 ≡ get_or file.synced at 0

scanned_image : (file : FileState) (len : ℕ) (image : List ℕ) → IsImage (pending_more (Cut len) file) image → AllByRecursion (IsBehind file.synced) file.pending → Longer file image → IsImage file (frames 0 (frames_of image 0))
scanned_image file len image is_image behind longer =
    let scan = is_scan image 0 in
    record {
      no_shorter = omega (arith, behind_least file.synced file.pending behind, longer.past);
      no_longer = omega (arith, is_image.no_longer, ap length scan.1.front, length-append (frames 0 (frames_of image 0)) scan.0);
      kept = λ at below within untouched. longer.kept at below;
    }

one_more : (number : ℕ) (payload : List ℕ) (more : List (List ℕ)) → frames number (payload ∷ more) ≡ frame number payload ++ frames (number + 1) more
unfolding frames
one_more number payload more = refl

longer_by : (file : FileState) (content : List ℕ) (len : ℕ) (image : List ℕ) (payload : List ℕ) (more : List (List ℕ)) → IsCut file content len → HasScanned content image (drop len image) → WasWritten file len (frame (0 + length (frames_of content 0)) payload)
    → length file.synced < len + length (frame (0 + length (frames_of content 0)) payload) → frames_of image 0 ≡ frames_of content 0 ++ payload ∷ more → Longer file image
longer_by file content len image payload more cut has was past e =
    let ps = frames_of content 0 in
    let number = 0 + length ps in
    let text = frame number payload in
    let front = frames 0 ps in
    let tail = frames (number + 1) more in
    let spelled : frames 0 (frames_of image 0) ≡ front ++ (text ++ tail) = ap (frames 0) e ∙ frames-append 0 ps (payload ∷ more) ∙ ap (λ (b : List ℕ). front ++ b) (one_more number payload more) in
    record {
      past = omega (arith, ap length spelled, length-append front (text ++ tail), length-append text tail, cut.here);
      kept = λ at below. elim (cases_lt at len) [
        | inl before ↦
            let within : at < length front = omega (arith, before, cut.here) in
            front_point (frames 0 (frames_of image 0)) front (text ++ tail) at spelled within ∙ scanned_point file content len at cut before below
        | inr later ↦
            let k = at - len in
            let there : len + k ≡ at = omega (arith, later) in
            let inside : k < length text = omega (arith, later) in
            let left : drop len (frames 0 (frames_of image 0)) ≡ text ++ tail = ap (drop len) spelled ∙ drop_at front (text ++ tail) len (sym cut.here) in
            ap (λ (i : ℕ). get_or (frames 0 (frames_of image 0)) i 0) (sym there)
            ∙ sym (get_or-drop len (frames 0 (frames_of image 0)) k 0)
            ∙ front_point (drop len (frames 0 (frames_of image 0))) text tail k left inside
            ∙ sym (behind_point file len text k cut.behind was inside (omega (arith, there)))
            ∙ ap (λ (i : ℕ). get_or file.synced i 0) there
      ];
    }

-- ---- the cut, as a whole

others : (file : FileState) (content : List ℕ) (len : ℕ) (image : List ℕ) → IsCut file content len → IsImage (pending_more (Cut len) file) image → IsPlainLog (pending_more (Cut len) file) image
    → (other : List ℕ) × IsImage file other × IsPlainLog file other × (frames_of image 0 ≡ frames_of other 0)
others file content len image cut is_image plain = elim (cases_lt len (length file.synced)) [
  | inl within ↦ inside within (payload_at (drop len image) (0 + length (frames_of content 0))) refl
  | inr past ↦ (image, image_past file len image cut.behind past is_image, plain_before file len image plain, refl)
]
  where
    number : ℕ
    number = 0 + length (frames_of content 0)

    on : len < length file.synced → frames_of image 0 ≡ frames_of content 0 ++ frames_of (drop len image) number
    on within =
        ap (λ (b : List ℕ). frames_of b 0) (has_scanned file content len image cut within is_image).front
        ∙ scanned_again 0 (frames_of content 0) (drop len image) (is_scan content 0).1.can

    inside : len < length file.synced → (o : Option (List ℕ)) → payload_at (drop len image) number ≡ o → (other : List ℕ) × IsImage file other × IsPlainLog file other × (frames_of image 0 ≡ frames_of other 0)
    inside within None e =
        (content, cut.reads, cut.plain, on within ∙ ap (λ (ps : List (List ℕ)). frames_of content 0 ++ ps) (frames_of-end (drop len image) number e) ∙ append-nil (frames_of content 0))
    inside within (Some payload) e =
        let has = has_scanned file content len image cut within is_image in
        let at = payload_at-found (drop len image) number payload e in
        let can = (is_scan content 0).1.can in
        let same : number ≡ length (frames_of content 0) = omega arith in
        let named = plain_before file len image plain (frames_of content 0) payload (drop len image) can has.front (subst (λ (n : ℕ). FrameAt (drop len image) n payload) same at) in
        let was : WasWritten file len (frame number payload) =
        subst (λ (p : ℕ). WasWritten file p (frame number payload)) (sym cut.here) (subst (λ (n : ℕ). WasWritten file (length (frames 0 (frames_of content 0))) (frame n payload)) (sym same) named) in
        elim (cases_lt (length file.synced) (len + length (frame number payload))) [
          | inl past ↦
              let more = frames_of (drop (16 + length payload) (drop len image)) (number + 1) in
              let all : frames_of image 0 ≡ frames_of content 0 ++ payload ∷ more = on within ∙ ap (λ (ps : List (List ℕ)). frames_of content 0 ++ ps) (frames_of-step (drop len image) number payload e) in
              let longer = longer_by file content len image payload more cut has was past all in
              let scan = is_scan image 0 in (
                frames 0 (frames_of image 0),
                scanned_image file len image is_image cut.behind longer,
                plain_front file image (frames 0 (frames_of image 0)) scan.0 scan.1.front (plain_before file len image plain),
                sym (frames_of-frames 0 (frames_of image 0) scan.1.can),
              )
          | inr fits ↦ absurd (none_within file content len payload (drop len image) cut at was fits)
        ]

pub cut_reads : (file : FileState) (content : List ℕ) (len : ℕ) → IsCut file content len → ReadsAsBefore file (pending_more (Cut len) file)
cut_reads file content len cut = record { each = λ image is_image plain. others file content len image cut is_image plain }
