-- Frames appended to a log: whatever a crash leaves has the first of them.
use Rattle.std.proofs.Common.{◌≡◌, ℕ, zero, suc, ◌+◌, ◌<◌, ◌≤◌, List, [], ◌∷◌, ◌++◌, length, take, drop, map, refl, sym, ap, subst, ◌∙◌, append_assoc, arith, length-append, length-take, length-drop}
use Rattle.std.specs.List.{AllByRecursion}
use Rattle.std.proofs.lemmas.List.{append-nil, take_all, drop_all, take-append-drop, take-append-le, drop-append-le}
use Rattle.px_site.specs.Disk.{Change as DiskChange, Wrote, FileState, IsImage, at_rest, pending_more, overlaid}
use Rattle.px_change.specs.declared.change.Change.{Change}
use Rattle.px_change.specs.Text.{change_text}
use Rattle.px_frame.specs.Frame.{frame, FrameAt}
use Rattle.px_frame.proofs.Frames.{length-frame}
use Rattle.px_scan.specs.Scan.{frames, frames_of, CanFrames}
use Rattle.px_scan.specs.Crash.{written, appends, IsPlainSince}
use Rattle.px_scan.proofs.Recovery.{Agrees, Recovers, survives}
use Rattle.px_scan.proofs.Written.{frames-append, frames-split, written-front}
use Rattle.px_log.specs.Contents.{log_text}
use Rattle.px_xlog.specs.Written.{HasAt, IsPlainLog, IsBehind}
use Rattle.px_log.specs.Log.{appended, grown_file, HasFirst}
use Rattle.px_log.proofs.FramesOfChanges.{length-map-text, map_push_one}
use Rattle.px_log.proofs.Growing.{has_longer, image_front, Fronts, fronts_none, fronts_write}

-- ---- the writes of appended frames

pub appended_behind : (synced : List ℕ) (earlier : List DiskChange) (place number : ℕ) (payloads : List (List ℕ)) → AllByRecursion (IsBehind synced) earlier → length synced ≤ place → AllByRecursion (IsBehind synced) (appended earlier place number payloads)
appended_behind synced earlier place number [] behind past = behind
appended_behind synced earlier place number (payload ∷ payloads) behind past =
    appended_behind synced (Wrote place (frame number payload) ∷ earlier) (place + length (frame number payload)) (number + 1) payloads (past, behind) (omega arith)

pub appended_fronts : (synced : List ℕ) (earlier : List DiskChange) (content : List ℕ) (place number : ℕ) (payloads : List (List ℕ)) → Fronts synced earlier content → place ≡ length content
    → Fronts synced (appended earlier place number payloads) (content ++ frames number payloads)
unfolding frames
appended_fronts synced earlier content place number [] fronts at_end = subst (Fronts synced earlier) (sym (append-nil content)) fronts
appended_fronts synced earlier content place number (payload ∷ payloads) fronts at_end =
    let more = content ++ frame number payload in
    let next = appended_fronts synced (Wrote place (frame number payload) ∷ earlier) more (place + length (frame number payload)) (number + 1) payloads
    (fronts_write synced earlier content place (frame number payload) fronts at_end) (omega (arith, length-append content (frame number payload))) in
    subst (Fronts synced (appended (Wrote place (frame number payload) ∷ earlier) (place + length (frame number payload)) (number + 1) payloads)) (append_assoc content (frame number payload) (frames (number + 1) payloads)) next

appended_push : (earlier : List DiskChange) (place number : ℕ) (payloads : List (List ℕ)) (payload : List ℕ)
    → appended earlier place number (payloads ++ payload ∷ []) ≡ Wrote (place + length (frames number payloads)) (frame (number + length payloads) payload) ∷ appended earlier place number payloads
unfolding frames
appended_push earlier place number [] payload =
    let here : place ≡ place + 0 = omega arith in
    let now : number ≡ number + 0 = omega arith in
    ap (λ (p : ℕ). Wrote p (frame number payload) ∷ earlier) here ∙ ap (λ (n : ℕ). Wrote (place + 0) (frame n payload) ∷ earlier) now
appended_push earlier place number (first ∷ payloads) payload =
    let one = frame number first in
    let here : place + length one + length (frames (number + 1) payloads) ≡ place + length (one ++ frames (number + 1) payloads) = omega (arith, length-append one (frames (number + 1) payloads)) in
    let now : number + 1 + length payloads ≡ number + suc (length payloads) = omega arith in
    appended_push (Wrote place one ∷ earlier) (place + length one) (number + 1) payloads payload
    ∙ ap (λ (p : ℕ). Wrote p (frame (number + 1 + length payloads) payload) ∷ appended (Wrote place one ∷ earlier) (place + length one) (number + 1) payloads) here
    ∙ ap (λ (n : ℕ). Wrote (place + length (one ++ frames (number + 1) payloads)) (frame n payload) ∷ appended (Wrote place one ∷ earlier) (place + length one) (number + 1) payloads) now

-- ---- the file of a log

take_map : (n : ℕ) (changes : List Change) → take n (map change_text changes) ≡ map change_text (take n changes)
take_map zero changes = refl
take_map (suc n) [] = refl
take_map (suc n) (change ∷ changes) = ap (λ (ps : List (List ℕ)). change_text change ∷ ps) (take_map n changes)

drop_map : (n : ℕ) (changes : List Change) → drop n (map change_text changes) ≡ map change_text (drop n changes)
drop_map zero changes = refl
drop_map (suc n) [] = refl
drop_map (suc n) (change ∷ changes) = drop_map n changes

-- the synced part and what was appended are the whole log
pub log_parts : (durable : ℕ) (changes : List Change) → durable ≤ length changes → log_text (take durable changes) ++ frames durable (map change_text (drop durable changes)) ≡ log_text changes
unfolding log_text
log_parts durable changes le =
    let ps = map change_text changes in
    let many : 0 + length (take durable ps) ≡ durable = omega (arith, length-take durable ps, length-map-text changes) in
    ap (λ (b : List (List ℕ)). frames 0 b ++ frames durable (map change_text (drop durable changes))) (sym (take_map durable changes))
    ∙ ap (λ (b : List (List ℕ)). frames 0 (take durable ps) ++ frames durable b) (sym (drop_map durable changes))
    ∙ ap (λ (n : ℕ). frames 0 (take durable ps) ++ frames n (drop durable ps)) (sym many)
    ∙ sym (frames-append 0 (take durable ps) (drop durable ps))
    ∙ ap (frames 0) (take-append-drop durable ps)

-- one frame more is one write at the end
pub grown_more : (durable : ℕ) (changes : List Change) (change : Change) → durable ≤ length changes
    → grown_file durable (changes ++ change ∷ []) ≡ pending_more (Wrote (length (log_text changes)) (frame (length changes) (change_text change))) (grown_file durable changes)
grown_more durable changes change le =
    let synced = log_text (take durable changes) in
    let later = drop durable changes in
    let ps = map change_text later in
    let kept : take durable (changes ++ change ∷ []) ≡ take durable changes = take-append-le durable changes (change ∷ []) le in
    let rest : drop durable (changes ++ change ∷ []) ≡ later ++ change ∷ [] = drop-append-le durable changes (change ∷ []) le in
    let here : length synced + length (frames durable ps) ≡ length (log_text changes) = omega (arith, length-append synced (frames durable ps), ap length (log_parts durable changes le)) in
    let now : durable + length ps ≡ length changes = omega (arith, length-map-text later, length-drop durable changes) in
    let file : List Change → List Change → FileState = λ front back. record { synced = log_text front; pending = appended [] (length (log_text front)) durable (map change_text back) } in
    ap (λ (front : List Change). file front (drop durable (changes ++ change ∷ []))) kept
    ∙ ap (λ (back : List Change). file (take durable changes) back) rest
    ∙ ap (λ (b : List (List ℕ)). record { synced = synced; pending = appended [] (length synced) durable b }) (map_push_one later change)
    ∙ ap (λ (w : List DiskChange). record { synced = synced; pending = w }) (
    appended_push [] (length synced) durable ps (change_text change)
    ∙ ap (λ (p : ℕ). Wrote p (frame (durable + length ps) (change_text change)) ∷ appended [] (length synced) durable ps) here
    ∙ ap (λ (n : ℕ). Wrote (length (log_text changes)) (frame n (change_text change)) ∷ appended [] (length synced) durable ps) now)

-- where each change is synced, the file is at rest
pub grown_all : (changes : List Change) → grown_file (length changes) changes ≡ at_rest (log_text changes)
grown_all changes =
    ap (λ (front : List Change). record { synced = log_text front; pending = appended [] (length (log_text front)) (length changes) (map change_text (drop (length changes) changes)) }) (take_all (length changes) changes (omega arith))
    ∙ ap (λ (back : List Change). record { synced = log_text changes; pending = appended [] (length (log_text changes)) (length changes) (map change_text back) }) (drop_all (length changes) changes (omega arith))

-- ---- what a crash leaves of it

-- all writes leave the whole log, so what it has was there at some moment
plain_since : (durable : ℕ) (ps : List (List ℕ)) (image : List ℕ) → durable ≤ length ps → Agrees image (frames 0 ps) 0
    → IsPlainSince image (frames 0 (take durable ps)) (appends (length (frames 0 (take durable ps))) (0 + durable) (drop durable ps)) 0
unfolding frames
plain_since durable ps image within agrees before payload rest can e at =
    let synced = frames 0 (take durable ps) in
    let later = drop durable ps in
    let place = length (frames 0 before) in
    let text = frame (0 + length before) payload in
    let writes = appends (length synced) (0 + durable) later in
    let none : drop (length later) later ≡ [] = drop_all (length later) later (omega arith) in
    let all : written synced (take (length later) writes) ≡ frames 0 ps =
    sym (append-nil (written synced (take (length later) writes)))
    ∙ ap (λ (b : List (List ℕ)). written synced (take (length later) writes) ++ frames (0 + durable + length (take (length later) later)) b) (sym none)
    ∙ written-front synced (0 + durable) (length later) later
    ∙ frames-split 0 durable ps within in
    (length later, subst (λ (c : List ℕ). HasAt c place text) (sym all) (agrees before payload rest can e at))

recovers_log : (durable : ℕ) (changes : List Change) (image : List ℕ) → CanFrames 0 (map change_text changes) → durable ≤ length changes
    → take (length (log_text (take durable changes))) image ≡ log_text (take durable changes) → Agrees image (log_text changes) 0 → Recovers image 0 durable (map change_text changes)
unfolding log_text
recovers_log durable changes image can le front agrees =
    let ps = map change_text changes in
    let synced = frames 0 (map change_text (take durable changes)) in
    let rest = drop (length synced) image in
    let spelled : synced ≡ frames 0 (take durable ps) = ap (frames 0) (sym (take_map durable changes)) in
    let parts : image ≡ frames 0 (take durable ps) ++ rest = sym (take-append-drop (length synced) image) ∙ ap (λ (b : List ℕ). b ++ rest) (front ∙ spelled) in
    let within : durable ≤ length ps = omega (arith, length-map-text changes) in
    survives 0 durable ps image rest can within parts (plain_since durable ps image within agrees)

pub first_survive : (durable : ℕ) (changes : List Change) → CanFrames 0 (map change_text changes) → durable ≤ length changes → HasFirst durable changes (grown_file durable changes)
first_survive durable changes can le = record { each = λ image is_image plain. kept image is_image plain }
  where
    ps : List (List ℕ)
    ps = map change_text changes

    synced : List ℕ
    synced = log_text (take durable changes)

    file : FileState
    file = grown_file durable changes

    behind : AllByRecursion (IsBehind synced) file.pending
    behind = appended_behind synced [] (length synced) durable (map change_text (drop durable changes)) tt (omega arith)

    fronts : Fronts synced file.pending (log_text changes)
    fronts = subst (Fronts synced file.pending) (log_parts durable changes le)
        (appended_fronts synced [] synced (length synced) durable (map change_text (drop durable changes)) (fronts_none synced) refl)

    agrees : (image : List ℕ) → IsPlainLog file image → Agrees image (log_text changes) 0
    agrees image plain before payload rest can_before e at =
        let n = length before in
        let same : 0 + n ≡ n = omega arith in
        let was = plain before payload rest can_before e (subst (λ (k : ℕ). FrameAt rest k payload) same at) in
        let front = fronts.each was.0 in
        let long : 0 < length (frame n payload) = omega (arith, length-frame n payload) in
        let has : HasAt (log_text changes) (length (frames 0 before)) (frame n payload) =
        subst (λ (c : List ℕ). HasAt c (length (frames 0 before)) (frame n payload)) front.1 (has_longer (overlaid synced (drop was.0 file.pending)) front.0 (length (frames 0 before)) (frame n payload) long was.1) in
        subst (λ (k : ℕ). HasAt (log_text changes) (length (frames 0 before)) (frame k payload)) (sym same) has

    kept : (image : List ℕ) → IsImage file image → IsPlainLog file image → (kept : ℕ) × (durable ≤ kept) × (kept ≤ length changes) × (frames_of image 0 ≡ map change_text (take kept changes))
    kept image is_image plain =
        let r = recovers_log durable changes image can le (image_front file image behind is_image) (agrees image plain) in
        (r.kept, r.at_least, omega (arith, r.at_most, length-map-text changes), r.scan ∙ take_map r.kept changes)

-- fewer durable ones ask for less
pub first_of_fewer : (m n : ℕ) (changes : List Change) (file : FileState) → m ≤ n → HasFirst n changes file → HasFirst m changes file
first_of_fewer m n changes file le first = record {
  each = λ image is_image plain.
      let r = first.each image is_image plain in
      (r.0, omega (arith, r.1), r.2, r.3);
}
