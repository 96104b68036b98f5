-- Each change that a frame may hold has a frame.
use Rattle.std.proofs.Common.{◌≡◌, ℕ, suc, ◌+◌, ◌^◌, ◌<◌, ◌≤◌, true, List, [], ◌∷◌, ◌++◌, length, map, refl, ap, subst, ◌∙◌, arith}
use Rattle.std.proofs.lemmas.Bool.{and_parts}
use Rattle.std.proofs.lemmas.List.{append-nil}
use Rattle.px_change.specs.declared.change.Change.{Change}
use Rattle.px_change.specs.Grammar.{is_change, is_within, may_hold}
use Rattle.px_change.specs.Text.{change_text}
use Rattle.px_change.proofs.Changes.{in_frame}
use Rattle.px_frame.specs.Frame.{frame, CanFrame}
use Rattle.px_frame.proofs.Frames.{length-frame}
use Rattle.px_scan.specs.Scan.{frames, CanFrames}
use Rattle.px_scan.proofs.Written.{frames-append}
use Rattle.px_log.specs.Contents.{log_text}
use Rattle.px_log.specs.MayStand.{MayStand}
use Rattle.px_log.specs.Window.{longest_frame}

pub may_be_written : (tables number short : ℕ) (change : Change) → may_hold tables number short change ≡ true → is_change short change ≡ true
unfolding may_hold
may_be_written tables number short change ok = (and_parts (is_change short change) (is_within tables number change) ok).0

pub can_frame : (tables number short : ℕ) (change : Change) → may_hold tables number short change ≡ true → number < 2 ^ 48 → CanFrame number (change_text change)
can_frame tables number short change ok below =
    let size = in_frame short change (may_be_written tables number short change ok) in
    record { numbered = below; shortest = omega (arith, size.0); longest = omega (arith, size.1) }

pub can_frames : (tables number short : ℕ) (changes : List Change) → MayStand tables number short changes → number + length changes ≤ 2 ^ 48 → CanFrames number (map change_text changes)
can_frames tables number short [] stand below = tt
can_frames tables number short (change ∷ changes) stand below =
    (can_frame tables number short change stand.0 (omega arith), can_frames tables (number + 1) short changes stand.1 (omega arith))

-- ---- one change more

pub map_push_one : (changes : List Change) (change : Change) → map change_text (changes ++ change ∷ []) ≡ map change_text changes ++ change_text change ∷ []
map_push_one [] change = refl
map_push_one (first ∷ changes) change = ap (λ (ps : List (List ℕ)). change_text first ∷ ps) (map_push_one changes change)

pub length-map-text : (changes : List Change) → length (map change_text changes) ≡ length changes
length-map-text [] = refl
length-map-text (change ∷ changes) = ap suc (length-map-text changes)

pub log_more : (changes : List Change) (change : Change) → log_text (changes ++ change ∷ []) ≡ log_text changes ++ frame (length changes) (change_text change)
unfolding log_text frames
log_more changes change =
    ap (frames 0) (map_push_one changes change)
    ∙ frames-append 0 (map change_text changes) (change_text change ∷ [])
    ∙ ap (λ (b : List ℕ). frames 0 (map change_text changes) ++ b) (append-nil (frame (0 + length (map change_text changes)) (change_text change)))
    ∙ ap (λ (n : ℕ). frames 0 (map change_text changes) ++ frame n (change_text change)) (let same : 0 + length (map change_text changes) ≡ length changes = omega (arith, length-map-text changes) in same)

pub stand_more : (tables number short : ℕ) (changes : List Change) (change : Change) → MayStand tables number short changes → may_hold tables (number + length changes) short change ≡ true
    → MayStand tables number short (changes ++ change ∷ [])
stand_more tables number short [] change stand next =
    let same : number + 0 ≡ number = omega arith in
    (subst (λ (n : ℕ). may_hold tables n short change ≡ true) same next, tt)
stand_more tables number short (first ∷ changes) change stand next =
    let same : number + suc (length changes) ≡ number + 1 + length changes = omega arith in
    (stand.0, stand_more tables (number + 1) short changes change stand.1 (subst (λ (n : ℕ). may_hold tables n short change ≡ true) same next))

-- no frame of a change is longer
pub length_held_frame : (tables number short : ℕ) (change : Change) → may_hold tables number short change ≡ true → length (frame number (change_text change)) ≤ longest_frame
length_held_frame tables number short change ok =
    let size = in_frame short change (may_be_written tables number short change ok) in
    omega (arith, length-frame number (change_text change), size.1)
