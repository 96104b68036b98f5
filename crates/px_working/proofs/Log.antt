-- A log in one file.
use Rattle.std.proofs.Common.{◌≡◌, ℕ, zero, suc, ◌+◌, ◌-◌, ◌^◌, ◌≤◌, ◌&&◌, Bool, true, false, cond, List, [], ◌++◌, drop, length, map, take, refl, sym, ap, subst, ◌∙◌, arith}
use Rattle.std.specs.Prelude.{if◌then◌else◌, nat_lt}
use Rattle.std.proofs.lemmas.List.{append-nil}
use Rattle.px_apply.specs.Contents.{Contents}
use Rattle.px_change.specs.Text.{change_text}
use Rattle.px_filed.proofs.Filed.{image_of_rest}
use Rattle.px_life.specs.Life.{Life, between}
use Rattle.px_reached.specs.Reachable.{KeepsLog, Marks}
use Rattle.px_reached.specs.Scanned.{last_from, last_scanned, scan, scan_from}
use Rattle.px_restart.specs.declared.restart.Restart.{Restart}
use Rattle.px_scan.specs.Scan.{frames_of, frames_within}
use Rattle.px_scan.specs.Segments.{is_full}
use Rattle.px_site.specs.Disk.{FileState, IsImage}
use Rattle.px_site.specs.State.{Moment}
use Rattle.px_site.specs.declared.name.FileName.TheVariants.{Xlog}
use Rattle.px_standing.specs.Images.{IsPlainImage}
use Rattle.px_xlog.specs.Contents.{the_log}
use Rattle.px_working.specs.Lasts.{IsOneSegment, LeavesFronts}

-- no segment from this one on has a byte
abbrev AreEmptyFrom : (segment : ℕ) → Contents → Type 0
AreEmptyFrom segment files = (k : ℕ) → segment ≤ k → files (Xlog k) ≡ []

no_frames : (most : ℕ) (files : Contents) (segment number : ℕ) → AreEmptyFrom segment files → scan_from most files segment number ≡ []
unfolding frames_of frames_within
no_frames zero files segment number none = refl
no_frames (suc most) files segment number none =
    subst (λ (bytes : List ℕ). (frames_of bytes number ++ (if is_full bytes number then scan_from most files (segment + 1) (number + length (frames_of bytes number)) else [])) ≡ [])
    (sym (none segment (omega arith))) refl

-- the scan of one segment, before empty ones
one_scanned : (most : ℕ) (files : Contents) (segment number : ℕ) → 1 ≤ most → AreEmptyFrom (segment + 1) files
    → scan_from most files segment number ≡ frames_of (files (Xlog segment)) number
one_scanned zero files segment number some none = absurd (omega (arith, some))
one_scanned (suc most) files segment number some none =
    let found = frames_of (files (Xlog segment)) number in
    ap (λ (more : List (List ℕ)). found ++ more)
    (behind (is_full (files (Xlog segment)) number) (scan_from most files (segment + 1) (number + length found)) (no_frames most files (segment + 1) (number + length found) none))
    ∙ append-nil found
  where
    behind : (full : Bool) (more : List (List ℕ)) → more ≡ [] → cond full more [] ≡ []
    behind true more none = none
    behind false more none = refl

-- the scan ends nowhere before it begins
last_not_before : (most : ℕ) (files : Contents) (segment number : ℕ) → segment ≤ last_from most files segment number
last_not_before zero files segment number = omega arith
last_not_before (suc most) files segment number =
    let found = frames_of (files (Xlog segment)) number in
    further (is_full (files (Xlog segment)) number && nat_lt 0 most) (last_from most files (segment + 1) (number + length found))
    (last_not_before most files (segment + 1) (number + length found))
  where
    further : (goes_on : Bool) (last : ℕ) → segment + 1 ≤ last → segment ≤ cond goes_on last segment
    further true last past = omega (arith, past)
    further false last past = omega arith

module _ (life : Life) (restart : Restart) (marks : Marks) (now : Moment) (one : IsOneSegment restart life now) where
  empty : (image : Contents) → IsPlainImage now image → (segment : ℕ) → 2 ≤ segment → image (Xlog segment) ≡ []
  empty image plain segment past =
      image_of_rest [] (image (Xlog segment))
      (subst (λ (file : FileState). IsImage file (image (Xlog segment))) (one.others segment past) (plain.each (Xlog segment)))

  scanned : (image : Contents) → IsPlainImage now image → scan restart image ≡ frames_of (image the_log) 0
  unfolding scan
  scanned image plain =
      one_scanned (2 ^ 32 - restart.segment) image restart.segment restart.first (omega (arith, one.segment)) (λ k past. empty image plain k (omega (arith, past, one.segment)))
      ∙ ap (λ (n : ℕ). frames_of (image (Xlog n)) restart.first) one.segment
      ∙ ap (frames_of (image the_log)) one.first

  front : (kept : ℕ) → take kept life.changes ≡ between life restart.first kept
  front kept =
      let all : kept ≡ kept - restart.first = omega (arith, one.first) in
      let none : 0 ≡ restart.first - life.first = omega (arith, one.first) in
      ap (λ (n : ℕ). take n life.changes) all ∙ ap (λ (n : ℕ). take (kept - restart.first) (drop n life.changes)) none

  begins : (image : Contents) → 1 ≤ last_scanned restart image
  unfolding last_scanned
  begins image = omega (arith, one.segment, last_not_before (2 ^ 32 - restart.segment) image restart.segment restart.first)

  pub log_kept : LeavesFronts marks.durable life.changes (now.files the_log) → KeepsLog IsPlainImage restart life marks now
  log_kept leaves = record {
    each = λ image plain.
        let met = leaves (image the_log) (plain.each the_log) plain.log in (
          met.0,
          met.1,
          omega (arith, met.2, one.known),
          scanned image plain ∙ met.3 ∙ ap (map change_text) (front met.0),
        );
    behind = λ image plain segment past. empty image plain segment (omega (arith, past, begins image));
  }
