-- The scan of a log in one file.
use Rattle.std.proofs.Common.{◌≡◌, ℕ, zero, suc, ◌+◌, ◌-◌, ◌^◌, ◌≤◌, ◌&&◌, Bool, true, false, cond, List, [], ◌++◌, length, refl, sym, ap, subst, ◌∙◌, arith}
use Rattle.std.specs.Prelude.{if◌then◌else◌, nat_lt}
use Rattle.std.proofs.lemmas.List.{append-nil}
use Rattle.px_reached.specs.Scanned.{last_from, last_scanned, scan, scan_from}
use Rattle.px_restart.specs.declared.restart.Restart.{Restart}
use Rattle.px_scan.specs.Scan.{frames_of, frames_within}
use Rattle.px_scan.specs.Segments.{is_full}
use Rattle.px_site.specs.declared.name.FileName.TheVariants.{Xlog}
use Rattle.px_standing.specs.Files.{Files}

none_behind : (most : ℕ) (files : Files) (number : ℕ) → files (Xlog 2) ≡ [] → scan_from most files 2 number ≡ []
unfolding frames_of frames_within
none_behind zero files number none = refl
none_behind (suc most) files number none =
    subst (λ (bytes : List ℕ). (frames_of bytes number ++ (if is_full bytes number then scan_from most files (2 + 1) (number + length (frames_of bytes number)) else [])) ≡ [])
    (sym none) refl

either : (b : Bool) (l : List (List ℕ)) → l ≡ [] → cond b l [] ≡ []
either true l none = none
either false l none = refl

one_scanned : (most : ℕ) (files : Files) → files (Xlog 2) ≡ [] → scan_from (suc most) files 1 0 ≡ frames_of (files (Xlog 1)) 0
one_scanned most files none =
    let found = frames_of (files (Xlog 1)) 0 in
    ap (λ (l : List (List ℕ)). found ++ l)
    (either (is_full (files (Xlog 1)) 0) (scan_from most files (1 + 1) (0 + length found)) (none_behind most files (0 + length found) none))
    ∙ append-nil found

-- it is that of the first segment, where this is where it begins and the second one is empty
pub scan_alone : (restart : Restart) (files : Files) → restart.segment ≡ 1 → restart.first ≡ 0 → files (Xlog 2) ≡ [] → scan restart files ≡ frames_of (files (Xlog 1)) 0
unfolding scan
scan_alone restart files segment first none =
    let at : scan_from (2 ^ 32 - restart.segment) files restart.segment restart.first ≡ scan_from (suc 4294967294) files 1 0 =
    ap (λ (k : ℕ). scan_from (2 ^ 32 - k) files k restart.first) segment ∙ ap (λ (n : ℕ). scan_from (2 ^ 32 - 1) files 1 n) first in
    at ∙ one_scanned 4294967294 files none

-- the scan ends nowhere before it begins
last_not_before : (most : ℕ) (files : Files) (segment number : ℕ) → segment ≤ last_from most files segment number
last_not_before zero files segment number = omega arith
last_not_before (suc most) files segment number =
    let found = frames_of (files (Xlog segment)) number in
    further (is_full (files (Xlog segment)) number && nat_lt 0 most) (last_from most files (segment + 1) (number + length found))
    (last_not_before most files (segment + 1) (number + length found))
  where
    further : (goes_on : Bool) (last : ℕ) → segment + 1 ≤ last → segment ≤ cond goes_on last segment
    further true last past = omega (arith, past)
    further false last past = omega arith

pub last_from_segment : (restart : Restart) (files : Files) → restart.segment ≤ last_scanned restart files
unfolding last_scanned
last_from_segment restart files = last_not_before (2 ^ 32 - restart.segment) files restart.segment restart.first
