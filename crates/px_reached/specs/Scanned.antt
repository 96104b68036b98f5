-- The scan of a log in segments, from a restart on.
use Rattle.std.specs.Prelude.{ℕ, ◌+◌, ◌-◌, ◌^◌, nat_lt, ◌&&◌, zero, suc, List, [], ◌++◌, length, if◌then◌else◌}
use Rattle.px_site.specs.declared.name.FileName.TheVariants.{Xlog}
use Rattle.px_apply.specs.Contents.{Contents}
use Rattle.px_restart.specs.declared.restart.Restart.{Restart}
use Rattle.px_scan.specs.Scan.{frames_of}
use Rattle.px_scan.specs.Segments.{is_full}

-- the payloads from this segment on, whose first frame has this number, in so many segments at most
abbrev pub scan_from : (most : ℕ) → Contents → (segment number : ℕ) → List (List ℕ)
scan_from zero files segment number = []
scan_from (suc most) files segment number =
    let found = frames_of (files (Xlog segment)) number in
    found ++ (if is_full (files (Xlog segment)) number then scan_from most files (segment + 1) (number + length found) else [])

unfoldable pub scan : Restart → Contents → List (List ℕ)
scan restart files = scan_from (2 ^ 32 - restart.segment) files restart.segment restart.first

-- the segment in which the scan ends
abbrev pub last_from : (most : ℕ) → Contents → (segment number : ℕ) → ℕ
last_from zero files segment number = segment
last_from (suc most) files segment number =
    let found = frames_of (files (Xlog segment)) number in
    if is_full (files (Xlog segment)) number && nat_lt 0 most then last_from most files (segment + 1) (number + length found) else segment

unfoldable pub last_scanned : Restart → Contents → ℕ
last_scanned restart files = last_from (2 ^ 32 - restart.segment) files restart.segment restart.first
