-- A log in segments.
use Rattle.std.specs.Prelude.{ℕ, ◌+◌, ◌≤◌, Bool, ◌&&◌, List, [], ◌∷◌, ◌++◌, length, nat_le, nat_eq, if◌then◌else◌}
use Rattle.px_scan.specs.declared.segments.TheConstants.{SEGMENT_SIZE}
use Rattle.px_scan.specs.Scan.{frames, frames_of, CanFrames}

-- the frames of a segment take all of its bytes, and it is full
abbrev pub is_full : List ℕ → ℕ → Bool
is_full segment number = nat_le SEGMENT_SIZE (length segment) && nat_eq (length (frames number (frames_of segment number))) (length segment)

-- The scan of segments one after the other. It goes on behind a full one.
unfoldable pub scan_segments : List (List ℕ) → ℕ → List (List ℕ)
scan_segments [] number = []
scan_segments (segment ∷ others) number =
    frames_of segment number ++ (if is_full segment number then scan_segments others (number + length (frames_of segment number)) else [])

-- the bytes of segments with frames of these payloads, numbered through
unfoldable pub segments : ℕ → List (List (List ℕ)) → List (List ℕ)
segments number [] = []
segments number (payloads ∷ others) = frames number payloads ∷ segments (number + length payloads) others

-- each of them is full
abbrev pub AreFull : ℕ → List (List (List ℕ)) → Type 0
AreFull number [] = Unit {0}
AreFull number (payloads ∷ others) = CanFrames number payloads × (SEGMENT_SIZE ≤ length (frames number payloads)) × AreFull (number + length payloads) others

-- the payloads of all of them
abbrev pub all_of : List (List (List ℕ)) → List (List ℕ)
all_of [] = []
all_of (payloads ∷ others) = payloads ++ all_of others
