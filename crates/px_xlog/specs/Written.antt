-- What a crash leaves of a file that was written there: no torn record's sum matches by chance, and no record comes back
-- that was cut away or overwritten before the last sync.
use Rattle.std.specs.Prelude.{◌≡◌, ℕ, ◌≤◌, List, ◌++◌, length, take, drop}
use Rattle.px_site.specs.Disk.{Change, Wrote, Cut, Removed, FileState, overlaid}
use Rattle.px_frame.specs.Frame.{frame, FrameAt}
use Rattle.px_scan.specs.Scan.{frames, CanFrames}

abbrev pub HasAt : List ℕ → ℕ → List ℕ → Type 0
HasAt content place bytes = take (length bytes) (drop place content) ≡ bytes

-- what was synced, with some first part of the writes since over it, has these bytes there
abbrev pub WasWritten : FileState → ℕ → List ℕ → Type 0
WasWritten file place bytes = (later : ℕ) × HasAt (overlaid file.synced (drop later file.pending)) place bytes

-- each frame that checks where the scan reads it was written there
abbrev pub IsPlainLog : FileState → List ℕ → Type 0
IsPlainLog file image =
    (before : List (List ℕ)) (payload rest : List ℕ) → CanFrames 0 before → image ≡ frames 0 before ++ rest → FrameAt rest (length before) payload
    → WasWritten file (length (frames 0 before)) (frame (length before) payload)

-- a write behind what was synced
abbrev pub IsBehind : List ℕ → Change → Type 0
IsBehind synced (Wrote place bytes) = length synced ≤ place
IsBehind synced (Cut len) = ⊥
IsBehind synced Removed = ⊥
