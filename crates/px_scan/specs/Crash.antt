-- Which bytes of a log a crash may leave, where no torn frame's sum matches by chance.
use Rattle.std.specs.Prelude.{◌≡◌, ℕ, ◌+◌, List, [], ◌∷◌, ◌++◌, length, take, drop, fold}
use Rattle.px_frame.specs.Frame.{frame, FrameAt}
use Rattle.px_scan.specs.Scan.{frames, CanFrames}

-- A write is a place and its bytes. This is the content with the bytes of a write over it.
abbrev pub overlay : List ℕ → ℕ × List ℕ → List ℕ
overlay content write = take write.0 content ++ (write.1 ++ drop (write.0 + length write.1) content)

-- the synced content with the bytes of each write since
abbrev pub written : List ℕ → List (ℕ × List ℕ) → List ℕ
written synced writes = fold overlay synced writes

-- one write for each frame, each at the end of the one before
unfoldable pub appends : ℕ → ℕ → List (List ℕ) → List (ℕ × List ℕ)
appends place number [] = []
appends place number (payload ∷ payloads) = (place, frame number payload) ∷ appends (place + length (frame number payload)) (number + 1) payloads

-- the content has these bytes at that place
abbrev pub HasAt : List ℕ → ℕ → List ℕ → Type 0
HasAt content place bytes = take (length bytes) (drop place content) ≡ bytes

-- Each frame that checks in the image, in a place where a scan reads it, was there at some moment since the
-- last sync: the synced content has its bytes there, with some first part of the writes since over it.
abbrev pub IsPlainSince : List ℕ → List ℕ → List (ℕ × List ℕ) → ℕ → Type 0
IsPlainSince image synced writes number =
    (before : List (List ℕ)) (payload rest : List ℕ) → CanFrames number before → image ≡ frames number before ++ rest → FrameAt rest (number + length before) payload
    → (count : ℕ) × HasAt (written synced (take count writes)) (length (frames number before)) (frame (number + length before) payload)
