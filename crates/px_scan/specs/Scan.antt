-- Frames that stand one after the other.
use Rattle.std.specs.Prelude.{ℕ, zero, suc, ◌+◌, List, [], ◌∷◌, ◌++◌, length, drop}
use Rattle.std.specs.Option.{option_map_or}
use Rattle.px_frame.specs.declared.frame.TheConstants.{HEADER_SIZE}
use Rattle.px_frame.specs.Frame.{frame, CanFrame, payload_at}

-- the bytes of frames of these payloads, numbered from there on
unfoldable pub frames : ℕ → List (List ℕ) → List ℕ
frames number [] = []
frames number (payload ∷ payloads) = frame number payload ++ frames (number + 1) payloads

-- each of the payloads may stand in its frame
abbrev pub CanFrames : ℕ → List (List ℕ) → Type 0
CanFrames number [] = Unit {0}
CanFrames number (payload ∷ payloads) = CanFrame number payload × CanFrames (number + 1) payloads

-- at most `most` frames, one after the other from the front, each of which checks for the next number
unfoldable pub frames_within : ℕ → List ℕ → ℕ → List (List ℕ)
frames_within zero bytes number = []
frames_within (suc most) bytes number =
    option_map_or (λ payload. payload ∷ frames_within most (drop (HEADER_SIZE + length payload) bytes) (number + 1)) (payload_at bytes number) []

-- all of them: no frame is empty, so there are no more than bytes
unfoldable pub frames_of : List ℕ → ℕ → List (List ℕ)
frames_of bytes number = frames_within (length bytes) bytes number
