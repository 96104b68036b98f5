-- Frames: a payload with its length, its sum and its number (docs/FORMATS.md, 'Frame').
use Rattle.std.specs.Prelude.{◌≡◌, ℕ, ◌+◌, ◌<◌, ◌≤◌, Bool, ◌&&◌, List, ◌++◌, length, take, drop, Option, Some, None, nat_eq, nat_lt, nat_le, if◌then◌else◌}
use Rattle.std.specs.List.{starts_with}
use Rattle.std.specs.Int.{w32, w64, to_be_bytes, from_be_bytes}
use Rattle.px_bytes.specs.Sum.{fnv_of}
use Rattle.px_frame.specs.declared.frame.TheConstants.{HEADER_SIZE}
use Rattle.px_bytes.specs.declared.limits.TheConstants.{NUMBER_LIMIT, SHORTEST_PAYLOAD, LONGEST_PAYLOAD}

-- what the sum is taken of
abbrev pub summed : ℕ → List ℕ → List ℕ
summed number payload = to_be_bytes w64 number ++ payload

-- the frame of a payload with that number
unfoldable pub frame : ℕ → List ℕ → List ℕ
frame number payload = to_be_bytes w32 (length payload) ++ (to_be_bytes w32 (fnv_of (summed number payload)) ++ summed number payload)

-- the payload may stand in a frame with that number
pub record CanFrame (number : ℕ) (payload : List ℕ) : Type 0 where
  pub numbered : number < NUMBER_LIMIT
  pub shortest : SHORTEST_PAYLOAD ≤ length payload
  pub longest : length payload ≤ LONGEST_PAYLOAD

-- A frame with that payload checks at the front of the bytes for that number. Anything may follow it.
pub record FrameAt (bytes : List ℕ) (number : ℕ) (payload : List ℕ) : Type 0 where
  pub can : CanFrame number payload
  pub front : bytes ≡ frame number payload ++ drop (HEADER_SIZE + length payload) bytes

-- ---- the same by a test that computes

-- the test of CanFrame
abbrev pub can_frame : ℕ → List ℕ → Bool
can_frame number payload = nat_lt number NUMBER_LIMIT && (nat_le SHORTEST_PAYLOAD (length payload) && nat_le (length payload) LONGEST_PAYLOAD)

-- as many bytes behind a header as the length at the front says
unfoldable pub named_payload : List ℕ → List ℕ
named_payload bytes = take (from_be_bytes w32 (take 4 bytes)) (drop HEADER_SIZE bytes)

-- the payload of the frame that checks at the front for that number, None where none does
unfoldable pub payload_at : List ℕ → ℕ → Option (List ℕ)
payload_at bytes number =
    let payload : List ℕ = named_payload bytes in
    if can_frame number payload && starts_with nat_eq bytes (frame number payload) then Some payload else None
