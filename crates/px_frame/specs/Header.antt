-- The steps in which a frame is read: its header, and whether the bytes behind the header fit it.
use Rattle.std.specs.Prelude.{◌≡◌, ℕ, ◌+◌, ◌^◌, ◌<◌, ◌≤◌, List, ◌++◌, length, drop, slice_range}
use Rattle.std.specs.Int.{w32, w64, to_be_bytes}
use Rattle.px_bytes.specs.Sum.{fnv_of}
use Rattle.px_frame.specs.declared.frame.TheConstants.{HEADER_SIZE}
use Rattle.px_bytes.specs.declared.limits.TheConstants.{NUMBER_LIMIT, SHORTEST_PAYLOAD, LONGEST_PAYLOAD}
use Rattle.px_frame.specs.declared.header.TheConstants.{SUMMED_FROM}
use Rattle.px_frame.specs.declared.header.Header.{Header}

-- the bytes begin with this header
pub record IsHeader (bytes : List ℕ) (header : Header) : Type 0 where
  pub front : bytes ≡ to_be_bytes w32 header.length ++ (to_be_bytes w32 header.sum ++ (to_be_bytes w64 header.number ++ drop HEADER_SIZE bytes))
  pub length_fits : header.length < 2 ^ 32
  pub sum_fits : header.sum < 2 ^ 32
  pub number_fits : header.number < 2 ^ 64

-- bytes that begin with this header begin with a frame of that number
pub record Checks (bytes : List ℕ) (header : Header) (number : ℕ) : Type 0 where
  pub same : header.number ≡ number
  pub below : number < NUMBER_LIMIT
  pub shortest : SHORTEST_PAYLOAD ≤ header.length
  pub longest : header.length ≤ LONGEST_PAYLOAD
  pub there : HEADER_SIZE + header.length ≤ length bytes
  pub right : fnv_of (slice_range bytes SUMMED_FROM (HEADER_SIZE + header.length)) ≡ header.sum
