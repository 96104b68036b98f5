-- A window on the bytes of a file, through which frames are read one after the other.
use Rattle.std.specs.Prelude.{◌≡◌, ◌⊎◌, ℕ, ◌+◌, ◌≤◌, Bool, true, List, length, take, drop}
use Rattle.px_bytes.specs.declared.limits.TheConstants.{LONGEST_PAYLOAD}
use Rattle.px_frame.specs.declared.frame.TheConstants.{HEADER_SIZE}

-- the bytes that were read at a place, and that the file ended with them
pub record Seen : Type 0 where
  pub place : ℕ
  pub bytes : List ℕ
  pub ended : Bool

abbrev pub longest_frame : ℕ
longest_frame = HEADER_SIZE + LONGEST_PAYLOAD

-- they are those of this content
pub record Sees (content : List ℕ) (seen : Seen) : Type 0 where
  pub bytes : seen.bytes ≡ take (length seen.bytes) (drop seen.place content)
  pub ended : seen.ended ≡ true → length (drop seen.place content) ≤ length seen.bytes

-- the place is within them, and so is a frame that begins there, where the file has it whole
pub record Covers (place : ℕ) (seen : Seen) : Type 0 where
  pub from : seen.place ≤ place
  pub to : place ≤ seen.place + length seen.bytes
  pub enough : (place + longest_frame ≤ seen.place + length seen.bytes) ⊎ (seen.ended ≡ true)

-- bytes from which a frame at the front of the rest is read as from the rest itself
pub record Shows (rest bytes : List ℕ) : Type 0 where
  pub front : bytes ≡ take (length bytes) rest
  pub enough : (longest_frame ≤ length bytes) ⊎ (length rest ≤ length bytes)
