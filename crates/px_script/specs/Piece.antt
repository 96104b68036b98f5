-- What one read of a source adds to the bytes that are held.
use Rattle.std.specs.Prelude.{◌≡◌, ℕ, ◌≤◌, List, [], ◌++◌, length}

-- a piece of `count` bytes, `room` at most; a source that tells its bytes had them at its front, and was at its end where they are none
pub record Appends (tells : Type 0) (old new left left_now : List ℕ) (room count : ℕ) : Type 0 where
  pub piece : List ℕ
  pub appended : new ≡ old ++ piece
  pub counted : length piece ≡ count
  pub within : count ≤ room
  pub taken : tells → left ≡ piece ++ left_now
  pub ended : tells → count ≡ 0 → left ≡ []
