-- What a read does to an input, and when it may fail.
use Rattle.std.specs.Prelude.{◌≡◌, ℕ, ◌+◌, ◌-◌, ◌^◌, ◌<◌, ◌≤◌, min, List, [], ◌++◌, length, take, Result, Ok, Err, IfOk, OnErr}

-- n bytes were taken from the front of the old; none only at the end, or where there is no room
pub record Took (old new buf : List ℕ) (n : ℕ) : Type 0 where
  pub taken : old ≡ take n buf ++ new
  pub ended : n ≡ 0 → 0 < length buf → old ≡ []

-- what a read takes; a fault takes nothing
pub record Takes {E : Type 0} (old new buf : List ℕ) (result : Result ℕ E) : Type 0 where
  pub ok : IfOk result (Took old new buf)
  pub err : OnErr result (new ≡ old)

-- a count after one more; at the greatest u64 it stands still
abbrev pub one_more : ℕ → ℕ
one_more count = min (count + 1) (2 ^ 64 - 1)

-- a count rose; where it stands still, it counts as risen. (The counts of files say the same by a definition of theirs:
-- no crate is below both.)
abbrev pub Rose : ℕ → ℕ → Type 0
Rose before now = one_more before ≤ now

-- the count of faults after a read
abbrev pub faults_after : {T E : Type 0} → Result T E → ℕ → ℕ
faults_after (Ok _) faults = faults
faults_after (Err _) faults = one_more faults

-- a read counts its fault, and nothing else
pub record ReadCounted {T E : Type 0} (old new : ℕ) (result : Result T E) : Type 0 where
  pub none_fell : old ≤ new
  pub cause : OnErr result (Rose old new)
  pub exact : new ≡ faults_after result old
