-- What was asked of standard input.
use Rattle.std.specs.Prelude.{ℕ, ◌+◌, ◌-◌, ◌^◌, min, List, Option, Result, Ok, Err}
use Rattle.px_source.specs.Source.{one_more}

-- how often the system was asked for bytes, how many it gave, how many reads failed, and which bytes it has left, where it tells
-- them
pub record Asked : Type 0 where
  pub calls : ℕ
  pub bytes : ℕ
  pub faults : ℕ
  pub left : Option (List ℕ)

-- a count after so many more; at the greatest u64 it stands still
abbrev pub more_by : ℕ → ℕ → ℕ
more_by n count = min (count + n) (2 ^ 64 - 1)

-- after one call more, which answered this
abbrev pub asked_to_read : {E : Type 0} → Result ℕ E → Asked → Asked
asked_to_read (Ok n) asked = record asked { calls = one_more asked.calls; bytes = more_by n asked.bytes }
asked_to_read (Err _) asked = record asked { calls = one_more asked.calls }
