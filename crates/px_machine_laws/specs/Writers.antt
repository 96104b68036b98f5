-- Who writes in a session, and what was written last.
use Rattle.std.specs.Prelude.{ℕ, ◌+◌, ◌-◌, ◌==◌, length, Option, Some, None, if◌then◌else◌, slice_get}
use Rattle.px_model.specs.declared.write.Write.{Write}
use Rattle.px_model.specs.declared.machine.Open.{Open}
use Rattle.px_model.specs.Machine.{Machine}
use Rattle.px_calls.specs.declared.call.Call.{Call}
use Rattle.px_calls.specs.declared.call.Call.TheVariants.{Insert, Update}
use Rattle.px_calls.specs.Steps.{open_of}

abbrev pub number_with_writes : (base : ℕ) → Option Open → Option ℕ
number_with_writes base None = None
number_with_writes base (Some xact) = if length xact.writes == 0 then None else Some (base + xact.number)

abbrev pub last_of : Option Open → Option Write
last_of None = None
last_of (Some xact) = slice_get xact.writes (length xact.writes - 1)

-- the stored number of the session's open transaction, where it has writes
abbrev pub writer_of : Machine → ℕ → Option ℕ
writer_of m session = number_with_writes m.base (open_of m session)

-- its last write
abbrev pub last_write_of : Machine → ℕ → Option Write
last_write_of m session = last_of (open_of m session)

-- the tag that a call writes, or 0 where it writes none
abbrev pub tag_of : Call → ℕ
tag_of (Insert table key tag body) = tag
tag_of (Update table key tag body) = tag
tag_of _ = 0
