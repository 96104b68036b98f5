-- A machine whose session's transaction has made its last write no more.
use Rattle.std.specs.Prelude.{ℕ, ◌-◌, length, take, option_map}
use Rattle.px_model.specs.declared.machine.Open.{Open}
use Rattle.px_model.specs.Machine.{Machine}
use Rattle.px_calls.specs.Steps.{open_of, with_slot}

abbrev pub minus_last : Open → Open
minus_last xact = record xact { writes = take (length xact.writes - 1) xact.writes }

abbrev pub without_last : Machine → ℕ → Machine
without_last m session = with_slot m session (option_map minus_last (open_of m session))
