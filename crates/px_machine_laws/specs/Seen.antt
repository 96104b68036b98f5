-- The last write of a key: among writes, among those of the committed transactions, and of a session's own.
use Rattle.std.specs.Prelude.{ℕ, List, [], ◌∷◌, length, Option, Some, None, option_map, if◌then◌else◌}
use Rattle.std.specs.Option.{option_or}
use Rattle.px_model.specs.declared.row.Row.{Row}
use Rattle.px_model.specs.declared.write.Write.{Write}
use Rattle.px_model.specs.declared.machine.Ended.{Ended}
use Rattle.px_model.specs.declared.machine.Open.{Open}
use Rattle.px_model.specs.Rows.{Key, same_key, key_written}
use Rattle.px_model.specs.Machine.{Machine}
use Rattle.px_calls.specs.Steps.{open_of}
use Rattle.px_model_laws.specs.Keys.{row_written}

abbrev pub last_of_key : Key → List Write → Option Write
last_of_key key [] = None
last_of_key key (w ∷ writes) = option_or (last_of_key key writes) (if same_key key (key_written w) then Some w else None)

abbrev pub last_committed_of : Key → List Ended → Option Write
last_committed_of key [] = None
last_committed_of key (e ∷ ended) =
    option_or (last_committed_of key ended) (if e.committed then last_of_key key e.writes else None)

-- what the key's last write left, else what was there
abbrev pub row_left : Option Row → Option Write → Option Row
row_left was None = was
row_left was (Some write) = row_written write

abbrev pub own_in : Key → Option Open → Option Write
own_in key None = None
own_in key (Some xact) = last_of_key key xact.writes

-- the last write of the key that the session's open transaction made
abbrev pub own_write_of : Machine → ℕ → Key → Option Write
own_write_of m session key = own_in key (open_of m session)

-- how many writes the session's open transaction made
abbrev pub writes_made_of : Machine → ℕ → Option ℕ
writes_made_of m session = option_map (λ xact. length xact.writes) (open_of m session)
