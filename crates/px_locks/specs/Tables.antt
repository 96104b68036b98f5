-- The holders of each table's keys.
use Rattle.std.specs.Prelude.{◌≡◌, ℕ, suc, List, [], ◌∷◌, ◌++◌, map, Option, slice_get}
use Rattle.std.specs.Option.{option_and_then}
use Rattle.std.specs.BTreeMap.{get_by}
use Rattle.std.specs.Ordering.{nat_cmp}
use Rattle.std.specs.Cmp.Lexicographic.{slice_cmp}
use Rattle.px_model.specs.Rows.{Key}
use Rattle.px_locks.specs.declared.tables.Table.{Table}

abbrev pub entries_of : ℕ → Table → List (Key × ℕ)
entries_of number table = map (λ e. ((number, e.0.items), e.1)) table.holders.entries

-- of the tables from that number on
abbrev pub entries_from : ℕ → List Table → List (Key × ℕ)
entries_from number [] = []
entries_from number (table ∷ tables) = entries_of number table ++ entries_from (suc number) tables

abbrev pub holder_at : List ℕ → Table → Option ℕ
holder_at key table = get_by (λ stored. slice_cmp nat_cmp key stored.items) table.holders

-- a table's number is its place
abbrev pub holder_in : Key → List Table → Option ℕ
holder_in key tables = option_and_then (holder_at key.1) (slice_get tables key.0)

-- each key has the holder that it had
abbrev pub IsSame : List Table → List Table → Type 0
IsSame old new = (q : Key) → holder_in q new ≡ holder_in q old
