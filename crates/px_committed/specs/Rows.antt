-- Rows in order of their keys, one after the other.
use Rattle.std.specs.Prelude.{Bool, true, List, find, Option, Some, None}
use Rattle.std.specs.Ordering.{is_lt}
use Rattle.px_model.specs.declared.key.KeyOf.{KeyOf}
use Rattle.px_model.specs.declared.row.Row.{Row}
use Rattle.px_model.specs.Rows.{key_cmp, key_of}

abbrev pub is_past : Option KeyOf → Row → Bool
is_past None row = true
is_past (Some after) row = is_lt (key_cmp (after.table, after.key) (key_of row))

-- the first row past a key
abbrev pub first_past : Option KeyOf → List Row → Option Row
first_past after rows = find (is_past after) rows
