-- A chain of three versions: 9 deleted the row, before that 5 wrote it again, and 3 was the first. And a table with one row.
use Rattle.std.specs.Prelude.{ℕ, nat_le, List, [], ◌∷◌}
use Rattle.px_cells.specs.declared.header.Header.{Header}
use Rattle.px_cells.specs.declared.slot.Slot.{Slot}
use Rattle.px_cells.specs.declared.slot.SlotState.TheVariants as state
use Rattle.px_model.specs.declared.row.Row.{Row}
use Rattle.px_shown.specs.Shown.{Done}

abbrev pub key : List ℕ
key = 107 ∷ 49 ∷ []

abbrev pub deleted_by_9 : Slot
deleted_by_9 = record { state = state.Deletion; xn = 9; next = 4; row = 1; tag = 0; total = 0; log = 0; place = 0; key = key; short = [] }

abbrev pub written_by_5 : Slot
written_by_5 = record { state = state.Row; xn = 5; next = 2; row = 1; tag = 7; total = 1; log = 0; place = 0; key = key; short = 98 ∷ [] }

abbrev pub written_by_3 : Slot
written_by_3 = record { state = state.Row; xn = 3; next = 0; row = 1; tag = 7; total = 1; log = 0; place = 0; key = key; short = 97 ∷ [] }

abbrev pub versions : List Slot
versions = deleted_by_9 ∷ written_by_5 ∷ written_by_3 ∷ []

-- all numbers up to this one are done
abbrev pub done_up_to : ℕ → Done
done_up_to last = λ number. nat_le number last

abbrev pub row_with : (body : List ℕ) → Row
row_with body = record { table = 2; key = key; tag = 7; body = body }

-- a table of which one slot and one row pointer were used
abbrev pub one_place : Header
one_place = record { slots = 1; free_slot = 0; rows = 1; free_row = 0 }
