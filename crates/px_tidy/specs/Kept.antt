-- Which version of a chain stays, and the places of those that go.
use Rattle.std.specs.Prelude.{ℕ, zero, suc, ◌==◌, Bool, true, false, not, List, [], ◌∷◌, filter, length, Option, Some, None, option_map, if◌then◌else◌}
use Rattle.px_cells.specs.declared.slot.Slot.{Slot}
use Rattle.px_cells.specs.declared.slot.SlotState.{SlotState}
use Rattle.px_cells.specs.declared.slot.SlotState.TheVariants.{Free, Row, Deletion}
use Rattle.px_shown.specs.Shown.{Done}

abbrev pub is_row : SlotState → Bool
is_row Free = false
is_row Row = true
is_row Deletion = false

-- The place of the version that stays, where 0 is the newest: the first that is done, where it is a row.
abbrev pub place_kept : Done → List Slot → Option ℕ
place_kept done [] = None
place_kept done (slot ∷ slots) =
    if done slot.xn then (if is_row slot.state then Some 0 else None) else option_map suc (place_kept done slots)

-- that version, which leads to no other then; none where none stays
abbrev pub kept : Done → List Slot → List Slot
kept done [] = []
kept done (slot ∷ slots) =
    if done slot.xn then (if is_row slot.state then record slot { next = 0 } ∷ [] else []) else kept done slots

-- all places of so many versions, the oldest first
abbrev pub oldest_first : (count : ℕ) → List ℕ
oldest_first zero = []
oldest_first (suc place) = place ∷ oldest_first place

abbrev pub is_other : Option ℕ → (place : ℕ) → Bool
is_other None place = true
is_other (Some kept) place = not (place == kept)

-- the places of the versions that go: all but that of the one that stays, the oldest first
abbrev pub tidied_away : Done → List Slot → List ℕ
tidied_away done slots = filter (is_other (place_kept done slots)) (oldest_first (length slots))
