-- The parts of long bodies that lie in the data logs, and which of them a slot names.
use Rattle.std.specs.Prelude.{◌≡◌, ◌≢◌, ℕ, ◌==◌, ◌++◌, List, [], All, if◌then◌else◌}
use Rattle.px_cells.specs.declared.slot.Slot.{Slot}
use Rattle.px_chain.specs.Sound.{IsUsedRow}
use Rattle.px_shown.specs.Tables.{Tables, Layouts, slots_of_row}

-- by a log's number and a place in it, the bytes that this reference names
abbrev pub Parts : Type 0
Parts = (log place : ℕ) → List ℕ

-- nothing lies in the data logs
abbrev pub no_parts : Parts
no_parts log place = []

-- what the slot's body has past the short part; log 0 is none
abbrev pub tail_of : Parts → Slot → List ℕ
tail_of parts slot = if slot.log == 0 then [] else parts slot.log slot.place

abbrev pub body_of : Parts → Slot → List ℕ
body_of parts slot = slot.short ++ tail_of parts slot

-- the same bytes at the slot's reference, where it has one
abbrev pub AgreeAt : (parts others : Parts) → Slot → Type 0
AgreeAt parts others slot = slot.log ≢ 0 → parts slot.log slot.place ≡ others slot.log slot.place

-- and so at that of each slot in a chain
abbrev pub AgreeInChains : (parts others : Parts) → Tables → Layouts → Type 0
AgreeInChains parts others tables layouts =
    (t row : ℕ) → IsUsedRow (tables t) row → All (AgreeAt parts others) (slots_of_row (tables t) (layouts t) row)
