-- Which slots a store with a short length may have (docs/FORMATS.md, 'Cells').
use Rattle.std.specs.Prelude.{ℕ, Bool, ◌&&◌, ◌||◌, ◌==◌, nat_le, length, min, if◌then◌else◌}
use Rattle.px_model.specs.declared.limits.TheConstants.{LONGEST_KEY}
use Rattle.px_model.specs.declared.limits.TheConstants.{SHORTEST_SHORT, LONGEST_SHORT}
use Rattle.px_model.specs.declared.limits.TheConstants.{LONGEST_BODY}
use Rattle.px_cells.specs.declared.slot.Slot.{Slot}
use Rattle.px_cells.specs.declared.slot.SlotState.{SlotState}
use Rattle.px_cells.specs.declared.slot.SlotState.TheVariants.{Free, Row, Deletion}

-- the short lengths that a store may have
abbrev pub is_short : ℕ → Bool
is_short short = nat_le SHORTEST_SHORT short && nat_le short LONGEST_SHORT

abbrev pub has_key : Slot → Bool
has_key slot = nat_le 1 (length slot.key) && nat_le (length slot.key) LONGEST_KEY

-- nothing lies in a data log
abbrev pub has_no_part : Slot → Bool
has_no_part slot = (slot.log == 0) && (slot.place == 0)

abbrev pub has_no_body : Slot → Bool
has_no_body slot = (slot.total == 0) && ((length slot.short == 0) && has_no_part slot)

-- what is past the short length lies in a data log
abbrev pub has_body : (short : ℕ) → Slot → Bool
has_body short slot =
    nat_le slot.total LONGEST_BODY
    && ((length slot.short == min slot.total short)
    && (if nat_le slot.total short then has_no_part slot else nat_le 1 slot.log))

-- a slot that was never used has only zeros
abbrev pub is_unused : Slot → Bool
is_unused slot = (length slot.key == 0) && ((slot.next == 0) && (slot.tag == 0))

-- a slot that was freed keeps its key and its tag
abbrev pub is_free : Slot → Bool
is_free slot = (slot.xn == 0) && ((slot.row == 0) && (has_no_body slot && (has_key slot || is_unused slot)))

abbrev pub is_in_state : (short : ℕ) → Slot → SlotState → Bool
is_in_state short slot Free = is_free slot
is_in_state short slot Row = has_key slot && has_body short slot
is_in_state short slot Deletion = has_key slot && ((slot.tag == 0) && has_no_body slot)

unfoldable pub is_slot : (short : ℕ) → Slot → Bool
is_slot short slot = is_in_state short slot slot.state
