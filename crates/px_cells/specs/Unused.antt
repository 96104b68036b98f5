-- The cells of places that were never used.
use Rattle.std.specs.Prelude.{false, []}
use Rattle.px_cells.specs.declared.pointer.Pointer.{Pointer}
use Rattle.px_cells.specs.declared.slot.Slot.{Slot}
use Rattle.px_cells.specs.declared.slot.SlotState.TheVariants.{Free}

abbrev pub unused_slot : Slot
unused_slot = record { state = Free; xn = 0; next = 0; row = 0; tag = 0; total = 0; log = 0; place = 0; key = []; short = [] }

abbrev pub free_pointer : Pointer
free_pointer = record { used = false; head = 0 }
