-- The table that given cells make.
use Rattle.std.specs.Prelude.{◌-◌, List, slice_index_or}
use Rattle.px_cells.specs.declared.header.Header.{Header}
use Rattle.px_cells.specs.declared.pointer.Pointer.{Pointer}
use Rattle.px_cells.specs.declared.slot.Slot.{Slot}
use Rattle.px_chain.specs.Table.{Table}
use Rattle.px_cells.specs.Unused.{unused_slot, free_pointer}
use Rattle.px_survey.specs.declared.cells.Cells.{Cells}

-- the slots and the row pointers in order of their numbers, which begin with 1
abbrev pub table_of : Header → List Pointer → List Slot → Table
table_of header pointers slots =
    record {
      header = header;
      slot = λ number. slice_index_or slots (number - 1) unused_slot;
      pointer = λ number. slice_index_or pointers (number - 1) free_pointer;
    }

abbrev pub table_in : Cells → Table
table_in cells = table_of cells.header.now cells.pointers.now cells.slots.now
