-- What an opening found, as the life of a store that begins there.
use Rattle.std.specs.Prelude.{All, ℕ, ◌+◌, ◌<◌, ◌-◌, ◌==◌, ◌&&◌, nat_le, nat_lt, not, Bool, List, [], length, drop, None, if◌then◌else◌}
use Rattle.px_cells.specs.Unused.{free_pointer, unused_slot}
use Rattle.px_cells.specs.declared.cell.CellKind.{CellKind}
use Rattle.px_cells.specs.declared.cell.CellKind.TheVariants as kind
use Rattle.px_change.specs.declared.change.Change.{Change}
use Rattle.px_chain.specs.Sound.{IsUsedRow}
use Rattle.px_chain.specs.Table.{Table}
use Rattle.px_history.specs.Store.{Store}
use Rattle.px_laid.specs.Places.{Places}
use Rattle.px_opened.specs.Opened.{changes_over}
use Rattle.px_shown.specs.Shown.{Done}
use Rattle.px_shown.specs.Tables.{Layouts, Tables, slots_of_row}
use Rattle.px_life.specs.Life.{Life}

-- ---- what the headers count

-- a table has its header, and the slots and row pointers that this counts
abbrev pub is_counted : Table → CellKind → (number : ℕ) → Bool
is_counted table kind.Header number = number == 0
is_counted table kind.Slot number = nat_le 1 number && nat_le number table.header.slots
is_counted table kind.Pointer number = nat_le 1 number && nat_le number table.header.rows

-- the table without what its header doesn't count
abbrev pub counted_table : Table → Table
counted_table table = record {
  header = table.header;
  slot = λ n. if is_counted table kind.Slot n then table.slot n else unused_slot;
  pointer = λ n. if is_counted table kind.Pointer n then table.pointer n else free_pointer;
}

abbrev pub counted_tables : Tables → Tables
counted_tables found = λ t. counted_table (found t)

-- the cells of the places that the headers count
abbrev pub counted_places : Tables → Places → Places
counted_places found places = λ what table number. if is_counted (found table) what number then places what table number else None

-- ---- the life that begins there

-- the tables that were found, and who is done below the next number: every other lower number is over
abbrev pub store_found : (next : ℕ) → Tables → Layouts → Done → Store
store_found next found layouts done = record {
  tables = counted_tables found;
  layouts = layouts;
  done = λ xn. nat_lt xn next && done xn;
  over = λ xn. nat_lt xn next && not (done xn);
}

-- The log's changes from the frame `first` on were read, and those from `redo` on were laid over the cells of the files.
abbrev pub life_found : (next first redo : ℕ) → List Change → (files : Places) → Tables → Layouts → Done → Life
life_found next first redo changes files found layouts done = record {
  first = first;
  changes = changes;
  redo = redo;
  start = first + length changes;
  base = store_found next found layouts done;
  below = counted_places found (changes_over files (drop (redo - first) changes));
  steps = [];
}

-- the numbers in the chains are below this one
abbrev pub AreBelow : (next : ℕ) → Tables → Layouts → Type 0
AreBelow next found layouts = (t row : ℕ) → IsUsedRow (found t) row → All (λ slot. slot.xn < next) (slots_of_row (found t) (layouts t) row)
