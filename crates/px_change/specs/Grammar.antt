-- Which changes a store with a short length may have, and which of them a frame of the log may hold.
use Rattle.std.specs.Prelude.{ℕ, ◌+◌, ◌^◌, Bool, true, false, ◌&&◌, ◌||◌, ◌==◌, nat_lt, nat_le, List, [], ◌∷◌, length}
use Rattle.std.specs.List.{list_all}
use Rattle.px_cells.specs.Form.{is_short}
use Rattle.px_cells.specs.declared.cell.Cell.{Cell}
use Rattle.px_cells.specs.declared.cell.CellKind.{CellKind}
use Rattle.px_cells.specs.declared.cell.CellKind.TheVariants.{Header, Slot, Pointer}
use Rattle.px_cells.specs.declared.limits.TheConstants.{HEADER_SIZE, SLOT_HEAD_SIZE, POINTER_SIZE}
use Rattle.px_model.specs.declared.limits.TheConstants.{MOST_TABLES, STORED_NUMBERS_END}
use Rattle.px_change.specs.declared.change.Change.{Change}
use Rattle.px_change.specs.declared.change.ChangeKind.{ChangeKind}
use Rattle.px_change.specs.declared.change.ChangeKind.TheVariants.{Put, Commit, Rollback, Sweep, Move, Tidy}
use Rattle.px_change.specs.declared.limits.TheConstants.{LEAST_UNLINKING, MOST_CELLS}
use Rattle.px_change.specs.Text.{cell_code}

-- ---- cells

-- a header has no number
abbrev pub is_number : CellKind → (number : ℕ) → Bool
is_number Header number = number == 0
is_number Slot number = nat_le 1 number && nat_lt number (2 ^ 32)
is_number Pointer number = nat_le 1 number && nat_lt number (2 ^ 32)

abbrev pub is_size : (short : ℕ) → CellKind → (size : ℕ) → Bool
is_size short Header size = size == HEADER_SIZE
is_size short Slot size = is_short short && (size == SLOT_HEAD_SIZE + short)
is_size short Pointer size = size == POINTER_SIZE

abbrev pub is_table : ℕ → Bool
is_table table = nat_le 1 table && nat_le table MOST_TABLES

abbrev pub is_cell : (short : ℕ) → Cell → Bool
is_cell short cell = is_table cell.table && (is_number cell.what cell.number && is_size short cell.what (length cell.bytes))

-- of the same table, and of a lower kind or of a lower number
abbrev pub is_before : Cell → Cell → Bool
is_before first second =
    (first.table == second.table)
    && (nat_lt (cell_code first.what) (cell_code second.what)
    || ((cell_code first.what == cell_code second.what) && nat_lt first.number second.number))

-- each stands before the next
abbrev pub rise_behind : Cell → List Cell → Bool
rise_behind before [] = true
rise_behind before (cell ∷ cells) = is_before before cell && rise_behind cell cells

abbrev pub rise : List Cell → Bool
rise [] = true
rise (cell ∷ cells) = rise_behind cell cells

-- ---- changes

abbrev pub is_what : CellKind → Cell → Bool
is_what what cell = cell_code cell.what == cell_code what

abbrev pub is_version : List Cell → Bool
is_version (first ∷ second ∷ third ∷ []) = is_what Header first && (is_what Slot second && is_what Pointer third)
is_version cells = false

abbrev pub is_slot_alone : List Cell → Bool
is_slot_alone (cell ∷ []) = is_what Slot cell
is_slot_alone cells = false

-- so many cells has a change that unlinks versions
abbrev pub is_unlinking : List Cell → Bool
is_unlinking cells = nat_le LEAST_UNLINKING (length cells) && nat_le (length cells) MOST_CELLS

abbrev pub has_cells : ChangeKind → List Cell → Bool
has_cells Put cells = is_version cells
has_cells Commit cells = length cells == 0
has_cells Rollback cells = length cells == 0
has_cells Sweep cells = is_unlinking cells
has_cells Move cells = is_slot_alone cells
has_cells Tidy cells = is_unlinking cells

abbrev pub has_commit : ChangeKind → (commit : ℕ) → Bool
has_commit Commit commit = nat_le 1 commit && nat_lt commit (2 ^ 64)
has_commit kind commit = commit == 0

-- the stored numbers of transactions
abbrev pub is_stored : ℕ → Bool
is_stored xn = nat_le 1 xn && nat_lt xn STORED_NUMBERS_END

unfoldable pub is_change : (short : ℕ) → Change → Bool
is_change short change =
    is_stored change.xn
    && (has_commit change.kind change.commit && (has_cells change.kind change.cells && (list_all (is_cell short) change.cells && rise change.cells)))

-- ---- frames

-- the number of a commit goes with that of its frame
abbrev pub is_due : (number : ℕ) → ChangeKind → (commit : ℕ) → Bool
is_due number Commit commit = nat_le commit (number + 1)
is_due number kind commit = true

abbrev pub is_of_tables : (tables : ℕ) → Cell → Bool
is_of_tables tables cell = nat_le cell.table tables

abbrev pub is_within : (tables number : ℕ) → Change → Bool
is_within tables number change = list_all (is_of_tables tables) change.cells && is_due number change.kind change.commit

-- the frame of this number may hold the change, in a store with so many tables and that short length
unfoldable pub may_hold : (tables number short : ℕ) → Change → Bool
may_hold tables number short change = is_change short change && is_within tables number change
