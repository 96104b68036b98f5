-- Small changes.
use Rattle.std.specs.Prelude.{ℕ, List, [], replicate}
use Rattle.px_cells.specs.declared.cell.Cell.{Cell}
use Rattle.px_cells.specs.declared.cell.CellKind.TheVariants.{Header, Slot, Pointer}
use Rattle.px_change.specs.declared.change.Change.{Change}
use Rattle.px_change.specs.declared.change.ChangeKind.{ChangeKind}
use Rattle.px_change.specs.declared.change.ChangeKind.TheVariants.{Commit}

abbrev pub commit_of : (xn commit : ℕ) → Change
commit_of xn commit = record { kind = Commit; xn = xn; commit = commit; cells = [] }

-- transaction 1 did it
abbrev pub with_cells : ChangeKind → List Cell → Change
with_cells kind cells = record { kind = kind; xn = 1; commit = 0; cells = cells }

-- cells of a store whose short length is 64, of zero bytes
abbrev pub header : (table : ℕ) → Cell
header table = record { what = Header; table = table; number = 0; bytes = replicate 16 0 }

abbrev pub slot : (table number : ℕ) → Cell
slot table number = record { what = Slot; table = table; number = number; bytes = replicate 164 0 }

abbrev pub pointer : (table number : ℕ) → Cell
pointer table number = record { what = Pointer; table = table; number = number; bytes = replicate 8 0 }
