-- When tables serve a store.
use Rattle.std.specs.Prelude.{◌≡◌, ℕ, List, length}
use Rattle.px_cells.specs.declared.cell.CellKind.{CellKind}
use Rattle.px_laid.specs.Whole.{AllFrom}
use Rattle.px_history.specs.Store.{Store}
use Rattle.px_opened.specs.Opened.{tables_of}
use Rattle.px_recs.specs.Place.{table_file}
use Rattle.px_shown.specs.Tables.{AreSound}
use Rattle.px_site.specs.State.{State}
use Rattle.px_tables.specs.Held.{Held, table_of}

-- the tables in memory, table 1 first, and the store's short length
pub record HeldTables : Type 0 where
  pub short : ℕ
  pub tables : List Held

-- as many tables, in a store with the same short length
pub record HasSameForm (held other : HeldTables) : Type 0 where
  pub short : other.short ≡ held.short
  pub count : length other.tables ≡ length held.tables

-- the table has this number, in a store with that short length
pub record IsNumbered (short number : ℕ) (table : Held) : Type 0 where
  pub its_number : table.cells.number ≡ number
  pub its_short : table.cells.short ≡ short

-- the tables are in order of their numbers
abbrev pub AreNumbered : (short : ℕ) → List Held → Type 0
AreNumbered short tables = AllFrom (IsNumbered short) 1 tables

-- the table is the one with that number
pub record IsTableOf (held : HeldTables) (number : ℕ) (table : Held) : Type 0 where
  pub is : tables_of held.tables number ≡ table_of table.cells
  pub numbered : IsNumbered held.short number table

-- the tables are those of the store, whose cells are sound
pub record AreTablesOf (held : HeldTables) (store : Store) : Type 0 where
  pub tables : (t : ℕ) → tables_of held.tables t ≡ store.tables t
  pub sound : AreSound held.short store.tables store.layouts

-- What is held and the tables' files say together are the tables of the store. All tables are in memory, so that it asks nothing
-- of the files yet.
unfoldable pub Serves : State → HeldTables → Store → Type 0
Serves site held store = AreTablesOf held store

-- the tables' files are the same
abbrev pub HasSameTables : (site other : State) → Type 0
HasSameTables site other = (what : CellKind) (table : ℕ) → other.content (table_file what table) ≡ site.content (table_file what table)
