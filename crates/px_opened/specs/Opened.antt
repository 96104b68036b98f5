-- The tables that the places of cells open to.
use Rattle.std.specs.Prelude.{◌≡◌, ℕ, suc, List, [], ◌∷◌, fold}
use Rattle.px_cells.specs.Unused.{free_pointer, unused_slot}
use Rattle.px_change.specs.declared.change.Change.{Change}
use Rattle.px_chain.specs.Sound.{IsPlace, IsSlot, IsSound, Layout, no_layout, no_places}
use Rattle.px_chain.specs.Table.{Table}
use Rattle.px_free.specs.Places.{rows_of}
use Rattle.px_history.specs.Fitting.{IsTable}
use Rattle.px_laid.specs.Places.{Places, laid_over}
use Rattle.px_laid.specs.Reading.{header_bytes}
use Rattle.px_chain.specs.Unused.{unused_table}
use Rattle.px_laid.specs.Whole.{AreAll, IsLaidPointer, IsLaidSlot}
use Rattle.px_recs.specs.Text.{HeaderAt}
use Rattle.px_shown.specs.Tables.{Layouts, Tables, with_table}
use Rattle.px_tables.specs.Held.{Cells, Held, table_of}

-- the cells of each change lie over those of the changes before it
abbrev pub changes_over : Places → List Change → Places
changes_over below changes = fold (λ places (change : Change). laid_over places change.cells) below changes

-- ---- one table

-- In a store with that short length, the cells of this table are those that the places of the table with that number have, up
-- to what its header counts.
pub record IsReadOf (short : ℕ) (places : Places) (number : ℕ) (table : Table) : Type 0 where
  pub header : HeaderAt (header_bytes places number) table.header
  pub pointers : (n : ℕ) → IsPlace (rows_of table.header) n → IsLaidPointer places number n (table.pointer n)
  pub slots : (n : ℕ) → IsSlot table n → IsLaidSlot short places number n (table.slot n)

-- the places have this table, and its cells are sound
pub record OpensTo (short : ℕ) (places : Places) (number : ℕ) (table : Table) (layout : Layout) : Type 0 where
  pub read : IsReadOf short places number table
  pub sound : IsSound short table layout

-- no place of the table was ever used
pub record IsUnused (table : Table) (layout : Layout) : Type 0 where
  pub header : table.header ≡ no_places
  pub lists : layout ≡ no_layout

-- two tables have the same cells, up to what their headers count
pub record IsSameTable (a b : Table) : Type 0 where
  pub header : a.header ≡ b.header
  pub pointers : (n : ℕ) → IsPlace (rows_of a.header) n → a.pointer n ≡ b.pointer n
  pub slots : (n : ℕ) → IsSlot a n → a.slot n ≡ b.slot n

-- the same places stand in the same chains and on the same free lists
pub record IsSameLayout (a b : Layout) : Type 0 where
  pub chains : (row : ℕ) → a.chain row ≡ b.chain row
  pub free_slots : a.free_slots ≡ b.free_slots
  pub free_rows : a.free_rows ≡ b.free_rows

-- ---- all tables

-- In a store with so many tables and that short length, the places open to these tables, with these layouts.
pub record Opens (short tables : ℕ) (places : Places) (found : Tables) (layouts : Layouts) : Type 0 where
  pub each : (t : ℕ) → IsTable tables t → OpensTo short places t (found t) (layouts t)
  pub others : (t : ℕ) → ¬ IsTable tables t → IsUnused (found t) (layouts t)

-- ---- tables in memory

-- the table in memory is the one with that number
pub record IsOpened (short : ℕ) (places : Places) (number : ℕ) (cells : Cells) : Type 0 where
  pub its_number : cells.number ≡ number
  pub its_short : cells.short ≡ short
  pub layout : Layout
  pub opens : OpensTo short places number (table_of cells) layout

-- the places that the header doesn't count are as those that were never used
pub record IsCounted (table : Table) : Type 0 where
  pub slots : (n : ℕ) → ¬ IsSlot table n → table.slot n ≡ unused_slot
  pub pointers : (n : ℕ) → ¬ IsPlace (rows_of table.header) n → table.pointer n ≡ free_pointer

-- they are the tables of a store with so many, in order of their numbers
abbrev pub AreOpened : (short tables : ℕ) → Places → List Held → Type 0
AreOpened short tables places opened = AreAll (λ number table. IsOpened short places number table.cells) tables opened

-- tables in order of their numbers, from this one on
abbrev pub numbered_from : (first : ℕ) → List Held → Tables
numbered_from first [] = λ t. unused_table
numbered_from first (table ∷ others) = with_table (numbered_from (suc first) others) first (table_of table.cells)

abbrev pub tables_of : List Held → Tables
tables_of opened = numbered_from 1 opened
