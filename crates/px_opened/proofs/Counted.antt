-- What the headers of tables in memory don't count.
use Rattle.std.proofs.Common.{◌≡◌, ◌≢◌, ℕ, zero, suc, ◌≤◌, List, [], ◌∷◌, ◌++◌, length, get_or, refl, sym, subst, arith, ⊎_elim}
use Rattle.std.proofs.lemmas.Bool.{cases_eq, eq-eqb, ne_eqb}
use Rattle.std.proofs.lemmas.List.{get_or_past}
use Rattle.px_cells.specs.Unused.{free_pointer, unused_slot}
use Rattle.px_laid.specs.Places.{Places}
use Rattle.px_laid.proofs.Numbers.{AllFrom-push}
use Rattle.px_laid.specs.Whole.{AllFrom, AreCellsOf}
use Rattle.px_laid.specs.declared.table.TableCells.{TableCells}
use Rattle.px_tables.specs.Held.{Cells, Held, cells_from, table_of}
use Rattle.px_opened.specs.Opened.{IsCounted, numbered_from, tables_of}

-- ---- a table

past : {X : Type 0} (first : X) (items : List X) (count n : ℕ) → length items ≡ count → ¬ ((1 ≤ n) × (n ≤ count)) → get_or (first ∷ items) n first ≡ first
past first items count zero long not = refl
past first items count (suc n) long not = get_or_past items n first (omega (arith, long, λ (within : suc n ≤ count). not (omega arith, within)))

pub counted_read : (short number : ℕ) (places : Places) (cells : TableCells) (table : Cells) → AreCellsOf short places number cells
    → table ≡ cells_from number short cells.header cells.pointers.items cells.slots.items → IsCounted (table_of table)
counted_read short number places cells table are is = subst (λ (c : Cells). IsCounted (table_of c)) (sym is) (record {
  slots = λ n not. past unused_slot cells.slots.items cells.header.slots n are.slots.long not;
  pointers = λ n not. past free_pointer cells.pointers.items cells.header.rows n are.pointers.long not;
})

-- ---- tables in order of their numbers

abbrev pub AreCounted : (first : ℕ) → List Held → Type 0
AreCounted first opened = AllFrom (λ number table. IsCounted (table_of table.cells)) first opened

counted_from : (first : ℕ) (opened : List Held) → AreCounted first opened → (t : ℕ) → IsCounted (numbered_from first opened t)
counted_from first [] all t = record { slots = λ n not. refl; pointers = λ n not. refl }
counted_from first (table ∷ others) all t = ⊎_elim
    (λ (here : t ≡ first). rw (eq-eqb t first here) all.0)
    (λ (away : t ≢ first). rw (ne_eqb t first away) (counted_from (suc first) others all.1 t))
    (cases_eq t first)

pub one_counted : (opened : List Held) (table : Held) → AreCounted 1 opened → IsCounted (table_of table.cells) → AreCounted 1 (opened ++ table ∷ [])
one_counted opened table all next = AllFrom-push (λ number (t : Held). IsCounted (table_of t.cells)) 1 opened table all next

pub all_counted : (opened : List Held) → AreCounted 1 opened → (t : ℕ) → IsCounted (tables_of opened t)
all_counted opened all = counted_from 1 opened all
