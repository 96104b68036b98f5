-- There is a next number.
use Rattle.std.proofs.Common.{◌≡◌, ◌⊎◌, ℕ, zero, suc, ◌+◌, ◌<◌, ◌≤◌, max, true, All, List, [], ◌∷◌, sym, ap, subst, ◌∙◌, arith, inl, inr, ⊎_elim}
use Rattle.std.proofs.lemmas.Bool.{and_parts, cases_Bool, cases_eq, false≢true, ltb-true}
use Rattle.std.proofs.lemmas.List.Elements.{All-cons, All-head, All-nil, All-tail, All-weaker}
use Rattle.px_beginning.specs.Numbers.{IsNext, IsUnnamed}
use Rattle.px_cells.specs.declared.header.Header.{Header}
use Rattle.px_cells.specs.declared.slot.Slot.{Slot}
use Rattle.px_chain.specs.Sound.{IsUsedRow, Layout}
use Rattle.px_chain.specs.Table.{Table}
use Rattle.px_change.specs.Grammar.{is_change, is_stored}
use Rattle.px_change.specs.declared.change.Change.{Change}
use Rattle.px_history.specs.Fitting.{IsTable}
use Rattle.px_laid.specs.Places.{Places}
use Rattle.px_life.specs.Life.{MayStand}
use Rattle.px_log.proofs.FramesOfChanges.{may_be_written}
use Rattle.px_model.specs.declared.limits.TheConstants.{STORED_NUMBERS_END}
use Rattle.px_opened.proofs.Numbers.{table_or_not}
use Rattle.px_opened.specs.Opened.{Opens}
use Rattle.px_reached.specs.Stands.{Finds}
use Rattle.px_restart.specs.Restart.{CanRestart, IsPicked}
use Rattle.px_restart.specs.declared.restart.Restart.{Restart}
use Rattle.px_shown.specs.Tables.{Layouts, Tables, slots_of_row}
use Rattle.px_site.specs.declared.name.FileName.TheVariants.{Restart as RestartFile}
use Rattle.px_standing.specs.Files.{Files}

-- ---- least numbers

record LeastOf (P : ℕ → Type 0) : Type 0 where
  at : ℕ
  holds : P at
  least : (other : ℕ) → P other → at ≤ other

-- what is so of a number is so of each greater one
abbrev Rises : (ℕ → Type 0) → Type 0
Rises P = (n more : ℕ) → n ≤ more → P n → P more

least_both : (P Q : ℕ → Type 0) → Rises P → Rises Q → LeastOf P → LeastOf Q → LeastOf (λ n. P n × Q n)
least_both P Q p_rises q_rises p q = record {
  at = max p.at q.at;
  holds = (p_rises p.at (max p.at q.at) (omega arith) p.holds, q_rises q.at (max p.at q.at) (omega arith) q.holds);
  least = λ other both. omega (arith, p.least other both.0, q.least other both.1);
}

least_same : (P Q : ℕ → Type 0) → ((n : ℕ) → P n → Q n) → ((n : ℕ) → Q n → P n) → LeastOf P → LeastOf Q
least_same P Q to from p = record { at = p.at; holds = to p.at p.holds; least = λ other is. p.least other (from other is) }

-- ---- lists

abbrev AllBelow : {X : Type 0} → (X → ℕ) → List X → ℕ → Type 0
AllBelow number xs n = All (λ x. number x < n) xs

below_rises : {X : Type 0} (number : X → ℕ) (xs : List X) → Rises (AllBelow number xs)
below_rises number xs n more rose below = All-weaker (λ x. number x < n) (λ x. number x < more) (λ x less. omega (arith, less, rose)) xs below

least_past : {X : Type 0} (number : X → ℕ) (xs : List X) → LeastOf (AllBelow number xs)
least_past number [] = record { at = 0; holds = All-nil (λ x. number x < 0); least = λ other below. omega arith }
least_past number (x ∷ xs) =
    let rest = least_past number xs in
    let next = max (number x + 1) rest.at in
    record {
      at = next;
      holds = All-cons (λ y. number y < next) x xs (omega arith) (below_rises number xs rest.at next (omega arith) rest.holds);
      least = λ other below.
          omega (arith, All-head (λ y. number y < other) x xs below, rest.least other (All-tail (λ y. number y < other) x xs below));
    }

-- ---- versions

up_to_one_more : (n last : ℕ) → n ≤ suc last → (n ≤ last) ⊎ (n ≡ suc last)
up_to_one_more n last upto = ⊎_elim
    (λ (is : n ≡ suc last). inr is)
    (λ (not : n ≡ suc last → ⊥). inl (omega (arith, upto, not)))
    (cases_eq n (suc last))

-- the row's versions have numbers below this one
abbrev RowBelow : Table → Layout → (row : ℕ) → ℕ → Type 0
RowBelow table layout row n = IsUsedRow table row → AllBelow (λ slot. slot.xn) (slots_of_row table layout row) n

row_rises : (table : Table) (layout : Layout) (row : ℕ) → Rises (RowBelow table layout row)
row_rises table layout row n more rose below used = below_rises (λ (slot : Slot). slot.xn) (slots_of_row table layout row) n more rose (below used)

least_of_row : (table : Table) (layout : Layout) (row : ℕ) → 1 ≤ row → row ≤ table.header.rows → LeastOf (RowBelow table layout row)
least_of_row table layout row from to = elim (cases_Bool (table.pointer row).used) [
  | inl used ↦
      let past = least_past (λ (slot : Slot). slot.xn) (slots_of_row table layout row) in
      record { at = past.at; holds = λ is. past.holds; least = λ other below. past.least other (below ((from, to), used)) }
  | inr not ↦ record { at = 0; holds = λ is. absurd (false≢true (sym not ∙ is.1)); least = λ other below. omega arith }
]

-- the same up to a row
abbrev RowsBelow : Table → Layout → (last : ℕ) → ℕ → Type 0
RowsBelow table layout last n = (row : ℕ) → row ≤ last → RowBelow table layout row n

rows_rise : (table : Table) (layout : Layout) (last : ℕ) → Rises (RowsBelow table layout last)
rows_rise table layout last n more rose below row within = row_rises table layout row n more rose (below row within)

least_of_rows : (table : Table) (layout : Layout) (last : ℕ) → last ≤ table.header.rows → LeastOf (RowsBelow table layout last)
least_of_rows table layout zero within = record {
  at = 0;
  holds = λ row upto used. absurd (omega (arith, upto, used.0.0));
  least = λ other below. omega arith;
}
least_of_rows table layout (suc last) within =
    least_same (λ n. RowsBelow table layout last n × RowBelow table layout (suc last) n) (RowsBelow table layout (suc last))
    (λ n both row upto. one_more n both row upto)
    (λ n below. (λ row upto. below row (omega (arith, upto)), below (suc last) (omega arith)))
    (least_both (RowsBelow table layout last) (RowBelow table layout (suc last)) (rows_rise table layout last) (row_rises table layout (suc last))
    (least_of_rows table layout last (omega (arith, within))) (least_of_row table layout (suc last) (omega arith) within))
  where
    one_more : (n : ℕ) → RowsBelow table layout last n × RowBelow table layout (suc last) n → (row : ℕ) → row ≤ suc last → RowBelow table layout row n
    one_more n both row upto = ⊎_elim
        (λ (lower : row ≤ last). both.0 row lower)
        (λ (is : row ≡ suc last). subst (λ r. RowBelow table layout r n) (sym is) both.1)
        (up_to_one_more row last upto)

-- ---- tables

abbrev TableBelow : Tables → Layouts → (t : ℕ) → ℕ → Type 0
TableBelow found layouts t n = (row : ℕ) → RowBelow (found t) (layouts t) row n

table_rises : (found : Tables) (layouts : Layouts) (t : ℕ) → Rises (TableBelow found layouts t)
table_rises found layouts t n more rose below row = row_rises (found t) (layouts t) row n more rose (below row)

least_of_table : (found : Tables) (layouts : Layouts) (t : ℕ) → LeastOf (TableBelow found layouts t)
least_of_table found layouts t =
    let last = (found t).header.rows in
    least_same (RowsBelow (found t) (layouts t) last) (TableBelow found layouts t)
    (λ n below row used. below row used.0.1 used)
    (λ n below row upto. below row)
    (least_of_rows (found t) (layouts t) last (omega arith))

abbrev TablesBelow : Tables → Layouts → (last : ℕ) → ℕ → Type 0
TablesBelow found layouts last n = (t : ℕ) → t ≤ last → TableBelow found layouts t n

tables_rise : (found : Tables) (layouts : Layouts) (last : ℕ) → Rises (TablesBelow found layouts last)
tables_rise found layouts last n more rose below t within = table_rises found layouts t n more rose (below t within)

least_of_tables : (found : Tables) (layouts : Layouts) (last : ℕ) → LeastOf (TablesBelow found layouts last)
least_of_tables found layouts zero =
    least_same (TableBelow found layouts 0) (TablesBelow found layouts 0)
    (λ n below t within. let none : t ≡ 0 = omega (arith, within) in subst (λ k. TableBelow found layouts k n) (sym none) below)
    (λ n below. below 0 (omega arith))
    (least_of_table found layouts 0)
least_of_tables found layouts (suc last) =
    least_same (λ n. TablesBelow found layouts last n × TableBelow found layouts (suc last) n) (TablesBelow found layouts (suc last))
    (λ n both t upto. one_more n both t upto)
    (λ n below. (λ t upto. below t (omega (arith, upto)), below (suc last) (omega arith)))
    (least_both (TablesBelow found layouts last) (TableBelow found layouts (suc last)) (tables_rise found layouts last) (table_rises found layouts (suc last))
    (least_of_tables found layouts last) (least_of_table found layouts (suc last)))
  where
    one_more : (n : ℕ) → TablesBelow found layouts last n × TableBelow found layouts (suc last) n → (t : ℕ) → t ≤ suc last → TableBelow found layouts t n
    one_more n both t upto = ⊎_elim
        (λ (lower : t ≤ last). both.0 t lower)
        (λ (is : t ≡ suc last). subst (λ k. TableBelow found layouts k n) (sym is) both.1)
        (up_to_one_more t last upto)

-- ---- the next number

-- a table past the last one has no row
no_row : (short tables : ℕ) (places : Places) (found : Tables) (layouts : Layouts) → Opens short tables places found layouts → (t row : ℕ) → IsUsedRow (found t) row → t ≤ tables
no_row short tables places found layouts opens t row used = ⊎_elim
    (λ (is : IsTable tables t). is.1)
    (λ (not : IsTable tables t → ⊥).
    let none : (found t).header.rows ≡ 0 = ap (λ (h : Header). h.rows) (opens.others t not).header in
    absurd (omega (arith, none, used.0.0, used.0.1)))
    (table_or_not tables t)

pub next_is : (short tables : ℕ) (places : Places) (restart : Restart) (changes : List Change) (found : Tables) (layouts : Layouts) → Opens short tables places found layouts
    → (next : ℕ) × IsNext restart changes found layouts next
next_is short tables places restart changes found layouts opens =
    let frames = least_past (λ (change : Change). change.xn) changes in
    let versions = least_of_tables found layouts tables in
    let next = max restart.next (max frames.at versions.at) in (
      next,
      record {
        unnamed = record {
          restart_is = omega arith;
          frames = below_rises (λ (change : Change). change.xn) changes frames.at next (omega arith) frames.holds;
          versions = λ t row used.
              tables_rise found layouts tables versions.at next (omega arith) versions.holds t (no_row short tables places found layouts opens t row used) row used;
        };
        least = λ other unnamed.
            omega (arith, unnamed.restart_is, frames.least other unnamed.frames, versions.least other (λ t within row used. unnamed.versions t row used));
      },
    )

-- ---- and it is a stored one, or the first past these

pub can_of : (a b : List ℕ) (restart : Restart) → IsPicked a b restart → CanRestart restart
can_of a b restart picked = elim picked [ inl one ↦ one.0.can | inr one ↦ one.0.can ]

stored_change : (short : ℕ) (change : Change) → is_change short change ≡ true → change.xn < STORED_NUMBERS_END
unfolding is_change
stored_change short change is =
    let stored = (and_parts (is_stored change.xn) _ is).0 in
    ltb-true change.xn STORED_NUMBERS_END (and_parts _ _ stored).1

changes_stored : (tables number short : ℕ) (changes : List Change) → MayStand tables number short changes → All (λ change. change.xn < STORED_NUMBERS_END) changes
changes_stored tables number short [] stand = All-nil (λ (change : Change). change.xn < STORED_NUMBERS_END)
changes_stored tables number short (change ∷ changes) stand =
    All-cons (λ (c : Change). c.xn < STORED_NUMBERS_END) change changes (stored_change short change (may_be_written tables number short change stand.0))
    (changes_stored tables (number + 1) short changes stand.1)

pub numbers_end : (files : Files) (restart : Restart) (changes : List Change) (found : Tables) (layouts : Layouts) → Finds files restart changes found layouts
    → IsUnnamed restart changes found layouts STORED_NUMBERS_END
numbers_end files restart changes found layouts finds = record {
  restart_is = (can_of (files (RestartFile 0)) (files (RestartFile 1)) restart finds.picked).marks.next_to;
  frames = changes_stored restart.tables restart.first restart.short changes finds.held;
  versions = λ t row used. All-weaker (λ (slot : Slot). (1 ≤ slot.xn) × (slot.xn < STORED_NUMBERS_END)) (λ (slot : Slot). slot.xn < STORED_NUMBERS_END)
      (λ slot stored. stored.1) (slots_of_row (found t) (layouts t) row) (finds.numbers t row used);
}
