-- The rows of tables, counted key by key and table by table.
use Rattle.std.proofs.Common.{◌≡◌, ℕ, ◌+◌, ◌==◌, ◌&&◌, nat_le, Bool, true, false, cond, List, [], ◌∷◌, ◌++◌, length, Option, Some, None, refl, sym, ap, subst, ◌∙◌, arith, length-append}
use Rattle.std.specs.Prelude.{T, filter, option_to_list}
use Rattle.std.specs.List.{All}
use Rattle.std.proofs.lemmas.Bool.Decides.{nat_tests}
use Rattle.std.proofs.lemmas.Bool.{and_parts, leb-true}
use Rattle.std.proofs.lemmas.List.Elements.{All-cons, All-head, All-nil, All-tail, All-weaker}
use Rattle.std.proofs.lemmas.Option.{none-some}
use Rattle.px_answers.proofs.Gathering.{all_gathered, next_gathered, none_gathered}
use Rattle.px_answers.specs.Reading.{rows_to}
use Rattle.px_calls.specs.Steps.{rows_of_table}
use Rattle.px_chain.specs.Sound.{IsUsedRow}
use Rattle.px_held.specs.Linking.{HasTable}
use Rattle.px_held.specs.Serving.{HeldTables}
use Rattle.px_history.specs.Store.{Store}
use Rattle.px_model.specs.declared.row.Row.{Row}
use Rattle.px_model.specs.Rows.{key_of as key_of_row, row_at, same_key}
use Rattle.px_model_laws.proofs.RowsAsMap.{AreRows}
use Rattle.px_shown.proofs.Keys.{same_key-refl}
use Rattle.px_tables.specs.Order.{HasNoKeyPast, IsBefore, IsNextKey, IsPast}
use Rattle.px_recovery.specs.Counting.{HasRows}

are_rows : (store : Store) (rows : List Row) → HasRows store rows → AreRows rows
are_rows store rows has = subst T (sym has.order) tt

-- ---- the keys of a table

pub no_keys : (t : ℕ) (rows : List Row) → 0 ≡ length (rows_to t None rows)
no_keys t rows = sym (ap (λ (l : List Row). length l) (none_gathered t rows))

-- the next key is that of one row more
pub next_key : (store : Store) (rows : List Row) (t : ℕ) (last : Option (List ℕ)) (key : List ℕ) (row : ℕ) → HasRows store rows → IsNextKey (store.tables t) last key row
    → length (rows_to t (Some key) rows) ≡ length (rows_to t last rows) + 1
next_key store rows t last key row has next =
    let its = has.some t row next.its_row.0 in
    let here : row_at (t, key) rows ≡ Some its.0 = ap (λ (k : List ℕ). row_at (t, k) rows) (sym next.its_row.1) ∙ its.1 in
    let gap : (other : List ℕ) → IsPast last other → IsBefore other key → row_at (t, other) rows ≡ None =
    λ other past before. has.none t other (λ used_row used same. next.least used_row used (subst (IsPast last) (sym same) past) (subst (λ (k : List ℕ). IsBefore k key) (sym same) before)) in
    ap (λ (l : List Row). length l) (next_gathered t last key rows (are_rows store rows has) next.past gap)
    ∙ ap (λ (o : Option Row). length (rows_to t last rows ++ option_to_list o)) here
    ∙ length-append (rows_to t last rows) (its.0 ∷ [])

-- behind the last key all were counted
pub all_keys : (store : Store) (rows : List Row) (t : ℕ) (last : Option (List ℕ)) → HasRows store rows → HasNoKeyPast (store.tables t) last
    → length (rows_to t last rows) ≡ length (rows_of_table t rows)
all_keys store rows t last has none =
    ap (λ (l : List Row). length l)
    (all_gathered t last rows (are_rows store rows has) (λ key past. has.none t key (λ row used same. none row used (subst (IsPast last) (sym same) past))))

-- ---- table by table

abbrev pub is_up_to : (last : ℕ) → Row → Bool
is_up_to last row = nat_le 1 row.table && nat_le row.table last

abbrev pub rows_up_to : (last : ℕ) → List Row → List Row
rows_up_to last rows = filter (is_up_to last) rows

none_to_none : (n : ℕ) → (nat_le 1 n && nat_le n 0) ≡ false
none_to_none n = elim (nat_le 1 n && nat_le n 0) as (λ b. (nat_le 1 n && nat_le n 0) ≡ b → b ≡ false) [
  | true ↦ λ is. let both = and_parts (nat_le 1 n) (nat_le n 0) is in absurd (omega (arith, leb-true 1 n both.0, leb-true n 0 both.1))
  | false ↦ λ is. refl
] refl

pub no_tables : (rows : List Row) → 0 ≡ length (rows_up_to 0 rows)
no_tables [] = refl
no_tables (r ∷ rows) = no_tables rows ∙ ap (λ (b : Bool). length (cond b (r ∷ rows_up_to 0 rows) (rows_up_to 0 rows))) (sym (none_to_none r.table))

one_more : (n last : ℕ) → cond (nat_le 1 n && nat_le n (last + 1)) 1 0 ≡ cond (nat_le 1 n && nat_le n last) 1 0 + cond (n == last + 1) 1 0
one_more n last = grind (arith, nat_tests)

counted : (b : Bool) (r : Row) (rows : List Row) → length (cond b (r ∷ rows) rows) ≡ cond b 1 0 + length rows
counted true r rows = omega arith
counted false r rows = omega arith

-- the next table's rows come to those of the tables before
pub next_table : (last : ℕ) (rows : List Row) → length (rows_up_to (last + 1) rows) ≡ length (rows_up_to last rows) + length (rows_of_table (last + 1) rows)
unfolding rows_of_table
next_table last [] = refl
next_table last (r ∷ rows) =
    omega (
      arith,
      counted (is_up_to (last + 1) r) r (rows_up_to (last + 1) rows),
      counted (is_up_to last r) r (rows_up_to last rows),
      counted (r.table == last + 1) r (filter (λ (row : Row). row.table == last + 1) rows),
      one_more r.table last,
      next_table last rows,
    )

-- ---- all tables

abbrev HasItsRow : List Row → Row → Type 0
HasItsRow rows r = (its : Row) × (row_at (key_of_row r) rows ≡ Some its)

behind : (r other : Row) (rows : List Row) → HasItsRow rows other → HasItsRow (r ∷ rows) other
behind r other rows its = by_same (same_key (key_of_row other) (key_of_row r)) its.0 its.1
  where
    by_same : (b : Bool) (its : Row) → row_at (key_of_row other) rows ≡ Some its → (found : Row) × (cond b (Some r) (row_at (key_of_row other) rows) ≡ Some found)
    by_same true its is = (r, refl)
    by_same false its is = (its, is)

have_rows : (rows : List Row) → All (HasItsRow rows) rows
have_rows [] = All-nil (HasItsRow [])
have_rows (r ∷ rows) =
    All-cons (HasItsRow (r ∷ rows)) r rows (r, ap (λ (b : Bool). cond b (Some r) (row_at (key_of_row r) rows)) (same_key-refl (key_of_row r)))
    (All-weaker (HasItsRow rows) (HasItsRow (r ∷ rows)) (λ other its. behind r other rows its) rows (have_rows rows))

-- a row stands in one of the tables that are held
is_within : (held : HeldTables) (store : Store) (rows : List Row) → HasRows store rows → ((t row : ℕ) → IsUsedRow (store.tables t) row → HasTable held t)
    → (r : Row) → HasItsRow rows r → is_up_to (length held.tables) r ≡ true
is_within held store rows has tables r its = by_table (is_up_to (length held.tables) r) refl
  where
    by_table : (b : Bool) → is_up_to (length held.tables) r ≡ b → b ≡ true
    by_table true is = refl
    by_table false is = absurd (none-some its.0 (sym (has.none r.table r.key (λ row used same. outside row used)) ∙ its.1))
      where
        outside : (row : ℕ) → IsUsedRow (store.tables r.table) row → ⊥
        outside row used =
            let t = tables r.table row used in
            grind (arith, nat_tests, t.0, t.1, is)

all_pass : (test : Row → Bool) (rows : List Row) → All (λ r. test r ≡ true) rows → filter test rows ≡ rows
all_pass test [] all = refl
all_pass test (r ∷ rows) all =
    ap (λ (b : Bool). cond b (r ∷ filter test rows) (filter test rows)) (All-head (λ (x : Row). test x ≡ true) r rows all)
    ∙ ap (λ (l : List Row). r ∷ l) (all_pass test rows (All-tail (λ (x : Row). test x ≡ true) r rows all))

pub all_tables : (held : HeldTables) (store : Store) (rows : List Row) → HasRows store rows → ((t row : ℕ) → IsUsedRow (store.tables t) row → HasTable held t)
    → length (rows_up_to (length held.tables) rows) ≡ length rows
all_tables held store rows has tables =
    ap (λ (l : List Row). length l)
    (all_pass (is_up_to (length held.tables)) rows
    (All-weaker (HasItsRow rows) (λ (r : Row). is_up_to (length held.tables) r ≡ true) (λ r its. is_within held store rows has tables r its) rows (have_rows rows)))
