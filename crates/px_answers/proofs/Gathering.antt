-- The rows of a table up to a key, and those up to the next one.
use Rattle.std.proofs.Common.{◌≡◌, ◌≢◌, ℕ, ◌==◌, Bool, true, false, cond, not, ◌&&◌, List, [], ◌∷◌, ◌++◌, Option, Some, None, refl, sym, ap, subst, ◌∙◌, ⊎_elim}
use Rattle.std.specs.Prelude.{T, filter, option_to_list}
use Rattle.std.proofs.lemmas.Cmp.{nat_cmp_total}
use Rattle.std.specs.Cmp.Lexicographic.{slice_cmp, nat_list_cmp_total}
use Rattle.std.specs.Ordering.{is_lt, nat_cmp, ordering_reverse, ordering_then}
use Rattle.std.specs.declared.cmp.Ordering.{Ordering}
use Rattle.std.specs.declared.cmp.Ordering.TheVariants.{Less, Equal, Greater}
use Rattle.std.specs.FinMap.Entries.{by_order, find, find-where_key, is_sorted, is_sorted-where_key, where_key}
use Rattle.std.proofs.lemmas.Bool.{eq-eqb, eqb-true, false≢true, true≢false}
use Rattle.std.proofs.lemmas.Option.{none-some, same_Some}
use Rattle.std.proofs.lemmas.List.{append-nil}
use Rattle.std.proofs.lemmas.List.Elements.{All-head, All-tail, All-weaker, filter-append, filter_passes}
use Rattle.std.proofs.lemmas.Map.Lookups.{exact_bytes}
use Rattle.std.specs.List.{All}
use Rattle.px_calls.specs.Steps.{rows_of_table}
use Rattle.px_model.specs.declared.row.Row.{Row}
use Rattle.px_model.specs.Rows.{Key, entries, key_cmp, key_of, row_at, same_key, with_row}
use Rattle.px_model.specs.declared.write.Write.TheVariants.{Put}
use Rattle.px_machine_laws.proofs.Overlap.{same_key-is}
use Rattle.px_model_laws.proofs.RowsAsMap.{AreRows, after_write-are, key_exact, row_at-with_row, same_rows}
use Rattle.px_shown.proofs.Keys.{key_cases, key_made, same_key-not, same_key-refl}
use Rattle.px_tables.specs.Order.{IsBefore, IsPast}
use Rattle.px_answers.specs.Reading.{has_tag, is_up_to, is_within, rows_to}

-- ---- keys in their order

itself : (o : Ordering) → o ≡ ordering_reverse o → o ≡ Equal
itself Less e = absurd (less_greater e)
  where
    less_greater : Less ≡ Greater → ⊥
    less_greater e = cc
itself Equal e = refl
itself Greater e = absurd (greater_less e)
  where
    greater_less : Greater ≡ Less → ⊥
    greater_less e = cc

up_to : (last : Option (List ℕ)) (key : List ℕ) → is_up_to last key ≡ false → IsPast last key
up_to None key past = tt
up_to (Some last) key past =
    (elim (slice_cmp nat_cmp last key) as (λ o. slice_cmp nat_cmp last key ≡ o → not (is_lt o) ≡ false → slice_cmp nat_cmp last key ≡ Less) [
      | Less ↦ λ e _. e
      | Equal ↦ λ _ h. absurd (true≢false h)
      | Greater ↦ λ _ h. absurd (true≢false h)
    ]) refl past

past_up : (last : Option (List ℕ)) (key : List ℕ) → IsPast last key → is_up_to last key ≡ false
past_up None key past = refl
past_up (Some last) key past = ap (λ (o : Ordering). not (is_lt o)) past

past_further : (last : Option (List ℕ)) (key other : List ℕ) → IsPast last key → IsBefore key other → IsPast last other
past_further None key other past before = tt
past_further (Some last) key other past before = nat_list_cmp_total.trans last key other past before

not_past_before : (last : Option (List ℕ)) (key other : List ℕ) → IsPast last key → is_up_to last other ≡ true → IsBefore other key
not_past_before last key other past up =
    (elim (slice_cmp nat_cmp other key) as (λ o. slice_cmp nat_cmp other key ≡ o → slice_cmp nat_cmp other key ≡ Less) [
      | Less ↦ λ e. e
      | Equal ↦ λ e. absurd (true≢false (sym up ∙ past_up last other (subst (IsPast last) (sym (exact_bytes other key e)) past)))
      | Greater ↦ λ e.
          let before : IsBefore key other = nat_list_cmp_total.antisymm key other ∙ ap ordering_reverse e in
          absurd (true≢false (sym up ∙ past_up last other (past_further last key other past before)))
    ]) refl

-- ---- the rows whose keys pass a test

row_at-find : (key : Key) (rows : List Row) → row_at key rows ≡ find key_cmp key (entries rows)
unfolding same_key
row_at-find key [] = refl
row_at-find key (r ∷ rows) = ap (cond (same_key key (key_of r)) (Some r)) (row_at-find key rows)

picked-where : (test : Key → Bool) (rows : List Row) → entries (filter (λ row. test (key_of row)) rows) ≡ where_key key_cmp test (entries rows)
picked-where test [] = refl
picked-where test (r ∷ rows) =
    elim (test (key_of r)) as (λ b. entries (cond b (r ∷ filter (λ row. test (key_of row)) rows) (filter (λ row. test (key_of row)) rows))
    ≡ cond b ((key_of r, r) ∷ where_key key_cmp test (entries rows)) (where_key key_cmp test (entries rows))) [
      | true ↦ ap (λ es. (key_of r, r) ∷ es) (picked-where test rows)
      | false ↦ picked-where test rows
    ]

row_at-picked : (test : Key → Bool) (key : Key) (rows : List Row) → row_at key (filter (λ row. test (key_of row)) rows) ≡ cond (test key) (row_at key rows) None
row_at-picked test key rows =
    row_at-find key (filter (λ row. test (key_of row)) rows) ∙ ap (find key_cmp key) (picked-where test rows)
    ∙ find-where_key key_cmp test key (λ other same. ap test (sym (key_exact key other same))) (entries rows)
    ∙ ap (λ o. cond (test key) o None) (sym (row_at-find key rows))

picked-are : (test : Key → Bool) (rows : List Row) → AreRows rows → AreRows (filter (λ row. test (key_of row)) rows)
picked-are test rows are = subst (λ es. T (is_sorted key_cmp es)) (sym (picked-where test rows)) (is_sorted-where_key key_cmp test (entries rows) are)

-- a row whose key is past all others goes behind them
with_row-last : (row : Row) (rows : List Row) → All (λ other. key_cmp (key_of row) (key_of other) ≡ Greater) rows → with_row row rows ≡ rows ++ row ∷ []
with_row-last row [] past = refl
with_row-last row (r ∷ rows) past =
    ap (λ o. by_order o (row ∷ r ∷ rows) (row ∷ rows) (r ∷ with_row row rows)) (All-head (λ (other : Row). key_cmp (key_of row) (key_of other) ≡ Greater) r rows past)
    ∙ ap (λ l. r ∷ l) (with_row-last row rows (All-tail (λ (other : Row). key_cmp (key_of row) (key_of other) ≡ Greater) r rows past))

row_at-is : (key : Key) (rows : List Row) (row : Row) → row_at key rows ≡ Some row → key_of row ≡ key
row_at-is key [] row at = absurd (none-some row at)
row_at-is key (r ∷ rows) row at =
    (elim (same_key key (key_of r)) as (λ b. same_key key (key_of r) ≡ b → cond b (Some r) (row_at key rows) ≡ Some row → key_of row ≡ key) [
      | true ↦ λ same is. ap key_of (sym (same_Some r row is)) ∙ sym (same_key-is key (key_of r) same)
      | false ↦ λ _ is. row_at-is key rows row is
    ]) refl at

-- ---- up to the next key

-- No row has a key between the two.
abbrev pub IsGap : (table : ℕ) → Option (List ℕ) → (key : List ℕ) → List Row → Type 0
IsGap table last key rows = (other : List ℕ) → IsPast last other → IsBefore other key → row_at (table, other) rows ≡ None

within_none : (table : ℕ) (key : Key) → is_within table None key ≡ false
within_none table key = (elim (key.0 == table) as (λ b. (b && false) ≡ false) [ true ↦ refl | false ↦ refl ])

pub none_gathered : (table : ℕ) (rows : List Row) → rows_to table None rows ≡ []
none_gathered table [] = refl
none_gathered table (r ∷ rows) = ap (λ b. cond b (r ∷ rows_to table None rows) (rows_to table None rows)) (within_none table (key_of r)) ∙ none_gathered table rows

-- what another key has up to the next one is what it has up to the last
other_within : (table : ℕ) (last : Option (List ℕ)) (key : List ℕ) (rows : List Row) (q : Key) → IsPast last key → IsGap table last key rows → q ≢ (table, key)
    → cond (is_within table (Some key) q) (row_at q rows) None ≡ cond (is_within table last q) (row_at q rows) None
other_within table last key rows q past gap other =
    (elim (q.0 == table) as (λ b. q.0 == table ≡ b → cond (b && is_up_to (Some key) q.1) (row_at q rows) None ≡ cond (b && is_up_to last q.1) (row_at q rows) None) [
      | false ↦ λ _. refl
      | true ↦ λ same. (elim (slice_cmp nat_cmp key q.1) as (λ o. slice_cmp nat_cmp key q.1 ≡ o
          → cond (not (is_lt o)) (row_at q rows) None ≡ cond (is_up_to last q.1) (row_at q rows) None) [
            | Less ↦ λ e. ap (λ b. cond b (row_at q rows) None) (sym (past_up last q.1 (past_further last key q.1 past e)))
            | Equal ↦ λ e. absurd (other (key_made q table key (eqb-true q.0 table same) (sym (exact_bytes key q.1 e))))
            | Greater ↦ λ e. (elim (is_up_to last q.1) as (λ b. is_up_to last q.1 ≡ b → row_at q rows ≡ cond b (row_at q rows) None) [
              | true ↦ λ _. refl
              | false ↦ λ up.
                  let before : IsBefore q.1 key = nat_list_cmp_total.antisymm q.1 key ∙ ap ordering_reverse e in
                  ap (λ (k : Key). row_at k rows) (key_made q table q.1 (eqb-true q.0 table same) refl) ∙ gap q.1 (up_to last q.1 up) before
            ]) refl
          ]) refl
    ]) refl

key_within : (table : ℕ) (key : List ℕ) → is_within table (Some key) (table, key) ≡ true
key_within table key =
    ap (λ b. b && is_up_to (Some key) key) (eq-eqb table table refl)
    ∙ ap (λ (o : Ordering). not (is_lt o)) (itself (slice_cmp nat_cmp key key) (nat_list_cmp_total.antisymm key key))

next_at : (table : ℕ) (last : Option (List ℕ)) (key : List ℕ) (rows : List Row) (q : Key) → IsPast last key → IsGap table last key rows
    → row_at q (rows_to table (Some key) rows) ≡ cond (same_key q (table, key)) (row_at (table, key) rows) (row_at q (rows_to table last rows))
next_at table last key rows q past gap =
    row_at-picked (is_within table (Some key)) q rows
    ∙ ⊎_elim
    (λ (same : q ≡ (table, key)).
    subst (λ (k : Key). cond (is_within table (Some key) k) (row_at k rows) None ≡ cond (same_key k (table, key)) (row_at (table, key) rows) (row_at k (rows_to table last rows)))
    (sym same)
    (ap (λ b. cond b (row_at (table, key) rows) None) (key_within table key)
    ∙ ap (λ b. cond b (row_at (table, key) rows) (row_at (table, key) (rows_to table last rows))) (sym (same_key-refl (table, key)))))
    (λ (other : q ≢ (table, key)).
    other_within table last key rows q past gap other
    ∙ sym (row_at-picked (is_within table last) q rows)
    ∙ ap (λ b. cond b (row_at (table, key) rows) (row_at q (rows_to table last rows))) (sym (same_key-not q (table, key) other)))
    (key_cases q (table, key))

both_true : (a b : Bool) → (a && b) ≡ true → (a ≡ true) × (b ≡ true)
both_true true b h = (refl, h)
both_true false b h = absurd (false≢true h)

nat_cmp_itself : (n : ℕ) → nat_cmp n n ≡ Equal
nat_cmp_itself n = itself (nat_cmp n n) (nat_cmp_total.antisymm n n)

both_none : (b : Bool) (o : Option Row) → o ≡ None → cond b o None ≡ None
both_none true o none = none
both_none false o none = refl

-- a key of the table that is past the last one is behind each that isn't
key_behind : (table : ℕ) (last : Option (List ℕ)) (key : List ℕ) (other : Key) → IsPast last key → is_within table last other ≡ true
    → key_cmp (table, key) other ≡ Greater
unfolding key_cmp
key_behind table last key other past within =
    let parts = both_true (other.0 == table) (is_up_to last other.1) within in
    let same : other.0 ≡ table = eqb-true other.0 table parts.0 in
    let before : IsBefore other.1 key = not_past_before last key other.1 past parts.1 in
    ap (λ o. ordering_then o (slice_cmp nat_cmp key other.1)) (ap (nat_cmp table) same ∙ nat_cmp_itself table)
    ∙ nat_list_cmp_total.antisymm key other.1 ∙ ap ordering_reverse before

-- the next key's row goes behind the others
pub next_gathered : (table : ℕ) (last : Option (List ℕ)) (key : List ℕ) (rows : List Row) → AreRows rows → IsPast last key → IsGap table last key rows
    → rows_to table (Some key) rows ≡ rows_to table last rows ++ option_to_list (row_at (table, key) rows)
next_gathered table last key rows are past gap =
    (elim (row_at (table, key) rows) as (λ o. row_at (table, key) rows ≡ o → rows_to table (Some key) rows ≡ rows_to table last rows ++ option_to_list o) [
      | None ↦ λ none.
          same_rows (rows_to table (Some key) rows) (rows_to table last rows) (picked-are (is_within table (Some key)) rows are) (picked-are (is_within table last) rows are)
          (λ q. next_at table last key rows q past gap ∙ without q none)
          ∙ sym (append-nil (rows_to table last rows))
      | Some row ↦ λ some.
          let its = row_at-is (table, key) rows row some in
          let behind = with_row-last row (rows_to table last rows) (all_before row its) in
          same_rows (rows_to table (Some key) rows) (with_row row (rows_to table last rows)) (picked-are (is_within table (Some key)) rows are)
          (after_write-are (rows_to table last rows) (Put row) (picked-are (is_within table last) rows are))
          (λ q. next_at table last key rows q past gap
          ∙ ap (λ o. cond (same_key q (table, key)) o (row_at q (rows_to table last rows))) some
          ∙ ap (λ k. cond (same_key q k) (Some row) (row_at q (rows_to table last rows))) (sym its)
          ∙ sym (row_at-with_row q row (rows_to table last rows)))
          ∙ behind
    ]) refl
  where
    without : (q : Key) → row_at (table, key) rows ≡ None → cond (same_key q (table, key)) (row_at (table, key) rows) (row_at q (rows_to table last rows)) ≡ row_at q (rows_to table last rows)
    without q none = ⊎_elim
        (λ (same : q ≡ (table, key)).
        ap (λ b. cond b (row_at (table, key) rows) (row_at q (rows_to table last rows))) (ap (λ k. same_key k (table, key)) same ∙ same_key-refl (table, key))
        ∙ none
        ∙ sym (row_at-picked (is_within table last) q rows ∙ ap (λ k. cond (is_within table last q) (row_at k rows) None) same ∙ both_none (is_within table last q) (row_at (table, key) rows) none))
        (λ (other : q ≢ (table, key)).
        ap (λ b. cond b (row_at (table, key) rows) (row_at q (rows_to table last rows))) (same_key-not q (table, key) other))
        (key_cases q (table, key))

    all_before : (row : Row) → key_of row ≡ (table, key) → All (λ other. key_cmp (key_of row) (key_of other) ≡ Greater) (rows_to table last rows)
    all_before row its =
        All-weaker (λ (other : Row). is_within table last (key_of other) ≡ true) (λ (other : Row). key_cmp (key_of row) (key_of other) ≡ Greater)
        (λ other within. ap (λ k. key_cmp k (key_of other)) its ∙ key_behind table last key (key_of other) past within)
        (rows_to table last rows) (filter_passes (λ (other : Row). is_within table last (key_of other)) rows)

-- ---- behind the last key

pub all_gathered : (table : ℕ) (last : Option (List ℕ)) (rows : List Row) → AreRows rows → ((key : List ℕ) → IsPast last key → row_at (table, key) rows ≡ None)
    → rows_to table last rows ≡ rows_of_table table rows
unfolding rows_of_table
all_gathered table last rows are none =
    same_rows (rows_to table last rows) (filter (λ (row : Row). row.table == table) rows) (picked-are (is_within table last) rows are) (picked-are (λ (k : Key). k.0 == table) rows are)
    (λ q. row_at-picked (is_within table last) q rows
    ∙ (elim (q.0 == table) as (λ b. q.0 == table ≡ b → cond (b && is_up_to last q.1) (row_at q rows) None ≡ cond b (row_at q rows) None) [
      | false ↦ λ _. refl
      | true ↦ λ same. (elim (is_up_to last q.1) as (λ b. is_up_to last q.1 ≡ b → cond b (row_at q rows) None ≡ row_at q rows) [
        | true ↦ λ _. refl
        | false ↦ λ up. sym (ap (λ (k : Key). row_at k rows) (key_made q table q.1 (eqb-true q.0 table same) refl) ∙ none q.1 (up_to last q.1 up))
      ]) refl
    ]) refl
    ∙ sym (row_at-picked (λ (k : Key). k.0 == table) q rows))

-- with a tag

pub next_with_tag : (tag : Option ℕ) (table : ℕ) (last : Option (List ℕ)) (key : List ℕ) (rows : List Row) → AreRows rows → IsPast last key → IsGap table last key rows
    → filter (has_tag tag) (rows_to table (Some key) rows)
    ≡ filter (has_tag tag) (rows_to table last rows) ++ filter (has_tag tag) (option_to_list (row_at (table, key) rows))
next_with_tag tag table last key rows are past gap =
    ap (filter (has_tag tag)) (next_gathered table last key rows are past gap)
    ∙ filter-append (has_tag tag) (rows_to table last rows) (option_to_list (row_at (table, key) rows))
