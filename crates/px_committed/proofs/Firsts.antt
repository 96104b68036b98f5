-- The first row past a key: in one table, and in all of them.
use Rattle.std.proofs.Common.{◌≡◌, ℕ, ◌<◌, ◌≤◌, ◌+◌, ◌==◌, Bool, true, false, cond, ◌&&◌, List, [], ◌∷◌, Option, Some, None, refl, sym, ap, subst, ◌∙◌, inl, inr, ⊎_elim, arith}
use Rattle.std.specs.Prelude.{T, ◌⊎◌}
use Rattle.std.specs.Cmp.{nat_cmp_is}
use Rattle.std.specs.Cmp.Lexicographic.{slice_cmp, nat_list_cmp_total}
use Rattle.std.specs.Ordering.{is_lt, nat_cmp, ordering_reverse, ordering_then}
use Rattle.std.specs.declared.cmp.Ordering.{Ordering}
use Rattle.std.specs.declared.cmp.Ordering.TheVariants.{Less, Equal, Greater}
use Rattle.std.specs.FinMap.Entries.{below_all, is_sorted}
use Rattle.std.proofs.lemmas.Bool.{cases_lt, eq-eqb, eqb-true, false≢true, true≢false}
use Rattle.std.proofs.lemmas.Option.{none-some, same_Some}
use Rattle.std.proofs.lemmas.Map.Lookups.{exact_bytes}
use Rattle.px_model.specs.declared.key.KeyOf.{KeyOf}
use Rattle.px_model.specs.declared.row.Row.{Row}
use Rattle.px_model.specs.Rows.{Key, entries, key_cmp, key_of, row_at, same_key}
use Rattle.px_model_laws.proofs.RowsAsMap.{AreRows}
use Rattle.px_machine_laws.proofs.Overlap.{same_key-is}
use Rattle.px_shown.proofs.Keys.{key_made, same_key-refl}
use Rattle.px_tables.specs.Order.{IsBefore, IsPast}
use Rattle.px_committed.specs.Rows.{first_past, is_past}
use Rattle.px_committed.specs.Walking.{HasCome, IsFirstIn, IsLeastPast, first_table, key_in}

-- ---- keys in their order

equal_not_less : Equal ≡ Less → ⊥
equal_not_less e = true≢false (sym (ap is_lt e))

greater_not_less : Greater ≡ Less → ⊥
greater_not_less e = true≢false (sym (ap is_lt e))

past_or_not : (last : Option (List ℕ)) (key : List ℕ) → IsPast last key ⊎ (¬ IsPast last key)
past_or_not None key = inl tt
past_or_not (Some last) key =
    (elim (slice_cmp nat_cmp last key) as (λ o. (o ≡ Less) ⊎ (¬ (o ≡ Less))) [
      | Less ↦ inl refl
      | Equal ↦ inr equal_not_less
      | Greater ↦ inr greater_not_less
    ])

past_further : (last : Option (List ℕ)) (key other : List ℕ) → IsPast last key → IsBefore key other → IsPast last other
past_further None key other past before = tt
past_further (Some last) key other past before = nat_list_cmp_total.trans last key other past before

-- ---- in one table

-- no row of the table has a key past the last one and before this one
abbrev pub IsGap : List Row → (table : ℕ) → (last : Option (List ℕ)) → (key : List ℕ) → Type 0
IsGap rows table last key = (other : List ℕ) → IsPast last other → IsBefore other key → row_at (table, other) rows ≡ None

pub not_gone : (rows : List Row) (table : ℕ) (after : Option (List ℕ)) → HasCome rows table after after
not_gone rows table after = record { none = λ key past not_past. absurd (not_past past); behind = λ key past. past }

none_before : (rows : List Row) (table : ℕ) (after last : Option (List ℕ)) (key other : List ℕ) → HasCome rows table after last → IsGap rows table last key
    → IsPast after other → IsBefore other key → row_at (table, other) rows ≡ None
none_before rows table after last key other come gap past before = ⊎_elim
    (λ (past_last : IsPast last other). gap other past_last before)
    (λ (up_to : ¬ IsPast last other). come.none other past up_to)
    (past_or_not last other)

-- the next key has no row either
pub come_further : (rows : List Row) (table : ℕ) (after last : Option (List ℕ)) (key : List ℕ) → HasCome rows table after last → IsPast last key
    → IsGap rows table last key → row_at (table, key) rows ≡ None → HasCome rows table after (Some key)
come_further rows table after last key come past gap here = record {
  none = λ other past_after not_past. (elim (slice_cmp nat_cmp key other) as (λ o. slice_cmp nat_cmp key other ≡ o → row_at (table, other) rows ≡ None) [
    | Less ↦ λ e. absurd (not_past e)
    | Equal ↦ λ e. subst (λ (k : List ℕ). row_at (table, k) rows ≡ None) (exact_bytes key other e) here
    | Greater ↦ λ e. none_before rows table after last key other come gap past_after (nat_list_cmp_total.antisymm other key ∙ ap ordering_reverse e)
  ]) refl;
  behind = λ other before. past_further after key other (come.behind key past) before;
}

row_at-is : (key : Key) (rows : List Row) (row : Row) → row_at key rows ≡ Some row → key_of row ≡ key
row_at-is key [] row at = absurd (none-some row at)
row_at-is key (r ∷ rows) row at =
    (elim (same_key key (key_of r)) as (λ b. same_key key (key_of r) ≡ b → cond b (Some r) (row_at key rows) ≡ Some row → key_of row ≡ key) [
      | true ↦ λ same is. ap key_of (sym (same_Some r row is)) ∙ sym (same_key-is key (key_of r) same)
      | false ↦ λ _ is. row_at-is key rows row is
    ]) refl at

-- the next key has the row
pub least_found : (rows : List Row) (table : ℕ) (after last : Option (List ℕ)) (key : List ℕ) (row : Row) → HasCome rows table after last
    → IsPast last key → IsGap rows table last key → row_at (table, key) rows ≡ Some row → IsLeastPast rows table after row
least_found rows table after last key row come past gap here =
    let its : key_of row ≡ (table, key) = row_at-is (table, key) rows row here in
    let its_key : row.key ≡ key = ap (λ (k : Key). k.1) its in
    record {
      its_table = ap (λ (k : Key). k.0) its;
      here = subst (λ (k : List ℕ). row_at (table, k) rows ≡ Some row) (sym its_key) here;
      past = subst (IsPast after) (sym its_key) (come.behind key past);
      least = λ other past_after before. none_before rows table after last key other come gap past_after (subst (IsBefore other) its_key before);
    }

-- there is no next key
pub none_left : (rows : List Row) (table : ℕ) (after last : Option (List ℕ)) → HasCome rows table after last
    → ((key : List ℕ) → IsPast last key → row_at (table, key) rows ≡ None) → IsFirstIn rows table after None
none_left rows table after last come left = λ key past. ⊎_elim
    (λ (past_last : IsPast last key). left key past_last)
    (λ (up_to : ¬ IsPast last key). come.none key past up_to)
    (past_or_not last key)

-- ---- in all tables

-- the key is past that one, by table and then by bytes
abbrev pub is_past_key : Option KeyOf → Key → Bool
is_past_key None key = true
is_past_key (Some after) key = is_lt (key_cmp (after.table, after.key) key)

-- the row is past the key, and none stands between
pub record IsFirst (rows : List Row) (after : Option KeyOf) (row : Row) : Type 0 where
  pub here : row_at (key_of row) rows ≡ Some row
  pub past : is_past_key after (key_of row) ≡ true
  pub least : (key : Key) → is_past_key after key ≡ true → key_cmp key (key_of row) ≡ Less → row_at key rows ≡ None

past_row : (after : Option KeyOf) (row : Row) → is_past after row ≡ is_past_key after (key_of row)
past_row None row = refl
past_row (Some after) row = refl

head_at : (r : Row) (rows : List Row) → row_at (key_of r) (r ∷ rows) ≡ Some r
head_at r rows = ap (λ b. cond b (Some r) (row_at (key_of r) rows)) (same_key-refl (key_of r))

none_in_tail : (key : Key) (r : Row) (rows : List Row) → row_at key (r ∷ rows) ≡ None → row_at key rows ≡ None
none_in_tail key r rows none =
    (elim (same_key key (key_of r)) as (λ b. cond b (Some r) (row_at key rows) ≡ None → row_at key rows ≡ None) [
      | true ↦ λ h. absurd (none-some r (sym h))
      | false ↦ λ h. h
    ]) none

pub none_first : (after : Option KeyOf) (rows : List Row) → ((key : Key) → is_past_key after key ≡ true → row_at key rows ≡ None) → first_past after rows ≡ None
none_first after [] none = refl
none_first after (r ∷ rows) none =
    (elim (is_past after r) as (λ b. is_past after r ≡ b → cond b (Some r) (first_past after rows) ≡ None) [
      | true ↦ λ passes. absurd (none-some r (sym (none (key_of r) (sym (past_row after r) ∙ passes)) ∙ head_at r rows))
      | false ↦ λ _. none_first after rows (λ key past. none_in_tail key r rows (none key past))
    ]) refl

first_of : (a b : Bool) → T (a && b) → T a
first_of true b p = tt
first_of false b p = p

second_of : (a b : Bool) → T (a && b) → T b
second_of true b p = p
second_of false b p = absurd p

less_of : (o : Ordering) → T (is_lt o) → o ≡ Less
less_of Less p = refl
less_of Equal p = absurd p
less_of Greater p = absurd p

-- a key that is below all others is below that of each row
below_each : (key other : Key) (rows : List Row) (row : Row) → T (below_all key_cmp key (entries rows)) → row_at other rows ≡ Some row → key_cmp key (key_of row) ≡ Less
below_each key other [] row below at = absurd (none-some row at)
below_each key other (r ∷ rows) row below at =
    (elim (same_key other (key_of r)) as (λ b. cond b (Some r) (row_at other rows) ≡ Some row → key_cmp key (key_of row) ≡ Less) [
      | true ↦ λ is.
          ap (λ (x : Row). key_cmp key (key_of x)) (sym (same_Some r row is))
          ∙ less_of (key_cmp key (key_of r)) (first_of (is_lt (key_cmp key (key_of r))) (below_all key_cmp key (entries rows)) below)
      | false ↦ λ is. below_each key other rows row (second_of (is_lt (key_cmp key (key_of r))) (below_all key_cmp key (entries rows)) below) is
    ]) at

pub some_first : (after : Option KeyOf) (rows : List Row) (row : Row) → AreRows rows → IsFirst rows after row → first_past after rows ≡ Some row
some_first after [] row are f = absurd (none-some row f.here)
some_first after (r ∷ rows) row are f =
    let below : T (below_all key_cmp (key_of r) (entries rows)) = first_of (below_all key_cmp (key_of r) (entries rows)) (is_sorted key_cmp (entries rows)) are in
    let rest : AreRows rows = second_of (below_all key_cmp (key_of r) (entries rows)) (is_sorted key_cmp (entries rows)) are in
    (elim (same_key (key_of row) (key_of r)) as (λ b. cond b (Some r) (row_at (key_of row) rows) ≡ Some row → first_past after (r ∷ rows) ≡ Some row) [
      | true ↦ λ is.
          let same : r ≡ row = same_Some r row is in
          ap (λ b. cond b (Some r) (first_past after rows)) (past_row after r ∙ ap (λ (x : Row). is_past_key after (key_of x)) same ∙ f.past) ∙ is
      | false ↦ λ behind. (elim (is_past after r) as (λ b. is_past after r ≡ b → cond b (Some r) (first_past after rows) ≡ Some row) [
        | true ↦ λ passes. absurd (none-some r (sym (f.least (key_of r) (sym (past_row after r) ∙ passes) (below_each (key_of r) (key_of row) rows row below behind)) ∙ head_at r rows))
        | false ↦ λ _. some_first after rows row rest (record { here = behind; past = f.past; least = λ key past before. none_in_tail key r rows (f.least key past before) })
      ]) refl
    ]) f.here

-- ---- one table after the other

cmp_less : (a b : ℕ) → a < b → nat_cmp a b ≡ Less
cmp_less a b lt = sym (nat_cmp_is a b Less lt)

cmp_same : (a b : ℕ) → a ≡ b → nat_cmp a b ≡ Equal
cmp_same a b same = sym (nat_cmp_is a b Equal same)

cmp_greater : (a b : ℕ) → b < a → nat_cmp a b ≡ Greater
cmp_greater a b gt = sym (nat_cmp_is a b Greater gt)

past_in_table : (after : Option KeyOf) (key : Key) → is_past_key after key ≡ true → IsPast (key_in after key.0) key.1
unfolding key_cmp
past_in_table None key past = tt
past_in_table (Some after) key past =
    (elim (after.table == key.0) as (λ b. after.table == key.0 ≡ b → IsPast (cond b (Some after.key) None) key.1) [
      | true ↦ λ same.
          let tables = cmp_same after.table key.0 (eqb-true after.table key.0 same) in
          less_of (slice_cmp nat_cmp after.key key.1)
          (subst T (sym (sym (ap (λ o. is_lt (ordering_then o (slice_cmp nat_cmp after.key key.1))) tables) ∙ past)) tt)
      | false ↦ λ _. tt
    ]) refl

pub before_first : (after : Option KeyOf) (key : Key) → is_past_key after key ≡ true → key.0 < first_table after → key.0 ≡ 0
unfolding key_cmp
before_first None key past lt = omega (arith, lt)
before_first (Some after) key past lt =
    absurd (false≢true (sym (ap (λ o. is_lt (ordering_then o (slice_cmp nat_cmp after.key key.1))) (cmp_greater after.table key.0 lt)) ∙ past))

past_of_table : (after : Option KeyOf) (table : ℕ) (key : List ℕ) → first_table after ≤ table → IsPast (key_in after table) key → is_past_key after (table, key) ≡ true
unfolding key_cmp
past_of_table None table key from past = refl
past_of_table (Some after) table key from past =
    (elim (after.table == table) as (λ b. after.table == table ≡ b → IsPast (cond b (Some after.key) None) key
    → is_lt (ordering_then (nat_cmp after.table table) (slice_cmp nat_cmp after.key key)) ≡ true) [
      | true ↦ λ same behind.
          ap (λ o. is_lt (ordering_then o (slice_cmp nat_cmp after.key key))) (cmp_same after.table table (eqb-true after.table table same)) ∙ ap is_lt behind
      | false ↦ λ apart _. ap (λ o. is_lt (ordering_then o (slice_cmp nat_cmp after.key key))) (cmp_less after.table table (⊎_elim
          (λ (lt : after.table < table). lt)
          (λ (ge : table ≤ after.table). let same : after.table ≡ table = omega (arith, from, ge) in absurd (true≢false (sym (eq-eqb after.table table same) ∙ apart)))
          (cases_lt after.table table)))
    ]) refl past

earlier : (key : Key) (table : ℕ) (bytes : List ℕ) → key_cmp key (table, bytes) ≡ Less → (key.0 < table) ⊎ ((key.0 ≡ table) × IsBefore key.1 bytes)
unfolding key_cmp
earlier key table bytes less = ⊎_elim
    (λ (lt : key.0 < table). inl lt)
    (λ (ge : table ≤ key.0). ⊎_elim
    (λ (gt : table < key.0). absurd (greater_not_less (sym (ap (λ o. ordering_then o (slice_cmp nat_cmp key.1 bytes)) (cmp_greater key.0 table gt)) ∙ less)))
    (λ (le : key.0 ≤ table).
    let same : key.0 ≡ table = omega (arith, le, ge) in
    inr (same, sym (ap (λ o. ordering_then o (slice_cmp nat_cmp key.1 bytes)) (cmp_same key.0 table same)) ∙ less))
    (cases_lt table key.0))
    (cases_lt key.0 table)

-- no row past the key is in a table below that one
abbrev pub HasNoneBelow : List Row → Option KeyOf → (table : ℕ) → Type 0
HasNoneBelow rows after table = (key : Key) → is_past_key after key ≡ true → key.0 < table → row_at key rows ≡ None

-- nor in that one
pub none_to : (rows : List Row) (after : Option KeyOf) (table : ℕ) → HasNoneBelow rows after table → IsFirstIn rows table (key_in after table) None
    → HasNoneBelow rows after (table + 1)
none_to rows after table below here = λ key past lt. ⊎_elim
    (λ (lower : key.0 < table). below key past lower)
    (λ (ge : table ≤ key.0).
    let same : key.0 ≡ table = omega (arith, lt, ge) in
    ap (λ (k : Key). row_at k rows) (key_made key table key.1 same refl)
    ∙ here key.1 (subst (λ t. IsPast (key_in after t) key.1) same (past_in_table after key past)))
    (cases_lt key.0 table)

-- the first one past it in that table is the first of all
pub first_found : (rows : List Row) (after : Option KeyOf) (table : ℕ) (row : Row) → first_table after ≤ table → HasNoneBelow rows after table
    → IsLeastPast rows table (key_in after table) row → IsFirst rows after row
first_found rows after table row from below found =
    let its : key_of row ≡ (table, row.key) = ap (λ t. (t, row.key)) found.its_table in
    record {
      here = ap (λ (k : Key). row_at k rows) its ∙ found.here;
      past = ap (is_past_key after) its ∙ past_of_table after table row.key from found.past;
      least = λ key past less. ⊎_elim
          (λ (lower : key.0 < table). below key past lower)
          (λ (same : (key.0 ≡ table) × IsBefore key.1 row.key).
          ap (λ (k : Key). row_at k rows) (key_made key table key.1 same.0 refl)
          ∙ found.least key.1 (subst (λ t. IsPast (key_in after t) key.1) same.0 (past_in_table after key past)) same.1)
          (earlier key table row.key (ap (key_cmp key) (sym its) ∙ less));
    }
