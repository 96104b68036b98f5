-- The versions of all tables, table by table.
use Rattle.std.proofs.Common.{◌≡◌, ℕ, zero, suc, ◌+◌, ◌<◌, ◌≤◌, Bool, true, cond, List, [], ◌∷◌, length, refl, sym, ap, subst, ◌∙◌, arith, ⊎_elim}
use Rattle.std.specs.Prelude.{Contains, count_by, sum_by}
use Rattle.std.specs.List.{range_with_len}
use Rattle.std.proofs.lemmas.Bool.{cases_eq, cases_lt, eq-eqb, ne_eqb}
use Rattle.std.proofs.lemmas.List.Sums.{sum_by-cons}
use Rattle.px_cell_laws.specs.Holding.{HoldsChains}
use Rattle.px_chain.specs.Sound.{IsApart, IsUsedRow}
use Rattle.px_chain.proofs.Walks.{contains_first, contains_none, contains_other, contains_cases}
use Rattle.px_history.specs.Fitting.{IsTable}
use Rattle.px_history.specs.Store.{Store}
use Rattle.px_model.specs.Chains.{all_variations, in_table, variations, variations_of_table}
use Rattle.px_model.specs.Machine.{Machine}
use Rattle.px_model.specs.Rows.{in_order, key_written}
use Rattle.px_model.specs.declared.write.Write.{Write}
use Rattle.px_shown.specs.Parts.{Parts}
use Rattle.px_counted.specs.Counts.{slots_in_all_chains, slots_in_chains, used_rows}
use Rattle.px_counted.proofs.Lists.{apart_range, in_range, sum_alike}
use Rattle.px_counted.proofs.Places.{among_is_used}
use Rattle.px_counted.proofs.Variations.{in_chains}

-- ---- writes by the number of their table

abbrev table_of : Write → ℕ
table_of w = (key_written w).0

abbrev weight : Bool → ℕ
weight b = cond b 1 0

-- a write counts in no table's number but its own
counted_nowhere : (w : Write) (ts : List ℕ) → (Contains ts (table_of w) → ⊥) → sum_by (λ t. weight (in_table t w)) ts ≡ 0
counted_nowhere w [] away = refl
counted_nowhere w (t ∷ ts) away =
    let a = sum_by-cons (λ (t : ℕ). weight (in_table t w)) t ts in
    let here : weight (in_table t w) ≡ 0 =
    ap weight (ne_eqb (table_of w) t (λ (is : table_of w ≡ t). away (subst (λ (n : ℕ). Contains (t ∷ ts) n) (sym is) (contains_first t ts)))) in
    let more = counted_nowhere w ts (λ there. away (contains_other t (table_of w) ts there)) in
    omega (arith, a, here, more)

counted_once : (w : Write) (ts : List ℕ) → IsApart ts → Contains ts (table_of w) → sum_by (λ t. weight (in_table t w)) ts ≡ 1
counted_once w [] apart there = absurd (contains_none (table_of w) there)
counted_once w (t ∷ ts) apart there =
    let a = sum_by-cons (λ (t : ℕ). weight (in_table t w)) t ts in ⊎_elim
    (λ (is : table_of w ≡ t).
    let here : weight (in_table t w) ≡ 1 = ap weight (eq-eqb (table_of w) t is) in
    let more = counted_nowhere w ts (subst (λ (n : ℕ). Contains ts n → ⊥) (sym is) apart.0) in
    omega (arith, a, here, more))
    (λ (other : table_of w ≡ t → ⊥).
    let here : weight (in_table t w) ≡ 0 = ap weight (ne_eqb (table_of w) t other) in
    let later : Contains ts (table_of w) = ⊎_elim (λ (is : t ≡ table_of w). absurd (other (sym is))) (λ (l : Contains ts (table_of w)). l) (contains_cases t (table_of w) ts there) in
    let more = counted_once w ts apart.1 later in
    omega (arith, a, here, more))
    (cases_eq (table_of w) t)

none_counted : (ts : List ℕ) → sum_by (λ t. count_by (in_table t) []) ts ≡ 0
none_counted [] = refl
none_counted (t ∷ ts) =
    let a = sum_by-cons (λ (t : ℕ). count_by (in_table t) []) t ts in
    let more = none_counted ts in
    omega (arith, a, more)

one_more : (w : Write) (ws : List Write) (ts : List ℕ)
    → sum_by (λ t. count_by (in_table t) (w ∷ ws)) ts ≡ sum_by (λ t. weight (in_table t w)) ts + sum_by (λ t. count_by (in_table t) ws) ts
one_more w ws [] = refl
one_more w ws (t ∷ ts) =
    let a = sum_by-cons (λ (t : ℕ). count_by (in_table t) (w ∷ ws)) t ts in
    let b = sum_by-cons (λ (t : ℕ). weight (in_table t w)) t ts in
    let d = sum_by-cons (λ (t : ℕ). count_by (in_table t) ws) t ts in
    let e = sum_by-cons (λ (v : Write). weight (in_table t v)) w ws in
    let more = one_more w ws ts in
    omega (arith, a, b, d, e, more)

by_table : (ws : List Write) (ts : List ℕ) → IsApart ts → ((w : Write) → Contains ws w → Contains ts (table_of w))
    → length ws ≡ sum_by (λ t. count_by (in_table t) ws) ts
by_table [] ts apart all = sym (none_counted ts)
by_table (w ∷ ws) ts apart all =
    let a = one_more w ws ts in
    let here = counted_once w ts apart (all w (contains_first w ws)) in
    let more = by_table ws ts apart (λ v there. all v (contains_other w v ws there)) in
    omega (arith, a, here, more)

-- ---- the tables that have versions

counted : (p : Write → Bool) (w : Write) (ws : List Write) → Contains ws w → p w ≡ true → 1 ≤ count_by p ws
counted p w [] there passes = absurd (contains_none w there)
counted p w (v ∷ ws) there passes =
    let a = sum_by-cons (λ (u : Write). weight (p u)) v ws in ⊎_elim
    (λ (is : v ≡ w).
    let here : weight (p v) ≡ 1 = ap (λ (u : Write). weight (p u)) is ∙ ap weight passes in
    omega (arith, a, here))
    (λ (later : Contains ws w). let more = counted p w ws later passes in omega (arith, a, more))
    (contains_cases v w ws there)

-- a table without rows has none
no_rows_no_slots : (store : Store) (t : ℕ) → ((row : ℕ) → IsUsedRow (store.tables t) row → ⊥) → slots_in_chains (store.tables t) (store.layouts t) ≡ 0
no_rows_no_slots store t none =
    sum_over_none (λ row. length ((store.layouts t).chain row)) (used_rows (store.tables t)) (λ row there. none row (among_is_used (store.tables t) row there))
  where
    sum_over_none : (f : ℕ → ℕ) (xs : List ℕ) → ((x : ℕ) → Contains xs x → ⊥) → sum_by f xs ≡ 0
    sum_over_none f [] none = refl
    sum_over_none f (x ∷ xs) none = absurd (none x (contains_first x xs))

abbrev HasRowsWithin : (tables : ℕ) → Store → Type 0
HasRowsWithin tables store = (t row : ℕ) → ¬ IsTable tables t → ¬ IsUsedRow (store.tables t) row

no_version_past : (parts : Parts) (m : Machine) (store : Store) (tables : ℕ) → HoldsChains parts m store → in_order m.opening ≡ true → HasRowsWithin tables store
    → (w : Write) → Contains (all_variations m) w → ¬ IsTable tables (table_of w) → ⊥
unfolding variations_of_table
no_version_past parts m store tables h opening within w there past =
    let t = table_of w in
    let some = counted (in_table t) w (all_variations m) there (eq-eqb t t refl) in
    let here = in_chains parts m store t h opening in
    let none = no_rows_no_slots store t (λ row. within t row past) in
    omega (arith, some, here, none)

is_table : (tables t : ℕ) → (¬ IsTable tables t → ⊥) → IsTable tables t
is_table tables zero not_past = absurd (not_past (λ is. omega (arith, is.0)))
is_table tables (suc t) not_past = ⊎_elim
    (λ (past : tables < suc t). absurd (not_past (λ is. omega (arith, is.1, past))))
    (λ (up_to : suc t ≤ tables). (omega arith, up_to))
    (cases_lt tables (suc t))

pub in_all_chains : (parts : Parts) (m : Machine) (store : Store) (tables : ℕ) → HoldsChains parts m store → in_order m.opening ≡ true
    → ((t row : ℕ) → ¬ IsTable tables t → ¬ IsUsedRow (store.tables t) row) → variations m ≡ slots_in_all_chains tables store
unfolding variations variations_of_table
in_all_chains parts m store tables h opening within =
    let numbers = range_with_len 1 tables in
    by_table (all_variations m) numbers (apart_range 1 tables)
    (λ w there.
    let is = is_table tables (table_of w) (no_version_past parts m store tables h opening within w there) in
    in_range 1 tables (table_of w) is.0 (omega (arith, is.1)))
    ∙ sum_alike (λ t. count_by (in_table t) (all_variations m)) (λ t. slots_in_chains (store.tables t) (store.layouts t)) numbers
    (λ t there. in_chains parts m store t h opening)
