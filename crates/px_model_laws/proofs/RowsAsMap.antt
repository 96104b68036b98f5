-- Rows are std's sorted entries, so its laws of finite maps are theirs.
use Rattle.std.proofs.Common.{◌≡◌, Bool, true, false, cond, not, List, [], ◌∷◌, map, Option, Some, None, refl, sym, ap, subst, ◌∙◌}
use Rattle.std.specs.Prelude.{T}
use Rattle.std.specs.Cmp.{IsTotalOrder, eq_by_cmp_equiv, nat_cmp_total}
use Rattle.std.specs.Cmp.Lexicographic.{slice_cmp, nat_list_cmp_total}
use Rattle.std.proofs.lemmas.Cmp.{on_total, then_total}
use Rattle.std.specs.Ordering.{nat_cmp, eq_by_cmp}
use Rattle.std.specs.declared.cmp.Ordering.TheVariants.{Less, Equal, Greater}
use Rattle.std.specs.FinMap.Entries.{by_order, put, where_key, find, is_sorted, find-put, find-where_key, is_sorted-put, is_sorted-where_key, same_entries}
use Rattle.std.proofs.lemmas.Map.Lookups.{exact_pairs, exact_unsigned, exact_bytes}
use Rattle.px_model.specs.declared.row.Row.{Row}
use Rattle.px_model.specs.declared.write.Write.{Write}
use Rattle.px_model.specs.declared.write.Write.TheVariants.{Put, Delete}
use Rattle.px_model.specs.Rows.{Key, key_cmp, same_key, key_of, key_written, row_at, with_row, without_key, after_write, after, entries, in_order}
use Rattle.px_model_laws.specs.Keys.{row_written}

pub key_total : IsTotalOrder key_cmp
unfolding key_cmp
key_total = then_total (on_total (λ (k : Key). k.0) nat_cmp_total) (on_total (λ (k : Key). k.1) nat_list_cmp_total)

pub key_exact : (a b : Key) → key_cmp a b ≡ Equal → a ≡ b
unfolding key_cmp
key_exact = exact_pairs nat_cmp (slice_cmp nat_cmp) exact_unsigned exact_bytes

abbrev entry : Row → Key × Row
entry row = (key_of row, row)

abbrev pub AreRows : List Row → Type 0
AreRows rows = T (in_order rows)

row_at-find : (key : Key) (rows : List Row) → row_at key rows ≡ find key_cmp key (entries rows)
unfolding same_key
row_at-find key [] = refl
row_at-find key (r ∷ rows) = ap (cond (eq_by_cmp key_cmp key (key_of r)) (Some r)) (row_at-find key rows)

with_row-put : (row : Row) (rows : List Row) → entries (with_row row rows) ≡ put key_cmp (key_of row) row (entries rows)
with_row-put row [] = refl
with_row-put row (r ∷ rows) =
    elim (key_cmp (key_of row) (key_of r)) as (λ o. key_cmp (key_of row) (key_of r) ≡ o
    → entries (by_order o (row ∷ r ∷ rows) (row ∷ rows) (r ∷ with_row row rows))
    ≡ by_order o (entry row ∷ entry r ∷ entries rows) ((key_of r, row) ∷ entries rows) (entry r ∷ put key_cmp (key_of row) row (entries rows))) [
      | Less ↦ λ e. refl
      | Equal ↦ λ e. ap (λ (k : Key). (k, row) ∷ entries rows) (key_exact (key_of row) (key_of r) e)
      | Greater ↦ λ e. ap (λ es. entry r ∷ es) (with_row-put row rows)
    ] refl

without_key-where : (key : Key) (rows : List Row) → entries (without_key key rows) ≡ where_key key_cmp (λ k. not (same_key key k)) (entries rows)
without_key-where key [] = refl
without_key-where key (r ∷ rows) =
    elim (not (same_key key (key_of r))) as (λ b. entries (cond b (r ∷ without_key key rows) (without_key key rows))
    ≡ cond b (entry r ∷ where_key key_cmp (λ k. not (same_key key k)) (entries rows)) (where_key key_cmp (λ k. not (same_key key k)) (entries rows))) [
      | true ↦ ap (λ es. entry r ∷ es) (without_key-where key rows)
      | false ↦ without_key-where key rows
    ]

-- ---- what a key has after a write

pub row_at-with_row : (key : Key) (row : Row) (rows : List Row) → row_at key (with_row row rows) ≡ cond (same_key key (key_of row)) (Some row) (row_at key rows)
unfolding same_key
row_at-with_row key row rows =
    row_at-find key (with_row row rows) ∙ ap (find key_cmp key) (with_row-put row rows)
    ∙ find-put key_cmp key_total key (key_of row) row (entries rows)
    ∙ ap (cond (eq_by_cmp key_cmp key (key_of row)) (Some row)) (sym (row_at-find key rows))

turned : {A : Type 0} (b : Bool) (x y : A) → cond (not b) x y ≡ cond b y x
turned true x y = refl
turned false x y = refl

pub row_at-without_key : (q key : Key) (rows : List Row) → row_at q (without_key key rows) ≡ cond (same_key q key) None (row_at q rows)
unfolding same_key
row_at-without_key q key rows =
    row_at-find q (without_key key rows) ∙ ap (find key_cmp q) (without_key-where key rows)
    ∙ find-where_key key_cmp (λ k. not (same_key key k)) q (λ x t. ap (λ k. not (same_key key k)) (sym (key_exact q x t))) (entries rows)
    ∙ turned (same_key key q) _ _
    ∙ ap (λ b. cond b None (find key_cmp q (entries rows))) ((eq_by_cmp_equiv key_total).symm key q)
    ∙ ap (cond (same_key q key) None) (sym (row_at-find q rows))

pub row_at-after_write : (key : Key) (rows : List Row) (w : Write) → row_at key (after_write rows w) ≡ cond (same_key key (key_written w)) (row_written w) (row_at key rows)
row_at-after_write key rows (Put row) = row_at-with_row key row rows
row_at-after_write key rows (Delete table k) = row_at-without_key key (table, k) rows

-- the newest write of the key decides, else what was there
abbrev pub newest : Key → Option Row → List Write → Option Row
newest key was [] = was
newest key was (w ∷ writes) = newest key (cond (same_key key (key_written w)) (row_written w) was) writes

pub row_at-after : (key : Key) (rows : List Row) (writes : List Write) → row_at key (after rows writes) ≡ newest key (row_at key rows) writes
row_at-after key rows [] = refl
row_at-after key rows (w ∷ writes) =
    row_at-after key (after_write rows w) writes ∙ ap (λ was. newest key was writes) (row_at-after_write key rows w)

-- ---- rows stay in order, and rows that answer alike are the same

pub after_write-are : (rows : List Row) (w : Write) → AreRows rows → AreRows (after_write rows w)
after_write-are rows (Put row) h =
    subst (λ es. T (is_sorted key_cmp es)) (sym (with_row-put row rows)) (is_sorted-put key_cmp key_total (key_of row) row (entries rows) h)
after_write-are rows (Delete table k) h =
    subst (λ es. T (is_sorted key_cmp es)) (sym (without_key-where (table, k) rows)) (is_sorted-where_key key_cmp _ (entries rows) h)

pub after-are : (rows : List Row) (writes : List Write) → AreRows rows → AreRows (after rows writes)
after-are rows [] h = h
after-are rows (w ∷ writes) h = after-are (after_write rows w) writes (after_write-are rows w h)

back : (rows : List Row) → map (λ (e : Key × Row). e.1) (entries rows) ≡ rows
back [] = refl
back (r ∷ rows) = ap (λ l. r ∷ l) (back rows)

pub same_rows : (a b : List Row) → AreRows a → AreRows b → ((key : Key) → row_at key a ≡ row_at key b) → a ≡ b
same_rows a b s t h =
    sym (back a)
    ∙ ap (map (λ (e : Key × Row). e.1)) (same_entries key_cmp key_total key_exact (entries a) (entries b) s t (λ q. sym (row_at-find q a) ∙ h q ∙ row_at-find q b))
    ∙ back b
