-- A walk over rows in order, from each key to the first row past it, comes to each row once.
use Rattle.std.proofs.Common.{◌≡◌, ℕ, zero, suc, ◌+◌, true, false, cond, List, [], ◌∷◌, ◌++◌, map, take, Option, Some, None, refl, sym, ap, ◌∙◌, arith}
use Rattle.std.specs.Prelude.{slice_get}
use Rattle.std.specs.Ordering.{is_lt, ordering_reverse}
use Rattle.std.specs.declared.cmp.Ordering.{Ordering}
use Rattle.std.specs.declared.cmp.Ordering.TheVariants.{Less, Equal, Greater}
use Rattle.std.specs.FinMap.Entries.{below_all, is_sorted}
use Rattle.std.proofs.lemmas.Bool.{and_parts, false≢true, true≢false}
use Rattle.std.proofs.lemmas.Option.{none-some, same_Some}
use Rattle.px_site.specs.State.{State}
use Rattle.px_model.specs.declared.key.KeyOf.{KeyOf}
use Rattle.px_model.specs.declared.row.Row.{Row}
use Rattle.px_model.specs.Rows.{Key, entries, in_order, key_cmp, key_of}
use Rattle.px_model_laws.proofs.RowsAsMap.{key_total}
use Rattle.px_calls.specs.Texts.{row_line}
use Rattle.px_committed.specs.Rows.{first_past, is_past}
use Rattle.px_play.specs.Told.{joined}

abbrev pub its_key : Row → KeyOf
its_key row = record { table = row.table; key = row.key }

-- ---- keys

is_less : (o : Ordering) → is_lt o ≡ true → o ≡ Less
is_less Less e = refl
is_less Equal e = absurd (false≢true e)
is_less Greater e = absurd (false≢true e)

same_both_ways : (o : Ordering) → o ≡ ordering_reverse o → is_lt o ≡ false
same_both_ways Less e = absurd (true≢false (ap is_lt e))
same_both_ways Equal e = refl
same_both_ways Greater e = refl

not_past_itself : (row : Row) → is_past (Some (its_key row)) row ≡ false
not_past_itself row = same_both_ways (key_cmp (key_of row) (key_of row)) (key_total.antisymm (key_of row) (key_of row))

not_past_before : (r row : Row) → is_lt (key_cmp (key_of r) (key_of row)) ≡ true → is_past (Some (its_key row)) r ≡ false
not_past_before r row below =
    ap is_lt (key_total.antisymm (key_of row) (key_of r) ∙ ap ordering_reverse (is_less (key_cmp (key_of r) (key_of row)) below))

below_each : (key : Key) (rows : List Row) (n : ℕ) (row : Row) → below_all key_cmp key (entries rows) ≡ true → slice_get rows n ≡ Some row
    → is_lt (key_cmp key (key_of row)) ≡ true
below_each key [] n row below at = absurd (none-some row at)
below_each key (r ∷ rows) zero row below at =
    ap (λ (x : Row). is_lt (key_cmp key (key_of x))) (sym (same_Some r row at))
    ∙ (and_parts (is_lt (key_cmp key (key_of r))) (below_all key_cmp key (entries rows)) below).0
below_each key (r ∷ rows) (suc n) row below at =
    below_each key rows n row (and_parts (is_lt (key_cmp key (key_of r))) (below_all key_cmp key (entries rows)) below).1 at

-- ---- the walk

pub walk_first : (rows : List Row) → first_past None rows ≡ slice_get rows 0
walk_first [] = refl
walk_first (r ∷ rows) = refl

-- the first of them is the next one, where all are past the key
walk_on : (r : Row) (rows : List Row) → below_all key_cmp (key_of r) (entries rows) ≡ true → first_past (Some (its_key r)) rows ≡ slice_get rows 0
walk_on r [] below = refl
walk_on r (q ∷ rows) below =
    ap (λ b. cond b (Some q) (first_past (Some (its_key r)) rows))
    (and_parts (is_lt (key_cmp (key_of r) (key_of q))) (below_all key_cmp (key_of r) (entries rows)) below).0

pub walk_next : (rows : List Row) (n : ℕ) (row : Row) → in_order rows ≡ true → slice_get rows n ≡ Some row
    → first_past (Some (its_key row)) rows ≡ slice_get rows (n + 1)
walk_next [] n row order at = absurd (none-some row at)
walk_next (r ∷ rows) zero row order at =
    let parts = and_parts (below_all key_cmp (key_of r) (entries rows)) (is_sorted key_cmp (entries rows)) order in
    ap (λ (x : Row). first_past (Some (its_key x)) (r ∷ rows)) (sym (same_Some r row at))
    ∙ ap (λ b. cond b (Some r) (first_past (Some (its_key r)) rows)) (not_past_itself r)
    ∙ walk_on r rows parts.0
walk_next (r ∷ rows) (suc n) row order at =
    let parts = and_parts (below_all key_cmp (key_of r) (entries rows)) (is_sorted key_cmp (entries rows)) order in
    let later : suc (n + 1) ≡ suc n + 1 = omega arith in
    ap (λ b. cond b (Some r) (first_past (Some (its_key row)) rows)) (not_past_before r row (below_each (key_of r) rows n row parts.0 at))
    ∙ walk_next rows n row parts.1 at ∙ ap (slice_get (r ∷ rows)) later

-- so many rows were told, and the walk goes on behind them
pub record HasWalked (rows : List Row) (last : Option KeyOf) (count : ℕ) (old now : State) : Type 0 where
  pub next : first_past last rows ≡ slice_get rows count
  pub told : now.now.told ≡ old.now.told ++ joined (map row_line (take count rows))
