-- What keys name after one of them was entered or named.
use Rattle.std.proofs.Common.{◌≡◌, ◌≢◌, ℕ, true, false, cond, List, [], ◌∷◌, map, Option, Some, None, refl, sym, ap, ◌∙◌, inl, inr}
use Rattle.std.specs.Prelude.{is_some, unwrap_or, ◌⊎◌}
use Rattle.std.specs.Ordering.{is_eq, nat_cmp, eq_by_cmp, ordering_reverse}
use Rattle.std.specs.declared.cmp.Ordering.{Ordering}
use Rattle.std.specs.declared.cmp.Ordering.TheVariants.{Less, Equal, Greater}
use Rattle.std.specs.Cmp.Lexicographic.{slice_cmp, nat_list_cmp_total}
use Rattle.std.specs.BTreeMap.{is_at}
use Rattle.std.specs.Map.{lookup, KeepsOthers}
use Rattle.std.proofs.lemmas.Bool.{false≢true, true≢false}
use Rattle.std.proofs.lemmas.Map.Lookups.{exact_bytes}
use Rattle.px_tables.specs.Keys.{entry_in, row_named, IsEntered}

is_equal : (o : Ordering) → is_eq o ≡ true → o ≡ Equal
is_equal Less h = absurd (false≢true h)
is_equal Equal h = refl
is_equal Greater h = absurd (false≢true h)

same_bytes : (j k : List ℕ) → is_eq (slice_cmp nat_cmp j k) ≡ true → j ≡ k
same_bytes j k h = exact_bytes j k (is_equal (slice_cmp nat_cmp j k) h)

pub apart : (j k : List ℕ) → j ≢ k → is_eq (slice_cmp nat_cmp j k) ≡ false
apart j k ne = (elim (is_eq (slice_cmp nat_cmp j k)) as (λ b. is_eq (slice_cmp nat_cmp j k) ≡ b → is_eq (slice_cmp nat_cmp j k) ≡ false) [
  | true ↦ λ e. absurd (ne (same_bytes j k e))
  | false ↦ λ e. e
]) refl

own : (o : Ordering) → o ≡ ordering_reverse o → o ≡ Equal
own Less h = absurd (less_greater h)
  where
    less_greater : Less ≡ Greater → ⊥
    less_greater e = cc
own Equal h = refl
own Greater h = absurd (greater_less h)
  where
    greater_less : Greater ≡ Less → ⊥
    greater_less e = cc

pub equal_itself : (key : List ℕ) → is_eq (slice_cmp nat_cmp key key) ≡ true
equal_itself key = ap is_eq (own (slice_cmp nat_cmp key key) (nat_list_cmp_total.antisymm key key))

pub cases_key : (j k : List ℕ) → (j ≡ k) ⊎ (j ≢ k)
cases_key j k = (elim (is_eq (slice_cmp nat_cmp j k)) as (λ b. is_eq (slice_cmp nat_cmp j k) ≡ b → (j ≡ k) ⊎ (j ≢ k)) [
  | true ↦ λ e. inl (same_bytes j k e)
  | false ↦ λ e. inr (λ same. true≢false (sym (equal_itself k) ∙ ap (λ m. is_eq (slice_cmp nat_cmp m k)) (sym same) ∙ e))
]) refl

module _ {K : Type 0} (bytes : K → List ℕ) where
  -- what the map has at a key's bytes
  pub entries_seen : (entries : List (K × ℕ)) (key : List ℕ)
      → entry_in (map (λ (e : K × ℕ). (bytes e.0, e.1)) entries) key ≡ lookup (is_at (λ k. slice_cmp nat_cmp key (bytes k))) entries
  unfolding entry_in
  entries_seen [] key = refl
  entries_seen (e ∷ entries) key = ap (λ o. cond (is_eq (slice_cmp nat_cmp key (bytes e.0))) (Some e.1) o) (entries_seen entries key)

  others_stay : (key q : List ℕ) (old new : List (K × ℕ)) → is_eq (slice_cmp nat_cmp q key) ≡ false
      → KeepsOthers (eq_by_cmp (λ x y. slice_cmp nat_cmp (bytes x) (bytes y))) (is_at (λ k. slice_cmp nat_cmp key (bytes k))) old new
      → lookup (is_at (λ k. slice_cmp nat_cmp q (bytes k))) new ≡ lookup (is_at (λ k. slice_cmp nat_cmp q (bytes k))) old
  unfolding KeepsOthers
  others_stay key q old new other keeps = keeps (λ k. is_eq (slice_cmp nat_cmp q (bytes k)))
      (λ x y at. ap (λ m. is_eq (slice_cmp nat_cmp m (bytes y))) (same_bytes q (bytes x) at))
      (λ k at. ap (λ m. is_eq (slice_cmp nat_cmp q m)) (sym (same_bytes key (bytes k) at)) ∙ other)

  abbrev pub seen : List (K × ℕ) → List (List ℕ × ℕ)
  seen entries = map (λ (e : K × ℕ). (bytes e.0, e.1)) entries

  -- each other key names what it did
  other_named : (key q : List ℕ) (old new : List (K × ℕ)) → is_eq (slice_cmp nat_cmp q key) ≡ false
      → KeepsOthers (eq_by_cmp (λ x y. slice_cmp nat_cmp (bytes x) (bytes y))) (is_at (λ k. slice_cmp nat_cmp key (bytes k))) old new
      → row_named (seen new) q ≡ row_named (seen old) q
  other_named key q old new other keeps =
      ap (λ o. unwrap_or o 0) (entries_seen new q ∙ others_stay key q old new other keeps ∙ sym (entries_seen old q))

  pub others_named : (key q : List ℕ) (old new : List (K × ℕ)) → q ≢ key
      → KeepsOthers (eq_by_cmp (λ x y. slice_cmp nat_cmp (bytes x) (bytes y))) (is_at (λ k. slice_cmp nat_cmp key (bytes k))) old new
      → row_named (seen new) q ≡ row_named (seen old) q
  others_named key q old new other keeps = other_named key q old new (apart q key other) keeps

  -- the key names what it was given
  pub itself_named : (key : List ℕ) (row : ℕ) (new : List (K × ℕ)) → lookup (is_at (λ k. slice_cmp nat_cmp key (bytes k))) new ≡ Some row → row_named (seen new) key ≡ row
  itself_named key row new at = ap (λ o. unwrap_or o 0) (entries_seen new key ∙ at)

  pub itself_forgotten : (key : List ℕ) (new : List (K × ℕ)) → lookup (is_at (λ k. slice_cmp nat_cmp key (bytes k))) new ≡ None → row_named (seen new) key ≡ 0
  itself_forgotten key new at = ap (λ o. unwrap_or o 0) (entries_seen new key ∙ at)

  pub itself_entered : (key stored : List ℕ) (row : ℕ) (new : List (K × ℕ)) → stored ≡ key
      → lookup (is_at (λ k. slice_cmp nat_cmp stored (bytes k))) new ≡ Some row → IsEntered (seen new) key
  itself_entered key stored row new is at = ap is_some (ap (entry_in (seen new)) (sym is) ∙ entries_seen new stored ∙ at)

  -- a key that had no entry is entered without a row
  pub entered_same : (key stored : List ℕ) (old new : List (K × ℕ)) → stored ≡ key → entry_in (seen old) key ≡ None
      → lookup (is_at (λ k. slice_cmp nat_cmp stored (bytes k))) new ≡ Some 0
      → KeepsOthers (eq_by_cmp (λ x y. slice_cmp nat_cmp (bytes x) (bytes y))) (is_at (λ k. slice_cmp nat_cmp stored (bytes k))) old new
      → (q : List ℕ) → row_named (seen new) q ≡ row_named (seen old) q
  entered_same key stored old new is none at keeps q =
      (elim (is_eq (slice_cmp nat_cmp q stored)) as (λ b. is_eq (slice_cmp nat_cmp q stored) ≡ b → row_named (seen new) q ≡ row_named (seen old) q) [
        | true ↦ λ e.
            let here : q ≡ stored = same_bytes q stored e in
            ap (row_named (seen new)) here ∙ itself_named stored 0 new at
            ∙ sym (ap (row_named (seen old)) (here ∙ is) ∙ ap (λ o. unwrap_or o 0) none)
        | false ↦ λ e. other_named stored q old new e keeps
      ]) refl

pub none_entered : (o : Option ℕ) → is_some o ≡ false → o ≡ None
none_entered None h = refl
none_entered (Some row) h = absurd (true≢false h)
