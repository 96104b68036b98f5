-- Keys, compared part by part, and what holds at each key.
use Rattle.std.proofs.Common.{◌≡◌, ℕ, true, false, cond, ◌&&◌, ◌==◌, inl, inr, List, Option, Some, None, is_some, ◌⊎◌, Result, Ok, Err, OnErr, refl, sym, ap, ◌∙◌, arith}
use Rattle.std.specs.Ordering.{is_eq, nat_cmp}
use Rattle.std.specs.declared.cmp.Ordering.{Ordering}
use Rattle.std.specs.declared.cmp.Ordering.TheVariants.{Less, Equal, Greater}
use Rattle.std.specs.Cmp.{IsTotalOrder, nat_cmp_total}
use Rattle.std.specs.Cmp.Lexicographic.{slice_cmp, nat_list_cmp_total}
use Rattle.std.proofs.lemmas.Cmp.{on_total, then_total}
use Rattle.std.proofs.lemmas.Bool.{cases_order, false≢true}
use Rattle.std.proofs.lemmas.Bool.Decides.{nat_tests}
use Rattle.std.proofs.lemmas.Map.Lookups.{exact_pairs, exact_unsigned, exact_bytes}
use Rattle.px_model.specs.Rows.{Key, key_cmp, same_key}

pub key_total : IsTotalOrder key_cmp
unfolding key_cmp
key_total = then_total (on_total (λ (k : Key). k.0) nat_cmp_total) (on_total (λ (k : Key). k.1) nat_list_cmp_total)

pub key_exact : (a b : Key) → key_cmp a b ≡ Equal → a ≡ b
unfolding key_cmp
key_exact = exact_pairs nat_cmp (slice_cmp nat_cmp) exact_unsigned exact_bytes

-- two keys are the same where their tables and their bytes are
pub same_parts : (t u : ℕ) (j k : List ℕ) → same_key (t, j) (u, k) ≡ ((u == t) && is_eq (slice_cmp nat_cmp j k))
unfolding same_key key_cmp
same_parts t u j k = elim (cases_order t u) [
  | inl e ↦ grind (arith, nat_tests, e)
  | inr (inl e) ↦ grind (arith, nat_tests, e)
  | inr (inr e) ↦ grind (arith, nat_tests, e)
]

is_equal : (o : Ordering) → is_eq o ≡ true → o ≡ Equal
is_equal Less h = absurd (false≢true h)
is_equal Equal h = refl
is_equal Greater h = absurd (false≢true h)

pub same_key-is : (a b : Key) → same_key a b ≡ true → a ≡ b
unfolding same_key
same_key-is a b h = key_exact a b (is_equal (key_cmp a b) h)

pub same_bytes : (j k : List ℕ) → is_eq (slice_cmp nat_cmp j k) ≡ true → j ≡ k
same_bytes j k h = exact_bytes j k (is_equal (slice_cmp nat_cmp j k) h)

-- at the key, and at each other one
pub by_key : {A : Type 0} (key : Key) (f : Key → A) (x : A) (g : Key → A) → f key ≡ x
    → ((q : Key) → same_key q key ≡ false → f q ≡ g q) → (q : Key) → f q ≡ cond (same_key q key) x (g q)
by_key key f x g at other q =
    (elim (same_key q key) as (λ b. same_key q key ≡ b → f q ≡ cond b x (g q)) [
      | true ↦ λ e. ap f (same_key-is q key e) ∙ at
      | false ↦ λ e. other q e
    ]) refl

pub same_number : (n : ℕ) → (n == n) ≡ true
same_number n = grind (arith, nat_tests)

pub is_number : (m n : ℕ) → (m == n) ≡ true → m ≡ n
is_number m n h = grind (arith, nat_tests, h)

pub some_is : (answer : Option ℕ) (number : ℕ) → is_some answer ≡ true → (answer ≡ None) ⊎ (answer ≡ Some number) → answer ≡ Some number
some_is answer number h (inl none) = absurd (false≢true (sym (ap is_some none) ∙ h))
some_is answer number h (inr same) = same

pub OnErr_from : {A B : Type 0} (answer : Result A B) {P : Type 0} → P → OnErr answer P
OnErr_from (Ok x) p = tt
OnErr_from (Err x) p = p
