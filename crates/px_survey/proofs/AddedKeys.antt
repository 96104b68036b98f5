-- A set of keys, and one key more.
use Rattle.std.proofs.Common.{◌≡◌, ℕ, Bool, true, false, cond, List, refl, sym, ap, ◌∙◌, inl, inr, ⊎_elim}
use Rattle.std.specs.Ordering.{is_eq, nat_cmp}
use Rattle.std.specs.declared.cmp.Ordering.{Ordering}
use Rattle.std.specs.declared.cmp.Ordering.TheVariants.{Less, Equal, Greater}
use Rattle.std.specs.Cmp.Lexicographic.{slice_cmp}
use Rattle.std.proofs.lemmas.Bool.{cases_Bool, cond-false, false≢true}
use Rattle.std.proofs.lemmas.Map.Lookups.{exact_bytes}
use Rattle.px_survey.specs.Surveyed.{Adds}

is_equal : (o : Ordering) → is_eq o ≡ true → o ≡ Equal
is_equal Less h = absurd (false≢true h)
is_equal Equal h = refl
is_equal Greater h = absurd (false≢true h)

either_true : (b : Bool) → cond b true true ≡ true
either_true true = refl
either_true false = refl

pub key_added : (key : List ℕ) (old new : List ℕ → Bool) → new key ≡ true → ((q : List ℕ) → new q ≡ cond (is_eq (slice_cmp nat_cmp key q)) true (old q))
    → Adds key (λ q. old q ≡ true) (λ q. new q ≡ true)
key_added key old new here each = record {
  here = here;
  kept = λ q had. each q ∙ ap (λ (b : Bool). cond (is_eq (slice_cmp nat_cmp key q)) true b) had ∙ either_true (is_eq (slice_cmp nat_cmp key q));
  others = λ q has. ⊎_elim
      (λ (e : is_eq (slice_cmp nat_cmp key q) ≡ true). inr (sym (exact_bytes key q (is_equal (slice_cmp nat_cmp key q) e))))
      (λ (e : is_eq (slice_cmp nat_cmp key q) ≡ false). inl (sym (each q ∙ cond-false (is_eq (slice_cmp nat_cmp key q)) true (old q) e) ∙ has))
      (cases_Bool (is_eq (slice_cmp nat_cmp key q)));
}
