-- A number that is added counts, beside those that did.
use Rattle.std.proofs.Common.{◌≡◌, ℕ, ◌==◌, ◌||◌, Bool, true, false, List, [], ◌∷◌, Less, Equal, Greater, refl, sym, ap, ◌∙◌}
use Rattle.std.proofs.lemmas.Map.Lookups.{exact_unsigned}
use Rattle.std.specs.BTreeSet.{insert_key}
use Rattle.std.specs.List.{list_any}
use Rattle.std.specs.Ordering.{match_ordering, nat_cmp}
use Rattle.px_shown.specs.Shown.{done_with}
use Rattle.px_tidy.specs.Numbers.{done_below, done_of}

abbrev is_among : (number : ℕ) → List ℕ → Bool
is_among number list = list_any (λ added. number == added) list

twice : (a b : Bool) → a || b ≡ a || (a || b)
twice true b = refl
twice false b = refl

swapped : (a b c : Bool) → a || (b || c) ≡ b || (a || c)
swapped true true c = refl
swapped true false c = refl
swapped false b c = refl

in_turn : (a b c : Bool) → (a || b) || c ≡ a || (b || c)
in_turn true b c = refl
in_turn false b c = refl

among_inserted : (number xn : ℕ) (list : List ℕ) → is_among number (insert_key nat_cmp list xn) ≡ (number == xn) || is_among number list
among_inserted number xn [] = refl
among_inserted number xn (x ∷ xs) =
    (elim (nat_cmp xn x) as (λ o. nat_cmp xn x ≡ o → is_among number (match_ordering o (xn ∷ x ∷ xs) (x ∷ xs) (x ∷ insert_key nat_cmp xs xn))
    ≡ (number == xn) || ((number == x) || is_among number xs)) [
      | Less ↦ λ e. refl
      | Equal ↦ λ e. twice (number == x) (is_among number xs)
          ∙ ap (λ n. (number == n) || ((number == x) || is_among number xs)) (sym (exact_unsigned xn x e))
      | Greater ↦ λ e. ap (λ (b : Bool). (number == x) || b) (among_inserted number xn xs) ∙ swapped (number == x) (number == xn) (is_among number xs)
    ]) refl

pub one_added : (low xn : ℕ) (old new : List ℕ) → new ≡ insert_key nat_cmp old xn
    → done_of (record { low = low; added = new }) ≡ done_with xn (done_of (record { low = low; added = old }))
one_added low xn old new is = λ i. λ number. each number i
  where
    each : (number : ℕ) → is_among number new || done_below low number ≡ (number == xn) || (is_among number old || done_below low number)
    each number =
        ap (λ (l : List ℕ). is_among number l || done_below low number) is
        ∙ ap (λ (b : Bool). b || done_below low number) (among_inserted number xn old)
        ∙ in_turn (number == xn) (is_among number old) (done_below low number)
