-- Places taken from a free list and given back.
use Rattle.std.proofs.Common.{◌≡◌, ◌≢◌, ℕ, ◌+◌, ◌≤◌, List, [], ◌∷◌, drop, refl, sym, ap, subst, ◌∙◌, arith, ⊎_elim}
use Rattle.std.specs.Prelude.{All, Contains}
use Rattle.std.proofs.lemmas.Bool.{cases_eq, eq-eqb, ne_eqb}
use Rattle.std.proofs.lemmas.List.Elements.{All-contains, All-weaker}
use Rattle.px_free.specs.Places.{Places, next_place, after_taking}
use Rattle.px_chain.specs.Sound.{Walks, IsPlace, IsFreeList}
use Rattle.px_chain.proofs.Walks.{contains_first, contains_other, contains_cases, contains_none, walk_apart, walk_none, walk_some}

-- what is left of a free list of which a place was taken
pub record IsTaken (old new : Places) (place : ℕ) (next : ℕ → ℕ) (IsFree : ℕ → Type 0) (list : List ℕ) : Type 0 where
  pub walk : Walks next new.front list 0
  pub free : (p : ℕ) → Contains list p → IsPlace old p × IsFree p
  pub apart : Contains list place → ⊥
  pub whole : (p : ℕ) → IsPlace old p → IsFree p → p ≢ place → Contains list p
  pub itself : IsPlace new place
  pub grows : old.used ≤ new.used
  pub old_place : (p : ℕ) → IsPlace new p → p ≢ place → IsPlace old p
  pub was_free : IsPlace old place → IsFree place

pub places_of : (places : Places) (next : ℕ → ℕ) (IsFree : ℕ → Type 0) (list : List ℕ) → IsFreeList places next IsFree list → All (λ place. 1 ≤ place) list
places_of places next IsFree list is = All-weaker (λ place. IsPlace places place × IsFree place) (λ place. 1 ≤ place) (λ p f. f.0.0) list is.free

of_none : (old new : Places) (place : ℕ) (next : ℕ → ℕ) (IsFree : ℕ → Type 0) (list : List ℕ) → IsFreeList old next IsFree list → old.front ≡ 0
    → place ≡ old.used + 1 → new.used ≡ old.used + 1 → new.front ≡ 0 → IsTaken old new place next IsFree (drop 1 list)
of_none old new place next IsFree list is none at used front =
    let empty : list ≡ [] = walk_none next old.front list (places_of old next IsFree list is) is.walk none in
    let left : drop 1 list ≡ [] = ap (λ (l : List ℕ). drop 1 l) empty in
    record {
      walk = subst (λ (l : List ℕ). Walks next new.front l 0) (sym left) front;
      free = λ p there. absurd (contains_none p (subst (λ (l : List ℕ). Contains l p) left there));
      apart = λ there. contains_none place (subst (λ (l : List ℕ). Contains l place) left there);
      whole = λ p in' free other. absurd (contains_none p (subst (λ (l : List ℕ). Contains l p) empty (is.whole p in' free)));
      itself = (omega arith, omega arith);
      grows = omega arith;
      old_place = λ p in' other. (in'.0, let n : p ≢ old.used + 1 = λ e. other (e ∙ sym at) in omega arith);
      was_free = λ in'. absurd (omega (arith, in'.1));
    }

of_front : (old new : Places) (place : ℕ) (next : ℕ → ℕ) (IsFree : ℕ → Type 0) (list : List ℕ) → IsFreeList old next IsFree list → old.front ≢ 0
    → place ≡ old.front → new.used ≡ old.used → new.front ≡ next old.front → IsTaken old new place next IsFree (drop 1 list)
of_front old new place next IsFree list is some at used front =
    let s = walk_some next old.front list is.walk some in
    let rest = s.0 in
    let split : list ≡ place ∷ rest = s.1 ∙ ap (λ (p : ℕ). p ∷ rest) (sym at) in
    let left : rest ≡ drop 1 list = sym (ap (λ (l : List ℕ). drop 1 l) split) in
    let in_list : (p : ℕ) → Contains (place ∷ rest) p → Contains list p = λ p there. subst (λ (l : List ℕ). Contains l p) (sym split) there in
    let free : (p : ℕ) → Contains (place ∷ rest) p → IsPlace old p × IsFree p = λ p there. All-contains (λ (q : ℕ). IsPlace old q × IsFree q) list p is.free (in_list p there) in
    let itself = free place (contains_first place rest) in
    let taken : IsTaken old new place next IsFree rest = record {
      walk = subst (λ (p : ℕ). Walks next p rest 0) (sym front) s.2;
      free = λ p there. free p (contains_other place p rest there);
      apart = λ there. walk_apart next old.front (place ∷ []) rest (subst (λ (l : List ℕ). All (λ q. 1 ≤ q) l) split (places_of old next IsFree list is))
          (subst (λ (l : List ℕ). Walks next old.front l 0) split is.walk) place (contains_first place []) there;
      whole = λ p in' is_free other. ⊎_elim (λ (e : place ≡ p). absurd (other (sym e))) (λ (there : Contains rest p). there)
          (contains_cases place p rest (subst (λ (l : List ℕ). Contains l p) split (is.whole p in' is_free)));
      itself = (itself.0.0, omega (arith, itself.0.1));
      grows = omega arith;
      old_place = λ p in' other. (in'.0, omega (arith, in'.1));
      was_free = λ in'. itself.1;
    } in
    subst (λ (l : List ℕ). IsTaken old new place next IsFree l) left taken

pub taken : (old new : Places) (next : ℕ → ℕ) (IsFree : ℕ → Type 0) (list : List ℕ) → IsFreeList old next IsFree list
    → new ≡ after_taking old (next old.front) → IsTaken old new (next_place old) next IsFree (drop 1 list)
taken old new next IsFree list is after = ⊎_elim
    (λ (none : old.front ≡ 0).
    let test = eq-eqb old.front 0 none in
    let made : new ≡ record old { used = old.used + 1 } = after ∙ rw test refl in
    of_none old new (next_place old) next IsFree list is none (rw test refl) (ap (λ (p : Places). p.used) made) (ap (λ (p : Places). p.front) made ∙ none))
    (λ (some : old.front ≢ 0).
    let test = ne_eqb old.front 0 some in
    let made : new ≡ record old { front = next old.front } = after ∙ rw test refl in
    of_front old new (next_place old) next IsFree list is some (rw test refl) (ap (λ (p : Places). p.used) made) (ap (λ (p : Places). p.front) made))
    (cases_eq old.front 0)
