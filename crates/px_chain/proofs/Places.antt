-- Lists of places, none of which stands in them twice.
use Rattle.std.proofs.Common.{◌≡◌, ◌≢◌, ℕ, ◌≤◌, List, [], ◌∷◌, ◌++◌, refl, sym, ap, subst, inl, inr, ⊎_elim}
use Rattle.std.specs.Prelude.{All, Contains, ◌⊎◌}
use Rattle.std.proofs.lemmas.List.Elements.{All-tail, Contains-append_left, Contains-append_right}
use Rattle.px_chain.specs.Sound.{Walks, IsApart}
use Rattle.px_chain.proofs.Walks.{contains_first, contains_other, contains_cases, contains_none, walk_apart}

pub apart_walk : (next : ℕ → ℕ) (from : ℕ) (list : List ℕ) → All (λ place. 1 ≤ place) list → Walks next from list 0 → IsApart list
apart_walk next from [] all walk = tt
apart_walk next from (x ∷ xs) all walk = (
  λ there. walk_apart next from (x ∷ []) xs all walk x (contains_first x []) there,
  apart_walk next (next x) xs (All-tail (λ (place : ℕ). 1 ≤ place) x xs all) walk.1,
)

pub apart_front : (front rest : List ℕ) → IsApart (front ++ rest) → IsApart front
apart_front [] rest apart = tt
apart_front (x ∷ front) rest apart = (λ there. apart.0 (Contains-append_left front rest x there), apart_front front rest apart.1)

pub apart_rest : (front rest : List ℕ) → IsApart (front ++ rest) → IsApart rest
apart_rest [] rest apart = apart
apart_rest (x ∷ front) rest apart = apart_rest front rest apart.1

pub apart_both : (front rest : List ℕ) → IsApart (front ++ rest) → (place : ℕ) → Contains front place → Contains rest place → ⊥
apart_both [] rest apart place here there = contains_none place here
apart_both (x ∷ front) rest apart place here there = ⊎_elim
    (λ (e : x ≡ place). apart.0 (subst (λ (p : ℕ). Contains (front ++ rest) p) (sym e) (Contains-append_right front rest place there)))
    (λ (later : Contains front place). apart_both front rest apart.1 place later there)
    (contains_cases x place front here)

pub in_middle : (front : List ℕ) (place : ℕ) (rest : List ℕ) → Contains (front ++ (place ∷ rest)) place
in_middle front place rest = Contains-append_right front (place ∷ rest) place (contains_first place rest)

heads : (x y : ℕ) (xs ys : List ℕ) → (x ∷ xs) ≡ (y ∷ ys) → (x ≡ y) × (xs ≡ ys)
heads x y xs ys e = (cc, cc)

-- it splits at a place in one way
pub one_split : (place : ℕ) (front other rest left : List ℕ) → IsApart (front ++ (place ∷ rest)) → front ++ (place ∷ rest) ≡ other ++ (place ∷ left) → rest ≡ left
one_split place [] [] rest left apart same = (heads place place rest left same).1
one_split place [] (y ∷ other) rest left apart same =
    absurd (apart.0 (subst (λ (l : List ℕ). Contains l place) (sym (heads place y rest (other ++ (place ∷ left)) same).1) (in_middle other place left)))
one_split place (x ∷ front) [] rest left apart same =
    absurd (apart.0 (subst (λ (p : ℕ). Contains (front ++ (place ∷ rest)) p) (sym (heads x place (front ++ (place ∷ rest)) left same).0) (in_middle front place rest)))
one_split place (x ∷ front) (y ∷ other) rest left apart same =
    one_split place front other rest left apart.1 (heads x y (front ++ (place ∷ rest)) (other ++ (place ∷ left)) same).1

-- ---- the first and the last

abbrev pub head_or : List ℕ → ℕ → ℕ
head_or [] other = other
head_or (first ∷ others) other = first

abbrev pub last_of : List ℕ → ℕ
last_of [] = 0
last_of (last ∷ []) = last
last_of (first ∷ (second ∷ others)) = last_of (second ∷ others)

pub last_in : (x : ℕ) (xs : List ℕ) → Contains (x ∷ xs) (last_of (x ∷ xs))
last_in x [] = contains_first x []
last_in x (y ∷ ys) = contains_other x (last_of (y ∷ ys)) (y ∷ ys) (last_in y ys)

pub none_or_some : (xs : List ℕ) → (xs ≡ []) ⊎ (xs ≢ [])
none_or_some [] = inl refl
none_or_some (x ∷ xs) = inr (λ (e : (x ∷ xs) ≡ []). cc)

-- ---- walks with another `next`

-- each place leads to the one behind it
pub walk_linked : (next : ℕ → ℕ) (list : List ℕ) (to : ℕ) → ((front : List ℕ) (place : ℕ) (rest : List ℕ) → list ≡ front ++ (place ∷ rest) → next place ≡ head_or rest to)
    → Walks next (head_or list to) list to
walk_linked next [] to leads = refl
walk_linked next (x ∷ xs) to leads = (
  refl,
  subst (λ (p : ℕ). Walks next p xs to) (sym (leads [] x xs refl))
      (walk_linked next xs to (λ front place rest e. leads (x ∷ front) place rest (ap (λ (l : List ℕ). x ∷ l) e))),
)

-- the last of the places leads to another one
pub walk_relinked : (next other : ℕ → ℕ) (from : ℕ) (list : List ℕ) (to end : ℕ) → IsApart list → list ≢ []
    → ((place : ℕ) → Contains list place → place ≢ last_of list → next place ≡ other place) → other (last_of list) ≡ end
    → Walks next from list to → Walks other from list end
walk_relinked next other from [] to end apart some same leads walk = absurd (some refl)
walk_relinked next other from (x ∷ []) to end apart some same leads walk = (walk.0, leads)
walk_relinked next other from (x ∷ (y ∷ ys)) to end apart some same leads walk =
    let away : x ≢ last_of (y ∷ ys) = λ e. apart.0 (subst (λ (p : ℕ). Contains (y ∷ ys) p) (sym e) (last_in y ys)) in (
      walk.0,
      subst (λ (p : ℕ). Walks other p (y ∷ ys) end) (same x (contains_first x (y ∷ ys)) away)
          (walk_relinked next other (next x) (y ∷ ys) to end apart.1 (λ (e : (y ∷ ys) ≡ []). cc)
          (λ place there not_last. same place (contains_other x place (y ∷ ys) there) not_last) leads walk.1),
    )

-- where a walk leads that goes on
pub walk_head : (next : ℕ → ℕ) (from : ℕ) (list : List ℕ) → Walks next from list 0 → from ≡ head_or list 0
walk_head next from [] walk = walk
walk_head next from (x ∷ xs) walk = walk.0
