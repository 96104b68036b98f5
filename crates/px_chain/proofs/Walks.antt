-- Walks: what they meet, and that one which ends meets no place twice.
use Rattle.std.proofs.Common.{◌≡◌, ◌≢◌, ℕ, zero, suc, ◌≤◌, List, [], ◌∷◌, ◌++◌, length, refl, sym, ap, subst, ◌∙◌, arith, inl, inr, ⊎_elim}
use Rattle.std.specs.Prelude.{All, Contains, ◌⊎◌}
use Rattle.std.proofs.lemmas.List.{length-append}
use Rattle.std.proofs.lemmas.List.Elements.{Contains-get_or, Contains-append_left, Contains-append_right, Contains-append_cases, All-contains, All-head, All-tail}
use Rattle.px_chain.specs.Sound.{Walks}

-- ---- elements of lists

pub all_from : {X : Type 0} (P : X → Type 0) (xs : List X) → ((x : X) → Contains xs x → P x) → All P xs
all_from P xs each = λ k d within. each _ (Contains-get_or xs k d within)

pub contains_first : {X : Type 0} (x : X) (xs : List X) → Contains (x ∷ xs) x
contains_first x xs = (0, omega arith, refl)

pub contains_other : {X : Type 0} (x y : X) (xs : List X) → Contains xs y → Contains (x ∷ xs) y
contains_other x y xs there = Contains-append_right (x ∷ []) xs y there

pub contains_cases : {X : Type 0} (x y : X) (xs : List X) → Contains (x ∷ xs) y → (x ≡ y) ⊎ Contains xs y
contains_cases x y xs (zero, _, is) = inl is
contains_cases x y xs (suc k, within, is) = inr (k, omega arith, is)

pub contains_none : {X : Type 0} (x : X) → Contains [] x → ⊥
contains_none x (k, within, _) = omega arith

-- what is in a list splits it
pub splits : (x : ℕ) (xs : List ℕ) → Contains xs x → (front : List ℕ) × (rest : List ℕ) × (xs ≡ front ++ (x ∷ rest))
splits x [] there = absurd (contains_none x there)
splits x (y ∷ ys) there = ⊎_elim
    (λ (is : y ≡ x). ([], ys, ap (λ (z : ℕ). z ∷ ys) is))
    (λ (later : Contains ys x). let s = splits x ys later in (y ∷ s.0, s.1, ap (λ (zs : List ℕ). y ∷ zs) s.2))
    (contains_cases y x ys there)

-- ---- walks

pub walk_same : (next other : ℕ → ℕ) (from : ℕ) (list : List ℕ) (to : ℕ) → ((place : ℕ) → Contains list place → next place ≡ other place)
    → Walks next from list to → Walks other from list to
walk_same next other from [] to same walk = walk
walk_same next other from (met ∷ list) to same walk = (
  walk.0,
  subst (λ (p : ℕ). Walks other p list to) (same met (contains_first met list))
      (walk_same next other (next met) list to (λ place there. same place (contains_other met place list there)) walk.1),
)

pub walk_split : (next : ℕ → ℕ) (from : ℕ) (front rest : List ℕ) (to : ℕ) → Walks next from (front ++ rest) to
    → (middle : ℕ) × Walks next from front middle × Walks next middle rest to
walk_split next from [] rest to walk = (from, refl, walk)
walk_split next from (met ∷ front) rest to walk =
    let s = walk_split next (next met) front rest to walk.1 in (s.0, (walk.0, s.1), s.2)

pub walk_join : (next : ℕ → ℕ) (from : ℕ) (front : List ℕ) (middle : ℕ) (rest : List ℕ) (to : ℕ) → Walks next from front middle → Walks next middle rest to
    → Walks next from (front ++ rest) to
walk_join next from [] middle rest to before behind = subst (λ (p : ℕ). Walks next p rest to) (sym before) behind
walk_join next from (met ∷ front) middle rest to before behind = (before.0, walk_join next (next met) front middle rest to before.1 behind)

-- the walk from a place to the end, over places that aren't the end, is one
pub one_walk : (next : ℕ → ℕ) (from : ℕ) (list other : List ℕ) → All (λ place. 1 ≤ place) list → All (λ place. 1 ≤ place) other
    → Walks next from list 0 → Walks next from other 0 → list ≡ other
one_walk next from [] [] a b v w = refl
one_walk next from [] (y ∷ ys) a b v w = let y_in : 1 ≤ y = All-head (λ (place : ℕ). 1 ≤ place) y ys b in absurd (omega (arith, v, w.0))
one_walk next from (x ∷ xs) [] a b v w = let x_in : 1 ≤ x = All-head (λ (place : ℕ). 1 ≤ place) x xs a in absurd (omega (arith, v.0, w))
one_walk next from (x ∷ xs) (y ∷ ys) a b v w =
    let same : x ≡ y = sym v.0 ∙ w.0 in
    let rest : xs ≡ ys = one_walk next (next x) xs ys (All-tail (λ (place : ℕ). 1 ≤ place) x xs a) (All-tail (λ (place : ℕ). 1 ≤ place) y ys b)
    v.1 (subst (λ (p : ℕ). Walks next (next p) ys 0) (sym same) w.1) in
    cc

-- a walk that ends meets no place in two parts of it
pub walk_apart : (next : ℕ → ℕ) (from : ℕ) (front rest : List ℕ) → All (λ place. 1 ≤ place) (front ++ rest) → Walks next from (front ++ rest) 0
    → (place : ℕ) → Contains front place → Contains rest place → ⊥
walk_apart next from front rest all walk place in_front in_rest =
    let f = splits place front in_front in
    let r = splits place rest in_rest in
    let first = walk_split next from front rest 0 walk in
    let before = walk_split next from f.0 (place ∷ f.1) first.0 (subst (λ (l : List ℕ). Walks next from l first.0) f.2 first.1) in
    let behind = walk_split next first.0 r.0 (place ∷ r.1) 0 (subst (λ (l : List ℕ). Walks next first.0 l 0) r.2 first.2) in
    let long : Walks next before.0 ((place ∷ f.1) ++ rest) 0 = walk_join next before.0 (place ∷ f.1) first.0 rest 0 before.2 first.2 in
    let same : behind.0 ≡ before.0 = behind.2.0 ∙ sym before.2.0 in
    let short : Walks next before.0 (place ∷ r.1) 0 = subst (λ (p : ℕ). Walks next p (place ∷ r.1) 0) same behind.2 in
    let all_front : (p : ℕ) → Contains front p → 1 ≤ p = λ p there. All-contains (λ (place : ℕ). 1 ≤ place) (front ++ rest) p all (Contains-append_left front rest p there) in
    let all_rest : (p : ℕ) → Contains rest p → 1 ≤ p = λ p there. All-contains (λ (place : ℕ). 1 ≤ place) (front ++ rest) p all (Contains-append_right front rest p there) in
    let in_long : (p : ℕ) → Contains ((place ∷ f.1) ++ rest) p → 1 ≤ p = λ p there.
    ⊎_elim (λ (a : Contains (place ∷ f.1) p). all_front p (subst (λ (l : List ℕ). Contains l p) (sym f.2) (Contains-append_right f.0 (place ∷ f.1) p a)))
    (λ (b : Contains rest p). all_rest p b) (Contains-append_cases (place ∷ f.1) rest p there) in
    let in_short : (p : ℕ) → Contains (place ∷ r.1) p → 1 ≤ p = λ p there.
    all_rest p (subst (λ (l : List ℕ). Contains l p) (sym r.2) (Contains-append_right r.0 (place ∷ r.1) p there)) in
    let lengths = ap length (one_walk next before.0 ((place ∷ f.1) ++ rest) (place ∷ r.1)
    (all_from (λ (place : ℕ). 1 ≤ place) ((place ∷ f.1) ++ rest) in_long) (all_from (λ (place : ℕ). 1 ≤ place) (place ∷ r.1) in_short) long short) in
    let a = length-append (place ∷ f.1) rest in
    let b = ap length r.2 in
    let c = length-append r.0 (place ∷ r.1) in
    omega arith

-- a walk over places that ends at once, or doesn't
pub walk_none : (next : ℕ → ℕ) (from : ℕ) (list : List ℕ) → All (λ place. 1 ≤ place) list → Walks next from list 0 → from ≡ 0 → list ≡ []
walk_none next from [] all walk at_end = refl
walk_none next from (x ∷ xs) all walk at_end =
    let some : 1 ≤ x = All-contains (λ (place : ℕ). 1 ≤ place) (x ∷ xs) x all (contains_first x xs) in absurd (omega (arith, walk.0))

pub walk_some : (next : ℕ → ℕ) (from : ℕ) (list : List ℕ) → Walks next from list 0 → from ≢ 0
    → (rest : List ℕ) × (list ≡ from ∷ rest) × Walks next (next from) rest 0
walk_some next from [] walk on = absurd (on walk)
walk_some next from (x ∷ xs) walk on =
    (xs, ap (λ (p : ℕ). p ∷ xs) (sym walk.0), subst (λ (p : ℕ). Walks next (next p) xs 0) (sym walk.0) walk.1)
