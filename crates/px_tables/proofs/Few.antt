-- A list of places that stand in it once isn't longer than the places are many.
use Rattle.std.proofs.Common.{◌≡◌, ◌≢◌, ℕ, zero, suc, ◌+◌, ◌≤◌, eqb, cond, List, [], ◌∷◌, length, refl, sym, ap, subst, ◌∙◌, arith, ⊎_elim}
use Rattle.std.specs.Prelude.{Contains}
use Rattle.std.proofs.lemmas.Bool.{cases_eq, eq-eqb, ne_eqb}
use Rattle.px_chain.specs.Sound.{IsApart}
use Rattle.px_chain.proofs.Walks.{contains_first, contains_other, contains_cases, contains_none}

without : ℕ → List ℕ → List ℕ
without n [] = []
without n (x ∷ xs) = cond (eqb x n) (without n xs) (x ∷ without n xs)

here : (n x : ℕ) (xs : List ℕ) → x ≡ n → without n (x ∷ xs) ≡ without n xs
unfolding without
here n x xs e = rw (eq-eqb x n e) refl

there : (n x : ℕ) (xs : List ℕ) → x ≢ n → without n (x ∷ xs) ≡ x ∷ without n xs
unfolding without
there n x xs ne = rw (ne_eqb x n ne) refl

left : (n p : ℕ) (xs : List ℕ) → Contains (without n xs) p → Contains xs p × (p ≢ n)
unfolding without
left n p [] has = absurd (contains_none p has)
left n p (x ∷ xs) has = ⊎_elim
    (λ (e : x ≡ n). let r = left n p xs (subst (λ (l : List ℕ). Contains l p) (here n x xs e) has) in (contains_other x p xs r.0, r.1))
    (λ (ne : x ≢ n). ⊎_elim
    (λ (is : x ≡ p). (subst (λ (q : ℕ). Contains (x ∷ xs) q) is (contains_first x xs), λ (e : p ≡ n). ne (is ∙ e)))
    (λ (later : Contains (without n xs) p). let r = left n p xs later in (contains_other x p xs r.0, r.1))
    (contains_cases x p (without n xs) (subst (λ (l : List ℕ). Contains l p) (there n x xs ne) has)))
    (cases_eq x n)

apart_left : (n : ℕ) (xs : List ℕ) → IsApart xs → IsApart (without n xs)
unfolding without
apart_left n [] apart = tt
apart_left n (x ∷ xs) apart = ⊎_elim
    (λ (e : x ≡ n). subst IsApart (sym (here n x xs e)) (apart_left n xs apart.1))
    (λ (ne : x ≢ n). subst IsApart (sym (there n x xs ne)) (λ has. apart.0 (left n x xs has).0, apart_left n xs apart.1))
    (cases_eq x n)

nothing_left_out : (n : ℕ) (xs : List ℕ) → (Contains xs n → ⊥) → without n xs ≡ xs
unfolding without
nothing_left_out n [] away = refl
nothing_left_out n (x ∷ xs) away = ⊎_elim
    (λ (e : x ≡ n). absurd (away (subst (λ (q : ℕ). Contains (x ∷ xs) q) e (contains_first x xs))))
    (λ (ne : x ≢ n). there n x xs ne ∙ ap (λ (l : List ℕ). x ∷ l) (nothing_left_out n xs (λ has. away (contains_other x n xs has))))
    (cases_eq x n)

one_left_out : (n : ℕ) (xs : List ℕ) → IsApart xs → length xs ≤ length (without n xs) + 1
unfolding without
one_left_out n [] apart = omega arith
one_left_out n (x ∷ xs) apart = ⊎_elim
    (λ (e : x ≡ n).
    let whole : length (without n xs) ≡ length xs = ap length (nothing_left_out n xs (λ has. apart.0 (subst (λ (q : ℕ). Contains xs q) (sym e) has))) in
    let all : length (without n (x ∷ xs)) ≡ length xs = ap length (here n x xs e) ∙ whole in
    omega (arith, all))
    (λ (ne : x ≢ n).
    let all : length (without n (x ∷ xs)) ≡ length (x ∷ without n xs) = ap length (there n x xs ne) in
    let more = one_left_out n xs apart.1 in
    omega (arith, all, more))
    (cases_eq x n)

pub few : (n : ℕ) (xs : List ℕ) → IsApart xs → ((p : ℕ) → Contains xs p → (1 ≤ p) × (p ≤ n)) → length xs ≤ n
few zero [] apart places = omega arith
few zero (x ∷ xs) apart places = let p = places x (contains_first x xs) in absurd (omega (arith, p.0, p.1))
few (suc n) xs apart places =
    let rest : length (without (suc n) xs) ≤ n = few n (without (suc n) xs) (apart_left (suc n) xs apart)
    (λ p has. let l = left (suc n) p xs has in let q = places p l.0 in (q.0, let ne = l.1 in omega (arith, q.1, ne))) in
    omega (arith, one_left_out (suc n) xs apart, rest)
