-- Lists in which no number stands twice, and how long they are.
use Rattle.std.proofs.Common.{◌≡◌, ℕ, zero, suc, ◌+◌, ◌-◌, ◌<◌, ◌≤◌, Bool, true, false, cond, List, [], ◌∷◌, ◌++◌, length, map, refl, sym, ap, subst, ◌∙◌, arith, ⊎_elim}
use Rattle.std.specs.Prelude.{Contains, filter, flat_map, sum_by}
use Rattle.std.specs.List.{range_with_len}
use Rattle.std.proofs.lemmas.Bool.{false_from_ne_true, false≢true}
use Rattle.std.proofs.lemmas.List.{length-append}
use Rattle.std.proofs.lemmas.List.Concat.{flat_map-cons}
use Rattle.std.proofs.lemmas.List.Elements.{All-contains, All-contains_itself, All-filter, Contains-append_left, Contains-append_right, Contains-append_cases}
use Rattle.std.proofs.lemmas.List.Sums.{sum_by-cons}
use Rattle.std.proofs.lemmas.List.FromFn.{get_or-range_with_len, length-range_with_len}
use Rattle.px_chain.specs.Sound.{IsApart}
use Rattle.px_chain.proofs.Walks.{contains_first, contains_other, contains_cases, contains_none, splits}

-- ---- what is kept of a list

pub kept_stood : {X : Type 0} (p : X → Bool) (x : X) (xs : List X) → Contains (filter p xs) x → Contains xs x
kept_stood p x xs there = All-contains (Contains xs) (filter p xs) x (All-filter p (Contains xs) xs (All-contains_itself xs)) there

pub is_kept : {X : Type 0} (p : X → Bool) (x : X) (xs : List X) → Contains xs x → p x ≡ true → Contains (filter p xs) x
is_kept p x [] there passes = absurd (contains_none x there)
is_kept {X} p x (y ∷ ys) there passes = ⊎_elim
    (λ (is : y ≡ x).
    subst (λ (b : Bool). Contains (cond b (y ∷ filter p ys) (filter p ys)) x) (sym (ap p is ∙ passes))
    (subst (λ (z : X). Contains (y ∷ filter p ys) z) is (contains_first y (filter p ys))))
    (λ (later : Contains ys x).
    elim (p y) as (λ b. Contains (cond b (y ∷ filter p ys) (filter p ys)) x) [
      | true ↦ contains_other y x (filter p ys) (is_kept p x ys later passes)
      | false ↦ is_kept p x ys later passes
    ])
    (contains_cases y x ys there)

-- what passes a test that lets less through passes both
pub kept_twice : {X : Type 0} (p q : X → Bool) → ((x : X) → p x ≡ true → q x ≡ true) → (xs : List X) → filter p (filter q xs) ≡ filter p xs
kept_twice p q within [] = refl
kept_twice p q within (x ∷ xs) =
    (elim (q x) as (λ b. q x ≡ b → filter p (cond b (x ∷ filter q xs) (filter q xs)) ≡ cond (p x) (x ∷ filter p xs) (filter p xs)) [
      | true ↦ λ yes.
          elim (p x) as (λ b. cond b (x ∷ filter p (filter q xs)) (filter p (filter q xs)) ≡ cond b (x ∷ filter p xs) (filter p xs)) [
            | true ↦ ap (λ l. x ∷ l) (kept_twice p q within xs)
            | false ↦ kept_twice p q within xs
          ]
      | false ↦ λ no.
          kept_twice p q within xs
          ∙ sym (ap (λ b. cond b (x ∷ filter p xs) (filter p xs)) (false_from_ne_true (p x) (λ passes. false≢true (sym no ∙ within x passes))))
    ]) refl

pub none_kept : {X : Type 0} (p : X → Bool) (xs : List X) → ((x : X) → Contains xs x → p x ≡ false) → filter p xs ≡ []
none_kept p [] fails = refl
none_kept p (x ∷ xs) fails =
    ap (λ b. cond b (x ∷ filter p xs) (filter p xs)) (fails x (contains_first x xs))
    ∙ none_kept p xs (λ y there. fails y (contains_other x y xs there))

pub apart_kept : (p : ℕ → Bool) (xs : List ℕ) → IsApart xs → IsApart (filter p xs)
apart_kept p [] apart = tt
apart_kept p (x ∷ xs) apart =
    elim (p x) as (λ b. IsApart (cond b (x ∷ filter p xs) (filter p xs))) [
      | true ↦ (λ there. apart.0 (kept_stood p x xs there), apart_kept p xs apart.1)
      | false ↦ apart_kept p xs apart.1
    ]

-- ---- numbers in a row

pub in_range : (a n x : ℕ) → a ≤ x → x < a + n → Contains (range_with_len a n) x
in_range a n x from to = (x - a, omega (arith, length-range_with_len a n), get_or-range_with_len a n (x - a) x (omega arith) ∙ omega arith)

pub of_range : (a n x : ℕ) → Contains (range_with_len a n) x → (a ≤ x) × (x < a + n)
of_range a n x (k, within, is) =
    let short : k < n = omega (arith, within, length-range_with_len a n) in
    let there = sym is ∙ get_or-range_with_len a n k x short in
    (omega (arith, there), omega (arith, there, short))

pub apart_range : (a n : ℕ) → IsApart (range_with_len a n)
apart_range a zero = tt
apart_range a (suc n) = (λ there. let r = of_range (a + 1) n a there in omega (arith, r.0), apart_range (a + 1) n)

-- ---- lists behind one another

pub apart_joined : (xs ys : List ℕ) → IsApart xs → IsApart ys → ((x : ℕ) → Contains xs x → Contains ys x → ⊥) → IsApart (xs ++ ys)
apart_joined [] ys a b away = b
apart_joined (x ∷ xs) ys a b away = (
  λ there. ⊎_elim (λ (h : Contains xs x). a.0 h) (λ (h : Contains ys x). away x (contains_first x xs) h) (Contains-append_cases xs ys x there),
  apart_joined xs ys a.1 b (λ y h. away y (contains_other x y xs h)),
)

pub in_one_of : (f : ℕ → List ℕ) (x y : ℕ) (xs : List ℕ) → Contains xs x → Contains (f x) y → Contains (flat_map f xs) y
in_one_of f x y [] there within = absurd (contains_none x there)
in_one_of f x y (z ∷ xs) there within =
    subst (λ (l : List ℕ). Contains l y) (sym (flat_map-cons f z xs)) (⊎_elim
    (λ (is : z ≡ x). Contains-append_left (f z) (flat_map f xs) y (subst (λ (w : ℕ). Contains (f w) y) (sym is) within))
    (λ (later : Contains xs x). Contains-append_right (f z) (flat_map f xs) y (in_one_of f x y xs later within))
    (contains_cases z x xs there))

pub of_one_of : (f : ℕ → List ℕ) (y : ℕ) (xs : List ℕ) → Contains (flat_map f xs) y → (x : ℕ) × Contains xs x × Contains (f x) y
of_one_of f y [] there = absurd (contains_none y there)
of_one_of f y (x ∷ xs) there = ⊎_elim
    (λ (here : Contains (f x) y). (x, contains_first x xs, here))
    (λ (later : Contains (flat_map f xs) y). let r = of_one_of f y xs later in (r.0, contains_other x r.0 xs r.1, r.2))
    (Contains-append_cases (f x) (flat_map f xs) y (subst (λ (l : List ℕ). Contains l y) (flat_map-cons f x xs) there))

pub apart_all : (f : ℕ → List ℕ) (xs : List ℕ) → IsApart xs → ((x : ℕ) → Contains xs x → IsApart (f x))
    → ((x y place : ℕ) → Contains (f x) place → Contains (f y) place → x ≡ y) → IsApart (flat_map f xs)
apart_all f [] apart each one = tt
apart_all f (x ∷ xs) apart each one =
    subst IsApart (sym (flat_map-cons f x xs)) (apart_joined (f x) (flat_map f xs) (each x (contains_first x xs))
    (apart_all f xs apart.1 (λ y h. each y (contains_other x y xs h)) one)
    (λ place here there. let r = of_one_of f place xs there in apart.0 (subst (λ (w : ℕ). Contains xs w) (sym (one x r.0 place here r.2)) r.1)))

-- ---- how long they are

no_longer : (xs ys : List ℕ) → IsApart xs → ((x : ℕ) → Contains xs x → Contains ys x) → length xs ≤ length ys
no_longer [] ys apart within = omega arith
no_longer (x ∷ xs) ys apart within =
    let s = splits x ys (within x (contains_first x xs)) in
    let left : (y : ℕ) → Contains xs y → Contains (s.0 ++ s.1) y = λ y there. ⊎_elim
    (λ (before : Contains s.0 y). Contains-append_left s.0 s.1 y before)
    (λ (behind : Contains (x ∷ s.1) y). ⊎_elim
    (λ (is : x ≡ y). absurd (apart.0 (subst (λ (z : ℕ). Contains xs z) (sym is) there)))
    (λ (later : Contains s.1 y). Contains-append_right s.0 s.1 y later)
    (contains_cases x y s.1 behind))
    (Contains-append_cases s.0 (x ∷ s.1) y (subst (λ (l : List ℕ). Contains l y) s.2 (within y (contains_other x y xs there)))) in
    let more = no_longer xs (s.0 ++ s.1) apart.1 left in
    let whole = ap length s.2 in
    let a = length-append s.0 (x ∷ s.1) in
    let b = length-append s.0 s.1 in
    omega (arith, more, whole, a, b)

-- lists with the same numbers, each once, are equally long
pub as_long : (xs ys : List ℕ) → IsApart xs → IsApart ys → ((x : ℕ) → Contains xs x → Contains ys x) → ((x : ℕ) → Contains ys x → Contains xs x)
    → length xs ≡ length ys
as_long xs ys a b to back =
    let up = no_longer xs ys a to in
    let down = no_longer ys xs b back in
    omega (arith, up, down)

-- and so one is that has the numbers 1 to another
pub counts : (n : ℕ) (xs : List ℕ) → IsApart xs → ((x : ℕ) → Contains xs x → (1 ≤ x) × (x ≤ n)) → ((x : ℕ) → (1 ≤ x) × (x ≤ n) → Contains xs x)
    → n ≡ length xs
counts n xs apart to back =
    let same = as_long xs (range_with_len 1 n) apart (apart_range 1 n)
    (λ x there. let p = to x there in in_range 1 n x p.0 (omega (arith, p.1)))
    (λ x there. let r = of_range 1 n x there in back x (r.0, omega (arith, r.1))) in
    omega (arith, same, length-range_with_len 1 n)

-- a list of one number, once, or of none
pub at_most_one : (xs : List ℕ) → IsApart xs → ((x y : ℕ) → Contains xs x → Contains xs y → x ≡ y) → length xs ≤ 1
at_most_one [] apart one = omega arith
at_most_one (x ∷ []) apart one = omega arith
at_most_one (x ∷ (y ∷ ys)) apart one =
    let same = one x y (contains_first x (y ∷ ys)) (contains_other x y (y ∷ ys) (contains_first y ys)) in
    absurd (apart.0 (subst (λ (z : ℕ). Contains (y ∷ ys) z) (sym same) (contains_first y ys)))

-- ---- sums

pub sum_of_ones : {X : Type 0} (xs : List X) → sum_by (λ (x : X). 1) xs ≡ length xs
sum_of_ones [] = refl
sum_of_ones {X} (x ∷ xs) =
    let a = sum_by-cons (λ (y : X). 1) x xs in
    let more = sum_of_ones xs in
    omega (arith, a, more)

pub sum_mapped : {X Y : Type 0} (f : Y → ℕ) (g : X → Y) (xs : List X) → sum_by f (map g xs) ≡ sum_by (λ x. f (g x)) xs
sum_mapped f g [] = refl
sum_mapped {X} f g (x ∷ xs) =
    let a = sum_by-cons f (g x) (map g xs) in
    let b = sum_by-cons (λ (y : X). f (g y)) x xs in
    let more = sum_mapped f g xs in
    omega (arith, a, b, more)

pub sum_alike : (f g : ℕ → ℕ) (xs : List ℕ) → ((x : ℕ) → Contains xs x → f x ≡ g x) → sum_by f xs ≡ sum_by g xs
sum_alike f g [] same = refl
sum_alike f g (x ∷ xs) same =
    let a = sum_by-cons f x xs in
    let b = sum_by-cons g x xs in
    let here = same x (contains_first x xs) in
    let more = sum_alike f g xs (λ y there. same y (contains_other x y xs there)) in
    omega (arith, a, b, here, more)

pub one_each : (f : ℕ → ℕ) (xs : List ℕ) → ((x : ℕ) → Contains xs x → 1 ≤ f x) → length xs ≤ sum_by f xs
one_each f [] some = omega arith
one_each f (x ∷ xs) some =
    let a = sum_by-cons f x xs in
    let here = some x (contains_first x xs) in
    let more = one_each f xs (λ y there. some y (contains_other x y xs there)) in
    omega (arith, a, here, more)
