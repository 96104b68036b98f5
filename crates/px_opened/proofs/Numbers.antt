-- Values at the numbers from one on, and which numbers tables have.
use Rattle.std.proofs.Common.{◌≡◌, ℕ, zero, suc, ◌+◌, ◌-◌, ◌<◌, ◌≤◌, List, [], ◌∷◌, length, get_or, refl, ap, subst, ◌∙◌, arith, inl, inr, ⊎_elim}
use Rattle.std.specs.Prelude.{◌⊎◌}
use Rattle.std.proofs.lemmas.Bool.{cases_lt}
use Rattle.px_laid.specs.Whole.{AllFrom, AreAll}
use Rattle.px_history.specs.Fitting.{IsTable}

at : {X : Type 0} (At : ℕ → X → Type 0) (first : ℕ) (xs : List X) (n : ℕ) (d : X) → AllFrom At first xs → n < length xs → At (first + n) (get_or xs n d)
at At first [] n d all within = absurd (omega (arith, within))
at At first (x ∷ xs) zero d all within =
    let same : first ≡ first + 0 = omega arith in
    subst (λ (m : ℕ). At m x) same all.0
at At first (x ∷ xs) (suc n) d all within =
    let same : suc first + n ≡ first + suc n = omega arith in
    subst (λ (m : ℕ). At m (get_or xs n d)) same (at At (suc first) xs n d all.1 (omega (arith, within)))

-- the value at a number stands one place before it
pub before : {X : Type 0} (At : ℕ → X → Type 0) (count : ℕ) (xs : List X) (n : ℕ) (d : X) → AreAll At count xs → 1 ≤ n → n ≤ count → At n (get_or xs (n - 1) d)
before At count xs zero d all some within = absurd (omega (arith, some))
before At count xs (suc n) d all some within =
    let long = all.long in
    let same : n ≡ suc n - 1 = omega arith in
    let one : 1 + n ≡ suc n = omega arith in
    subst (λ (k : ℕ). At (suc n) (get_or xs k d)) same (subst (λ (m : ℕ). At m (get_or xs n d)) one (at At 1 xs n d all.each (omega (arith, long, within))))

pub some_value : {X : Type 0} (At : ℕ → X → Type 0) (count : ℕ) (xs : List X) (n : ℕ) → AreAll At count xs → 1 ≤ n → n ≤ count → (x : X) × At n x
some_value At count [] n all some within = absurd (let long = all.long in omega (arith, long, some, within))
some_value At count (x ∷ xs) n all some within = (get_or (x ∷ xs) (n - 1) x, before At count (x ∷ xs) n x all some within)

-- and at the number itself, where another value stands in front
pub behind : {X : Type 0} (At : ℕ → X → Type 0) (count : ℕ) (first : X) (xs : List X) (n : ℕ) (d : X) → AreAll At count xs → 1 ≤ n → n ≤ count → At n (get_or (first ∷ xs) n d)
behind At count first xs zero d all some within = absurd (omega (arith, some))
behind At count first xs (suc n) d all some within =
    let long = all.long in
    let one : 1 + n ≡ suc n = omega arith in
    subst (λ (m : ℕ). At m (get_or xs n d)) one (at At 1 xs n d all.each (omega (arith, long, within)))

-- where one value alone can be at each number, one list can
pub one_list : {X : Type 0} (At : ℕ → X → Type 0) → ((n : ℕ) (a b : X) → At n a → At n b → a ≡ b) → (first : ℕ) (xs ys : List X) → length xs ≡ length ys
    → AllFrom At first xs → AllFrom At first ys → xs ≡ ys
one_list At one first [] [] same of_xs of_ys = refl
one_list At one first [] (y ∷ ys) same of_xs of_ys = absurd (omega (arith, same))
one_list At one first (x ∷ xs) [] same of_xs of_ys = absurd (omega (arith, same))
one_list {X} At one first (x ∷ xs) (y ∷ ys) same of_xs of_ys =
    ap (λ (v : X). v ∷ xs) (one first x y of_xs.0 of_ys.0)
    ∙ ap (λ (l : List X). y ∷ l) (one_list At one (suc first) xs ys (omega (arith, same)) of_xs.1 of_ys.1)

pub table_or_not : (tables t : ℕ) → IsTable tables t ⊎ (IsTable tables t → ⊥)
table_or_not tables t = ⊎_elim
    (λ (low : t < 1). inr (λ within. omega (arith, low, within.0)))
    (λ (some : 1 ≤ t). ⊎_elim
    (λ (past : tables < t). inr (λ within. omega (arith, past, within.1)))
    (λ (within : t ≤ tables). inl (some, within))
    (cases_lt tables t))
    (cases_lt t 1)
