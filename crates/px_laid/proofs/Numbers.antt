-- Values at the numbers from one on.
use Rattle.std.proofs.Common.{◌≡◌, ℕ, suc, ◌+◌, List, [], ◌∷◌, ◌++◌, length, subst, arith}
use Rattle.px_laid.specs.Whole.{AllFrom}

pub AllFrom-push : {X : Type 0} (At : ℕ → X → Type 0) (number : ℕ) (xs : List X) (x : X) → AllFrom At number xs → At (number + length xs) x → AllFrom At number (xs ++ x ∷ [])
AllFrom-push At number [] x all here =
    let same : number + 0 ≡ number = omega arith in
    (subst (λ (n : ℕ). At n x) same here, tt)
AllFrom-push At number (y ∷ ys) x all here =
    let same : number + suc (length ys) ≡ suc number + length ys = omega arith in
    (all.0, AllFrom-push At (suc number) ys x all.1 (subst (λ (n : ℕ). At n x) same here))

pub AllFrom-weaker : {X : Type 0} (P Q : ℕ → X → Type 0) → ((n : ℕ) (x : X) → P n x → Q n x) → (number : ℕ) (xs : List X) → AllFrom P number xs → AllFrom Q number xs
AllFrom-weaker P Q weaker number [] all = tt
AllFrom-weaker P Q weaker number (x ∷ xs) all = (weaker number x all.0, AllFrom-weaker P Q weaker (suc number) xs all.1)
