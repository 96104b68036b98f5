-- What appends one after the other make of a buffer.
use Rattle.std.proofs.Common.{◌≡◌, ℕ, ◌≤◌, List, ◌++◌, length, take, refl, sym, ap, ◌∙◌, append_assoc, Result, Ok, Err, OnErr, arith}
use Rattle.std.proofs.lemmas.List.{length-append, take_at, take-take}

pub appended : (old mid new x y : List ℕ) → mid ≡ old ++ x → new ≡ mid ++ y → new ≡ old ++ (x ++ y)
appended old mid new x y first second = second ∙ ap (λ (b : List ℕ). b ++ y) first ∙ append_assoc old x y

-- what was there before an earlier append is kept where what the earlier one left is
pub kept : (old mid new x : List ℕ) → mid ≡ old ++ x → take (length mid) new ≡ mid → take (length old) new ≡ old
kept old mid new x first keeps =
    let fits : length old ≤ length mid = omega (arith, ap length first, length-append old x) in
    sym (take-take (length old) (length mid) new fits)
    ∙ ap (λ (b : List ℕ). take (length old) b) (keeps ∙ first)
    ∙ take_at old x (length old) refl

-- what holds in any case holds at an error
pub at_error : {T E P : Type 0} (r : Result T E) → P → OnErr r P
at_error (Ok x) p = tt
at_error (Err e) p = p
