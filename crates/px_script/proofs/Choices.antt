-- A value under two tests.
use Rattle.std.proofs.Common.{◌≡◌, Bool, true, false, ◌&&◌, cond, Some, None, refl}

pub none_where_one_fails : {A : Type 0} (a b : Bool) (value : A) → (a ≡ true → b ≡ true → ⊥) → cond (a && b) (Some value) None ≡ None
none_where_one_fails true true value h = absurd (h refl refl)
none_where_one_fails true false value h = refl
none_where_one_fails false b value h = refl

pub some_where_both_hold : {A : Type 0} (a b : Bool) (value : A) → a ≡ true → b ≡ true → cond (a && b) (Some value) None ≡ Some value
some_where_both_hold true true value h k = refl
some_where_both_hold true false value h k = absurd (cc k)
some_where_both_hold false b value h k = absurd (cc h)
