-- The last moment of a call.
use Rattle.std.proofs.Common.{◌≡◌, ◌⊎◌, List, [], ◌∷◌, ◌++◌, sym, subst, inl, inr}
use Rattle.std.specs.List.{AllByRecursion}
use Rattle.px_site.specs.State.{State, Moment, history, EachMoment}

pub last_moment : {P : Moment → Type 0} {a b : State} → EachMoment P a b → (b.now ≡ a.now) ⊎ P b.now
last_moment {P} {a} {b} moments = by_added moments.added moments.grown moments.each
  where
    first : {x y : Moment} {xs ys : List Moment} → x ∷ xs ≡ y ∷ ys → x ≡ y
    first e = cc

    by_added : (added : List Moment) → history b ≡ added ++ history a → AllByRecursion P added → (b.now ≡ a.now) ⊎ P b.now
    by_added [] grown each = inl (first grown)
    by_added (m ∷ added) grown each = inr (subst P (sym (first grown)) each.0)
