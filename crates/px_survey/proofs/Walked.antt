-- Walks that end and walks that don't, and the marks of what they meet.
use Rattle.std.proofs.Common.{◌≡◌, ◌≢◌, ℕ, ◌-◌, ◌≤◌, Bool, true, false, List, [], ◌∷◌, ◌++◌, length, get_or, set, refl, sym, ap, subst, ◌∙◌, arith, inl, inr, ⊎_elim}
use Rattle.std.specs.Prelude.{All, Contains}
use Rattle.std.proofs.lemmas.Bool.{cases_eq}
use Rattle.std.proofs.lemmas.List.{get_or-set_same, get_or-set_other}
use Rattle.std.proofs.lemmas.List.Elements.{All-contains, All-push, All-tail, All-head, All-weaker, Contains-append_left, Contains-push, Contains-push_cases}
use Rattle.px_chain.specs.Sound.{Walks, IsApart}
use Rattle.px_chain.proofs.Walks.{all_from, contains_first, splits, walk_join, walk_split, walk_some}
use Rattle.px_chain.proofs.Places.{apart_walk, apart_both, in_middle}
use Rattle.px_survey.specs.Walked.{Meets, Strays, IsMarked, Comes, Fails}

-- ---- a walk that ends

-- what it meets on the way splits it
pub walk_on : (next : ℕ → ℕ) (from : ℕ) (list before : List ℕ) (place : ℕ) → Walks next from list 0 → All (λ p. 1 ≤ p) before → place ≢ 0
    → Walks next from before place → (rest : List ℕ) × (list ≡ before ++ (place ∷ rest))
walk_on next from list [] place walk some on here =
    let s = walk_some next from list walk (λ none. on (sym here ∙ none)) in
    (s.0, s.1 ∙ ap (λ (p : ℕ). p ∷ s.0) here)
walk_on next from [] (x ∷ before) place walk some on here =
    let first : 1 ≤ x = All-head (λ (p : ℕ). 1 ≤ p) x before some in absurd (omega (arith, walk, here.0))
walk_on next from (y ∷ list) (x ∷ before) place walk some on here =
    let same : x ≡ y = sym here.0 ∙ walk.0 in
    let r = walk_on next (next y) list before place walk.1 (All-tail (λ (p : ℕ). 1 ≤ p) x before some) on
    (subst (λ (p : ℕ). Walks next (next p) before place) same here.1) in
    (r.0, ap (λ (zs : List ℕ). y ∷ zs) r.1 ∙ ap (λ (p : ℕ). p ∷ (before ++ (place ∷ r.0))) (sym same))

-- the list of a walk that ends, over places that may stand on it
pub record IsWalked (IsOn : ℕ → Type 0) (next : ℕ → ℕ) (from : ℕ) (list : List ℕ) : Type 0 where
  pub some : (place : ℕ) → IsOn place → 1 ≤ place
  pub walk : Walks next from list 0
  pub on : All IsOn list

pub meets_in : (IsOn : ℕ → Type 0) (next : ℕ → ℕ) (from : ℕ) (list : List ℕ) → IsWalked IsOn next from list → (place : ℕ) → Meets IsOn next from place → Contains list place
meets_in IsOn next from list is place met =
    let s = walk_on next from list met.before place is.walk (All-weaker IsOn (λ (p : ℕ). 1 ≤ p) is.some met.before met.on) met.some met.walk in
    subst (λ (l : List ℕ). Contains l place) (sym s.1) (in_middle met.before place s.0)

pub in_meets : (IsOn : ℕ → Type 0) (next : ℕ → ℕ) (from : ℕ) (list : List ℕ) → IsWalked IsOn next from list → (place : ℕ) → Contains list place → Meets IsOn next from place
in_meets IsOn next from list is place there =
    let s = splits place list there in
    let w = walk_split next from s.0 (place ∷ s.1) 0 (subst (λ (l : List ℕ). Walks next from l 0) s.2 is.walk) in
    let first : 1 ≤ place = is.some place (All-contains IsOn list place is.on there) in
    record {
      before = s.0;
      on = all_from IsOn s.0 (λ p in'. All-contains IsOn list p is.on (subst (λ (l : List ℕ). Contains l p) (sym s.2) (Contains-append_left s.0 (place ∷ s.1) p in')));
      walk = subst (λ (p : ℕ). Walks next from s.0 p) w.2.0 w.1;
      some = λ none. absurd (omega (arith, none));
    }

pub no_stray : (IsOn : ℕ → Type 0) (next : ℕ → ℕ) (from : ℕ) (list : List ℕ) → IsWalked IsOn next from list → Strays IsOn next from → ⊥
no_stray IsOn next from list is stray =
    let met = stray.met in
    let some : All (λ (p : ℕ). 1 ≤ p) list = All-weaker IsOn (λ (p : ℕ). 1 ≤ p) is.some list is.on in
    let s = walk_on next from list met.before stray.place is.walk (All-weaker IsOn (λ (p : ℕ). 1 ≤ p) is.some met.before met.on) met.some met.walk in
    let there : Contains list stray.place = subst (λ (l : List ℕ). Contains l stray.place) (sym s.1) (in_middle met.before stray.place s.0) in
    let apart : IsApart (met.before ++ (stray.place ∷ s.0)) = subst IsApart s.1 (apart_walk next from list some is.walk) in
    ⊎_elim
    (λ (off : IsOn stray.place → ⊥). off (All-contains IsOn list stray.place is.on there))
    (λ (twice : Contains met.before stray.place). apart_both met.before (stray.place ∷ s.0) apart stray.place twice (contains_first stray.place s.0))
    stray.wrong

-- ---- a walk, step by step

marked_here : (marks : List Bool) (place : ℕ) → 1 ≤ place → place ≤ length marks → IsMarked (set marks (place - 1) true) place
marked_here marks place some within = get_or-set_same marks (place - 1) true false (omega arith)

marked_still : (marks : List Bool) (at place : ℕ) → 1 ≤ at → at ≤ length marks → IsMarked marks place → IsMarked (set marks (at - 1) true) place
marked_still marks at place some within is = ⊎_elim
    (λ (e : place - 1 ≡ at - 1). subst (λ (i : ℕ). get_or (set marks (at - 1) true) i false ≡ true) (sym e) (marked_here marks at some within))
    (λ (e : place - 1 ≢ at - 1). get_or-set_other marks (at - 1) (place - 1) true false e ∙ is)
    (cases_eq (place - 1) (at - 1))

marked_before : (marks : List Bool) (at place : ℕ) → 1 ≤ at → 1 ≤ place → place ≢ at → IsMarked (set marks (at - 1) true) place → IsMarked marks place
marked_before marks at place some some_place apart is = sym (get_or-set_other marks (at - 1) (place - 1) true false (λ e. apart (omega (arith, e)))) ∙ is

pub comes_on : (IsOn : ℕ → Type 0) (next : ℕ → ℕ) (from at : ℕ) (old marks : List Bool) → Comes IsOn next from at old marks → 1 ≤ at → at ≤ length marks → IsOn at
    → Comes IsOn next from (next at) old (set marks (at - 1) true)
comes_on IsOn next from at old marks came some within on = record {
  list = came.list ++ at ∷ [];
  walk = walk_join next from came.list at (at ∷ []) (next at) came.walk (refl, refl);
  on = All-push IsOn came.list at came.on on;
  marks = record {
    here = λ p there. ⊎_elim
        (λ (before : Contains came.list p). marked_still marks at p some within (came.marks.here p before))
        (λ (e : at ≡ p). subst (λ (q : ℕ). IsMarked (set marks (at - 1) true) q) e (marked_here marks at some within))
        (Contains-push_cases came.list at p there);
    kept = λ p is. marked_still marks at p some within (came.marks.kept p is);
    others = λ p some_p is. ⊎_elim
        (λ (e : p ≡ at). inr (subst (λ (q : ℕ). Contains (came.list ++ at ∷ []) q) (sym e) (Contains-push came.list at)))
        (λ (e : p ≢ at). ⊎_elim
        (λ (was : IsMarked old p). inl was)
        (λ (there : Contains came.list p). inr (Contains-append_left came.list (at ∷ []) p there))
        (came.marks.others p some_p (marked_before marks at p some some_p e is)))
        (cases_eq p at);
  };
}

abbrev meets_at : (IsOn : ℕ → Type 0) (next : ℕ → ℕ) (from at : ℕ) (old marks : List Bool) → Comes IsOn next from at old marks → at ≢ 0 → Meets IsOn next from at
meets_at IsOn next from at old marks came some = record { before = came.list; on = came.on; walk = came.walk; some = some }

pub fails_marked : (IsOn : ℕ → Type 0) (next : ℕ → ℕ) (from at : ℕ) (old marks : List Bool) → Comes IsOn next from at old marks → at ≢ 0 → IsMarked marks at → Fails IsOn next from old
fails_marked IsOn next from at old marks came some is = record {
  place = at;
  met = meets_at IsOn next from at old marks came some;
  wrong = inr (⊎_elim
      (λ (was : IsMarked old at). inr was)
      (λ (there : Contains came.list at). inl there)
      (came.marks.others at (omega arith) is));
}

-- where none was marked, it strays
pub fails_strays : (IsOn : ℕ → Type 0) (next : ℕ → ℕ) (from : ℕ) (old : List Bool) → ((place : ℕ) → IsMarked old place → ⊥) → Fails IsOn next from old → Strays IsOn next from
fails_strays IsOn next from old none fails = record {
  place = fails.place;
  met = fails.met;
  wrong = ⊎_elim
      (λ (off : IsOn fails.place → ⊥). inl off)
      (λ rest. ⊎_elim (λ (twice : Contains fails.met.before fails.place). inr twice) (λ (was : IsMarked old fails.place). absurd (none fails.place was)) rest)
      fails.wrong;
}
