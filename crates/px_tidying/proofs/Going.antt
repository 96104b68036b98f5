-- Versions that go the oldest first: an unlink leaves the newer places of its row's chain where they were.
use Rattle.std.proofs.Common.{◌≡◌, ℕ, zero, suc, ◌+◌, ◌-◌, ◌<◌, ◌≤◌, Bool, cond, true, false, List, [], ◌∷◌, ◌++◌, drop, get_or, length, map, take, refl, sym, ap, subst, ◌∙◌, arith, inl, inr, length-append}
use Rattle.std.specs.Prelude.{filter}
use Rattle.std.proofs.Math.Seq.{take-take}
use Rattle.std.proofs.lemmas.Bool.{cases_Bool, eq-eqb}
use Rattle.std.proofs.lemmas.List.{get_or-take, length-map, length-take-le}
use Rattle.px_cells.specs.declared.slot.Slot.{Slot}
use Rattle.px_chain.specs.Links.{unlinked}
use Rattle.px_chain.specs.Places.{IsRun, slot_before, slot_in}
use Rattle.px_chain.specs.Sound.{IsUsedRow, Layout}
use Rattle.px_history.specs.Steps.{AreSteps, Step, after_step, after_steps, after_unlink}
use Rattle.px_history.specs.Store.{Store, versions_of}
use Rattle.px_shown.specs.Changes.{left_of}
use Rattle.px_shown.specs.Parts.{Parts}
use Rattle.px_shown.specs.Shown.{Done}
use Rattle.px_tidy.specs.Kept.{is_other, oldest_first, place_kept, tidied_away}
use Rattle.px_tidy.specs.Steps.{tidying_row}
use Rattle.px_tidy.specs.Unneeded.{unneeded_at}
use Rattle.px_tidying.specs.Going.{Descend, MayGo, MayGoInTurn}

-- ---- places in front of a bound

-- the other chain has the same slots there
record AgreesBelow (bound : ℕ) (chain other : List ℕ) : Type 0 where
  pub long : bound ≤ length other
  pub same : (n : ℕ) → n < bound → slot_in other n ≡ slot_in chain n

before_same : (bound : ℕ) (chain other : List ℕ) (place : ℕ) → AgreesBelow bound chain other → place < bound → slot_before other place ≡ slot_before chain place
before_same bound chain other zero agrees below = refl
before_same bound chain other (suc place) agrees below = agrees.same place (omega (arith, below))

run_there : (bound : ℕ) (chain other : List ℕ) (place : ℕ) → AgreesBelow bound chain other → place < bound
    → IsRun other place (slot_before chain place) (slot_in chain place) 1
run_there bound chain other place agrees below =
    let long = agrees.long in
    record {
      some = omega arith;
      within = omega (arith, long, below);
      front = before_same bound chain other place agrees below;
      start = agrees.same place below;
    }

front_of : (front behind : List ℕ) (n : ℕ) → n < length front → slot_in (front ++ behind) n ≡ slot_in front n
front_of [] behind n within = absurd (omega (arith, within))
front_of (first ∷ front) behind zero within = refl
front_of (first ∷ front) behind (suc n) within = front_of front behind n (omega (arith, within))

-- a place gone, those in front of it are there
left_agrees : (bound : ℕ) (chain other : List ℕ) (place : ℕ) → AgreesBelow bound chain other → place < bound → AgreesBelow place chain (left_of other place 1)
left_agrees bound chain other place agrees below =
    let long = agrees.long in
    let front = length-take-le place other (omega (arith, long, below)) in
    let behind = drop 1 (drop place other) in
    let both = length-append (take place other) behind in
    record {
      long = omega (arith, front, both);
      same = λ n within.
          front_of (take place other) behind n (omega (arith, front, within))
          ∙ get_or-take place other n 0 within
          ∙ agrees.same n (omega (arith, within, below));
    }

chain_left : (store : Store) (t row place : ℕ) → ((after_unlink store t row place 1).layouts t).chain row ≡ left_of ((store.layouts t).chain row) place 1
chain_left store t row place =
    ap (λ (b : Bool). (cond b (unlinked (store.layouts t) row place 1) (store.layouts t)).chain row) (eq-eqb t t refl)
    ∙ ap (λ (b : Bool). cond b (left_of ((store.layouts t).chain row) place 1) ((store.layouts t).chain row)) (eq-eqb row row refl)

-- ---- one after the other

go_from : (parts : Parts) (short : ℕ) (store : Store) (t row bound : ℕ) (chain places : List ℕ) → AgreesBelow bound chain ((store.layouts t).chain row)
    → Descend bound places → AreSteps parts short store (map (λ place. Step.unlink t row place 1) places) → MayGoInTurn store t row chain places
go_from parts short store t row bound chain [] agrees down follow = tt
go_from parts short store t row bound chain (place ∷ places) agrees down follow = (
  record { unlink = follow.0; run = run_there bound chain ((store.layouts t).chain row) place agrees down.0 },
  go_from parts short (after_unlink store t row place 1) t row place chain places
      (subst (AgreesBelow place chain) (sym (chain_left store t row place)) (left_agrees bound chain ((store.layouts t).chain row) place agrees down.0))
      down.1 follow.1,
)

lower : (a b : ℕ) (places : List ℕ) → Descend a places → a ≤ b → Descend b places
lower a b [] down to = tt
lower a b (place ∷ places) down to = let first = down.0 in (omega (arith, first, to), down.1)

some_descend : (goes : ℕ → Bool) (bound : ℕ) → Descend bound (filter goes (oldest_first bound))
some_descend goes zero = tt
some_descend goes (suc place) = elim (cases_Bool (goes place)) [
  | inl is ↦ subst (λ (b : Bool). Descend (suc place) (cond b (place ∷ filter goes (oldest_first place)) (filter goes (oldest_first place)))) (sym is)
      (omega arith, some_descend goes place)
  | inr not ↦ subst (λ (b : Bool). Descend (suc place) (cond b (place ∷ filter goes (oldest_first place)) (filter goes (oldest_first place)))) (sym not)
      (lower place (suc place) (filter goes (oldest_first place)) (some_descend goes place) (omega arith))
]

pub row_goes : (parts : Parts) (short : ℕ) (store : Store) (t row : ℕ) → AreSteps parts short store (tidying_row store t row)
    → MayGoInTurn store t row ((store.layouts t).chain row) (tidied_away store.done (versions_of store t row))
row_goes parts short store t row follow =
    let chain = (store.layouts t).chain row in
    let slots = versions_of store t row in
    let size = length-map chain (store.tables t).slot in
    go_from parts short store t row (length slots) chain (tidied_away store.done slots)
    (record { long = omega (arith, size); same = λ n within. refl })
    (some_descend (is_other (place_kept store.done slots)) (length slots)) follow

-- ---- the one at an index

pub turn_at : (store : Store) (t row : ℕ) (chain places : List ℕ) (index : ℕ) → MayGoInTurn store t row chain places → index < length places
    → MayGo (after_steps store (take index (map (λ place. Step.unlink t row place 1) places))) t row (get_or places index 0) (unneeded_at chain (get_or places index 0))
turn_at store t row chain [] index turn within = absurd (omega (arith, within))
turn_at store t row chain (place ∷ places) zero turn within = turn.0
turn_at store t row chain (place ∷ places) (suc index) turn within =
    turn_at (after_unlink store t row place 1) t row chain places index turn.1 (omega (arith, within))

one_step_more : (t row : ℕ) (places : List ℕ) (index : ℕ) → index < length places
    → take (suc index) (map (λ place. Step.unlink t row place 1) places)
    ≡ take index (map (λ place. Step.unlink t row place 1) places) ++ Step.unlink t row (get_or places index 0) 1 ∷ []
one_step_more t row [] index within = absurd (omega (arith, within))
one_step_more t row (place ∷ places) zero within = refl
one_step_more t row (place ∷ places) (suc index) within =
    ap (λ (steps : List Step). Step.unlink t row place 1 ∷ steps) (one_step_more t row places index (omega (arith, within)))

pub step_more : (t row : ℕ) (places : List ℕ) (index : ℕ) → index < length places
    → take (index + 1) (map (λ place. Step.unlink t row place 1) places)
    ≡ take index (map (λ place. Step.unlink t row place 1) places) ++ Step.unlink t row (get_or places index 0) 1 ∷ []
step_more t row places index within =
    let same : index + 1 ≡ suc index = omega arith in
    ap (λ (n : ℕ). take n (map (λ place. Step.unlink t row place 1) places)) same ∙ one_step_more t row places index within
