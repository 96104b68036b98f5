-- The versions of a row, one after the other.
use Rattle.std.proofs.Common.{◌≡◌, ℕ, zero, suc, ◌+◌, ◌<◌, ◌≤◌, List, [], ◌∷◌, ◌++◌, get_or, length, map, take, refl, sym, ap, subst, ◌∙◌, arith}
use Rattle.std.proofs.lemmas.List.{length-map, length-take-le, take_all}
use Rattle.px_held.proofs.Serving.{served}
use Rattle.px_history.specs.Steps.{Step, after_steps}
use Rattle.px_history.specs.Store.{Store, versions_of}
use Rattle.px_shown.specs.Parts.{no_parts}
use Rattle.px_shown.specs.Shown.{Done}
use Rattle.px_tidy.proofs.OneRow.{tidy_row}
use Rattle.px_tidy.specs.Kept.{tidied_away}
use Rattle.px_tidy.specs.Steps.{tidying_row}
use Rattle.px_tidy.specs.Unneeded.{unneeded_at}
use Rattle.px_tidy.specs.declared.tidying.Unneeded.{Unneeded}
use Rattle.px_tidying.specs.Going.{HasRow, MayGo, MayGoInTurn}
use Rattle.px_tidying.specs.Opening.{HasStore, Made, Opening}
use Rattle.px_tidying.proofs.Composing.{both_made}
use Rattle.px_tidying.proofs.Going.{row_goes, step_more, turn_at}
use Rattle.px_tidying.proofs.Made.{unlink_of}

mapped_at : {X Y : Type 0} (f : X → Y) (xs : List X) (index : ℕ) (x : X) (y : Y) → index < length xs → get_or (map f xs) index y ≡ f (get_or xs index x)
mapped_at f [] index x y within = absurd (omega (arith, within))
mapped_at f (first ∷ xs) zero x y within = refl
mapped_at f (first ∷ xs) (suc index) x y within = mapped_at f xs index x y (omega (arith, within))

-- a list of versions, as those of a store that go
module _ (done : Done) (t row : ℕ) (store : Store) (old : Opening) (versions : List Unneeded) (is : HasRow done t row store) (has : HasStore store old)
    (are : versions ≡ map (unneeded_at ((store.layouts t).chain row)) (tidied_away done (versions_of store t row))) where
  abbrev places : List ℕ
  places = tidied_away store.done (versions_of store t row)

  abbrev chain : List ℕ
  chain = (store.layouts t).chain row

  versions_are : versions ≡ map (unneeded_at chain) places
  versions_are = are ∙ ap (λ (d : Done). map (unneeded_at chain) (tidied_away d (versions_of store t row))) (sym is.0)

  as_many : length versions ≡ length places
  as_many = ap length versions_are ∙ length-map places (unneeded_at chain)

  turn : MayGoInTurn store t row chain places
  turn = row_goes no_parts old.held.short store t row ((tidy_row old.held.short store t row (served old.site old.held store has.serves).sound).follow no_parts)

  abbrev place : ℕ → ℕ
  place index = get_or places index 0

  -- the one that goes next
  pub next_goes : (index : ℕ) (none : Unneeded) → index < length versions
      → MayGo (after_steps store (take index (tidying_row store t row))) t row (place index) (get_or versions index none)
  next_goes index none within =
      let inside : index < length places = omega (arith, within, as_many) in
      let its : get_or versions index none ≡ unneeded_at chain (place index) =
      ap (λ (l : List Unneeded). get_or l index none) versions_are ∙ mapped_at (unneeded_at chain) places index 0 none inside in
      subst (MayGo (after_steps store (take index (tidying_row store t row))) t row (place index)) (sym its) (turn_at store t row chain places index turn inside)

  steps_more : (index : ℕ) → index < length versions
      → take index (tidying_row store t row) ++ unlink_of t row (place index) ∷ [] ≡ take (index + 1) (tidying_row store t row)
  steps_more index within = sym (step_more t row places index (omega (arith, within, as_many)))

  pub one_more : (tells : Type 0) (index : ℕ) (b c : Opening) → index < length versions → Made tells store (take index (tidying_row store t row)) old b
      → Made tells (after_steps store (take index (tidying_row store t row))) (unlink_of t row (place index) ∷ []) b c
      → Made tells store (take (index + 1) (tidying_row store t row)) old c
  one_more tells index b c within first second =
      subst (λ (l : List Step). Made tells store l old c) (steps_more index within)
      (both_made tells store (take index (tidying_row store t row)) (unlink_of t row (place index) ∷ []) old b c first second)

  -- its frame is one of the row's
  pub one_within : (index : ℕ) → index < length versions → length (take index (tidying_row store t row)) + 1 ≤ length (tidying_row store t row)
  one_within index within =
      let long : length (tidying_row store t row) ≡ length places = length-map places (λ (at : ℕ). Step.unlink t row at 1) in
      omega (arith, within, as_many, long, length-take-le index (tidying_row store t row) (omega (arith, within, as_many, long)))

  pub all_made : (tells : Type 0) (index : ℕ) (b : Opening) → length versions ≤ index → Made tells store (take index (tidying_row store t row)) old b
      → Made tells store (tidying_row store t row) old b
  all_made tells index b end made =
      let long : length (tidying_row store t row) ≡ length places = length-map places (λ (at : ℕ). Step.unlink t row at 1) in
      subst (λ (l : List Step). Made tells store l old b) (take_all index (tidying_row store t row) (omega (arith, end, as_many, long))) made
