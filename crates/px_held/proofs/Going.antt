-- The versions that go stand in their row's chain.
use Rattle.std.proofs.Common.{◌≡◌, ℕ, zero, suc, ◌+◌, ◌<◌, ◌≤◌, Bool, cond, true, false, All, List, [], ◌∷◌, length, map, refl, sym, ap, subst, ◌∙◌, arith, inl, inr}
use Rattle.std.specs.Prelude.{filter}
use Rattle.std.proofs.lemmas.Bool.{cases_Bool}
use Rattle.std.proofs.lemmas.List.{length-map}
use Rattle.std.proofs.lemmas.List.Elements.{All-cons, All-map, All-nil, All-weaker}
use Rattle.px_cells.specs.declared.slot.Slot.{Slot}
use Rattle.px_chain.specs.Sound.{IsUsedRow}
use Rattle.px_history.specs.Store.{Store, versions_of}
use Rattle.px_shown.specs.Shown.{Done}
use Rattle.px_tidy.specs.Kept.{is_other, oldest_first, place_kept, tidied_away}
use Rattle.px_tidy.specs.Unneeded.{unneeded_at}
use Rattle.px_tidy.specs.declared.tidying.Unneeded.{Unneeded}
use Rattle.px_held.specs.Unlinking.{HasVersions}

below_all : (goes : ℕ → Bool) (bound : ℕ) → All (λ (place : ℕ). place < bound) (filter goes (oldest_first bound))
below_all goes zero = All-nil (λ (place : ℕ). place < 0)
below_all goes (suc bound) =
    let others : All (λ (place : ℕ). place < suc bound) (filter goes (oldest_first bound)) =
    All-weaker (λ (place : ℕ). place < bound) (λ (place : ℕ). place < suc bound) (λ place less. omega (arith, less)) (filter goes (oldest_first bound)) (below_all goes bound) in
    elim (cases_Bool (goes bound)) [
      | inl is ↦ subst (λ (b : Bool). All (λ (place : ℕ). place < suc bound) (cond b (bound ∷ filter goes (oldest_first bound)) (filter goes (oldest_first bound)))) (sym is)
          (All-cons (λ (place : ℕ). place < suc bound) bound (filter goes (oldest_first bound)) (omega arith) others)
      | inr not ↦ subst (λ (b : Bool). All (λ (place : ℕ). place < suc bound) (cond b (bound ∷ filter goes (oldest_first bound)) (filter goes (oldest_first bound)))) (sym not) others
    ]

stands_there : (store : Store) (t row place : ℕ) → IsUsedRow (store.tables t) row → place < length ((store.layouts t).chain row)
    → HasVersions store t row (unneeded_at ((store.layouts t).chain row) place).newer (unneeded_at ((store.layouts t).chain row) place).slot 1
stands_there store t row place used within = record {
  used = used;
  from = place;
  run = record { some = omega arith; within = omega (arith, within); front = refl; start = refl };
}

pub going_stand : (store : Store) (t row : ℕ) (done : Done) (versions : List Unneeded) → IsUsedRow (store.tables t) row
    → versions ≡ map (unneeded_at ((store.layouts t).chain row)) (tidied_away done (versions_of store t row))
    → All (λ version. HasVersions store t row version.newer version.slot 1) versions
going_stand store t row done versions used are =
    let chain = (store.layouts t).chain row in
    let slots = versions_of store t row in
    let size = length-map chain (store.tables t).slot in
    let P : Unneeded → Type 0 = λ version. HasVersions store t row version.newer version.slot 1 in
    subst (All P) (sym are)
    (All-map P (unneeded_at chain) (tidied_away done slots)
    (All-weaker (λ (place : ℕ). place < length slots) (λ (place : ℕ). P (unneeded_at chain place)) (λ place below. stands_there store t row place used (omega (arith, below, size)))
    (tidied_away done slots) (below_all (is_other (place_kept done slots)) (length slots))))
