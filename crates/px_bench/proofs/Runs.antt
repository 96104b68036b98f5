-- Versions of a row unlinked one by one, the oldest first.
use Rattle.std.proofs.Common.{◌≡◌, ℕ, suc, ◌+◌, ◌-◌, ◌<◌, ◌≤◌, List, ◌++◌, take, drop, get_or, length, refl, sym, ap, subst, ◌∙◌, arith}
use Rattle.std.proofs.Math.ListN.{drop_of_length-le}
use Rattle.std.proofs.Math.Seq.{take-take}
use Rattle.std.proofs.lemmas.Bool.{eq-eqb}
use Rattle.std.proofs.lemmas.List.{append-nil, drop-drop, get_or-take, length-take-le}
use Rattle.px_chain.specs.Links.{unlinked}
use Rattle.px_chain.specs.Places.{IsRun, StandsAt, slot_before}
use Rattle.px_chain.specs.Sound.{IsUsedRow, Layout}
use Rattle.px_chain.proofs.SoundLaws.{chain_alike, chained}
use Rattle.px_chain.proofs.Standing.{stands_in}
use Rattle.px_tables.specs.declared.unlinking.Unlinking.{Unlinking}
use Rattle.px_tables.specs.Held.{Cells, HasLayout, table_of}

-- the oldest of the first so many
pub oldest_run : (slots : List ℕ) (place : ℕ) → 1 < place → place ≤ length slots
    → IsRun (take place slots) (place - 1) (get_or slots (place - 1 - 1) 0) (get_or slots (place - 1) 0) 1
oldest_run slots place some within =
    let long = length-take-le place slots within in
    record {
      some = omega arith;
      within = omega (arith, some, long);
      front = ap (slot_before (take place slots)) (let e : place - 1 ≡ suc (place - 1 - 1) = omega (arith, some) in e) ∙ get_or-take place slots (place - 1 - 1) 0 (omega (arith, some));
      start = get_or-take place slots (place - 1) 0 (omega (arith, some));
    }

pub run_of_any : (cells : Cells) (row : ℕ) (slots : List ℕ) (place : ℕ) → 1 < place → place ≤ length slots
    → (layout : Layout) × HasLayout cells layout × (layout.chain row ≡ take place slots)
    → (other : Layout) → HasLayout cells other → IsRun (other.chain row) (place - 1) (get_or slots (place - 1 - 1) 0) (get_or slots (place - 1) 0) 1
run_of_any cells row slots place some within one other sound =
    let same : other.chain row ≡ take place slots = chain_alike cells.short (table_of cells) other one.0 row sound one.1 ∙ one.2 in
    subst (λ (chain : List ℕ). IsRun chain (place - 1) (get_or slots (place - 1 - 1) 0) (get_or slots (place - 1) 0) 1) (sym same) (oldest_run slots place some within)

pub is_used : (cells : Cells) (row : ℕ) (slots : List ℕ) (place : ℕ) → 1 < place → place ≤ length slots
    → (layout : Layout) × HasLayout cells layout × (layout.chain row ≡ take place slots) → IsUsedRow (table_of cells) row
is_used cells row slots place some within one =
    let run = run_of_any cells row slots place some within one one.0 one.1 in
    let ends = run.within in
    (chained cells.short (table_of cells) one.0 one.1 row (get_or slots (place - 1) 0)
    (stands_in (one.0.chain row) (place - 1) (get_or slots (place - 1) 0) (omega (arith, ends), run.start))).0

-- without it one fewer is left
pub one_gone : (layout : Layout) (row place : ℕ) (slots : List ℕ) → 1 < place → place ≤ length slots → layout.chain row ≡ take place slots
    → (unlinked layout row (place - 1) 1).chain row ≡ take (place - 1) slots
one_gone layout row place slots some within is =
    let long = length-take-le place slots within in
    let one : place ≡ (place - 1) + 1 = omega (arith, some) in
    rw (eq-eqb row row refl)
    (ap (λ (l : List ℕ). take (place - 1) l ++ drop 1 (drop (place - 1) l)) is
    ∙ ap (λ (l : List ℕ). take (place - 1) (take place slots) ++ l)
    (drop-drop 1 (place - 1) (take place slots) ∙ drop_of_length-le (take place slots) (omega (arith, long, one)))
    ∙ append-nil (take (place - 1) (take place slots))
    ∙ take-take (place - 1) place slots (omega arith))

pub left_then : (old new : Cells) (unlinking : Unlinking) (row : ℕ) (slots : List ℕ) (place : ℕ) → 1 < place → place ≤ length slots
    → (layout : Layout) × HasLayout old layout × (layout.chain row ≡ take place slots)
    → (unlinking.row ≡ row) × (unlinking.first ≡ get_or slots (place - 1) 0) × (unlinking.count ≡ 1)
    → ((layout : Layout) (from : ℕ) → HasLayout old layout → StandsAt (layout.chain unlinking.row) from unlinking.first
    → HasLayout new (unlinked layout unlinking.row from unlinking.count))
    → (layout : Layout) × HasLayout new layout × (layout.chain row ≡ take (place - 1) slots)
left_then old new unlinking row slots place some within one which laid =
    let run = run_of_any old row slots place some within one one.0 one.1 in
    let ends = run.within in
    let here : StandsAt (one.0.chain row) (place - 1) (get_or slots (place - 1) 0) = (omega (arith, ends), run.start) in
    let stands : StandsAt (one.0.chain unlinking.row) (place - 1) unlinking.first =
    subst (λ (r : ℕ). StandsAt (one.0.chain r) (place - 1) unlinking.first) (sym which.0)
    (subst (λ (n : ℕ). StandsAt (one.0.chain row) (place - 1) n) (sym which.1) here) in (
      unlinked one.0 row (place - 1) 1,
      subst (λ (n : ℕ). HasLayout new (unlinked one.0 row (place - 1) n)) which.2
          (subst (λ (r : ℕ). HasLayout new (unlinked one.0 r (place - 1) unlinking.count)) which.0 (laid one.0 (place - 1) one.1 stands)),
      one_gone one.0 row place slots some within one.2,
    )
