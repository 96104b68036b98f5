-- The chains of cells as versions, and what holds of the numbers in them.
use Rattle.std.proofs.Common.{◌≡◌, ◌≢◌, ℕ, List, [], ◌∷◌, map, reverse, refl, sym, ap, subst, ◌∙◌, ⊎_elim}
use Rattle.std.specs.Prelude.{All}
use Rattle.std.proofs.lemmas.List.Elements.{All-nil, All-map, All-same}
use Rattle.px_cells.specs.declared.slot.Slot.{Slot}
use Rattle.px_chain.specs.Sound.{IsUsedRow, key_of}
use Rattle.px_chain_laws.proofs.Looking.{by}
use Rattle.px_history.specs.Store.{Store, versions_of}
use Rattle.px_model.specs.Chains.{chain}
use Rattle.px_model.specs.Machine.{Machine}
use Rattle.px_model.specs.Rows.{Key}
use Rattle.px_model.specs.declared.machine.Variation.{Variation}
use Rattle.px_model.specs.declared.write.Write.{Write}
use Rattle.px_shown.specs.Tables.{AreSound}
use Rattle.px_shown.proofs.Firsts.{write_seen}
use Rattle.px_shown.proofs.Keys.{seen}
use Rattle.px_shown.proofs.Rows.{used_or_not}
use Rattle.px_shown.proofs.Told.{Chains, IsBlind, IsChanged, here_or_away}
use Rattle.px_cell_laws.specs.Holding.{HoldsChains, if_any, number_past, variation_in, variations_in}
use Rattle.px_cell_laws.proofs.Lists.{all_unmapped, any_none, any_same, reverse_none}
use Rattle.px_shown.specs.Parts.{Parts}

-- ---- links don't count

variations_seen : (parts : Parts) (base t : ℕ) (slots : List Slot) → map (variation_in parts base t) (map seen slots) ≡ map (variation_in parts base t) slots
variations_seen parts base t [] = refl
variations_seen parts base t (slot ∷ slots) =
    ap (λ (w : Write). by (number_past base slot.xn) w ∷ map (variation_in parts base t) (map seen slots)) (write_seen parts t slot)
    ∙ ap (λ (l : List Variation). variation_in parts base t slot ∷ l) (variations_seen parts base t slots)

pub variations_blind : (parts : Parts) (base : ℕ) → IsBlind (variations_in parts base)
variations_blind parts base = record {
  alike = λ t slots. ap if_any (variations_seen parts base t slots);
  none = λ t. refl;
}

-- ---- a row and its key

pub chain_of_row : (parts : Parts) (m : Machine) (store : Store) (t row : ℕ) → HoldsChains parts m store → IsUsedRow (store.tables t) row
    → reverse (chain m (t, key_of (store.tables t) row)) ≡ map (variation_in parts m.base t) (versions_of store t row)
chain_of_row parts m store t row h used =
    any_same (reverse (chain m (t, key_of (store.tables t) row))) (map (variation_in parts m.base t) (versions_of store t row)) (h.chains.of_row t row used)

pub no_row_no_chain : (parts : Parts) (m : Machine) (store : Store) (key : Key) → HoldsChains parts m store
    → ((row : ℕ) → IsUsedRow (store.tables key.0) row → key_of (store.tables key.0) row ≢ key.1) → chain m key ≡ []
no_row_no_chain parts m store key h none = reverse_none (chain m key) (any_none (reverse (chain m key)) (h.chains.of_none key none))

-- a row that isn't used has no versions
pub no_versions : (short : ℕ) (store : Store) (t row : ℕ) → AreSound short store.tables store.layouts → (IsUsedRow (store.tables t) row → ⊥)
    → versions_of store t row ≡ []
no_versions short store t row sound unused = ap (map (store.tables t).slot) ((sound t).no_chain row unused)

-- what holds of the versions of used rows holds of all versions
pub all_rows : (P : Slot → Type 0) (short : ℕ) (store : Store) → AreSound short store.tables store.layouts
    → ((t row : ℕ) → IsUsedRow (store.tables t) row → All P (versions_of store t row)) → (t row : ℕ) → All P (versions_of store t row)
all_rows P short store sound each t row = ⊎_elim
    (λ (used : IsUsedRow (store.tables t) row). each t row used)
    (λ (unused : IsUsedRow (store.tables t) row → ⊥). All-same P (versions_of store t row) [] (no_versions short store t row sound unused) (All-nil P))
    (used_or_not (store.tables t) row)

-- ---- the numbers in chains

abbrev number_of : Slot → ℕ
number_of slot = slot.xn

numbers_seen : (slots : List Slot) → map number_of (map seen slots) ≡ map number_of slots
numbers_seen [] = refl
numbers_seen (slot ∷ slots) = ap (λ (l : List ℕ). slot.xn ∷ l) (numbers_seen slots)

numbers_alike : (P : ℕ → Type 0) (a b : List Slot) → map seen a ≡ map seen b → All (λ (slot : Slot). P slot.xn) b → All (λ (slot : Slot). P slot.xn) a
numbers_alike P a b alike all =
    all_unmapped P number_of a (All-same P (map number_of a) (map number_of b)
    (sym (numbers_seen a) ∙ ap (map number_of) alike ∙ numbers_seen b) (All-map P number_of b all))

-- what holds of all numbers holds after one chain changed
pub numbers_changed : (P : ℕ → Type 0) (old new : Chains) (t row : ℕ) (key : List ℕ) (slots : List Slot) → IsChanged old new t row key slots
    → ((n q : ℕ) → All (λ (slot : Slot). P slot.xn) (old n q)) → All (λ (slot : Slot). P slot.xn) slots → (n q : ℕ) → All (λ (slot : Slot). P slot.xn) (new n q)
numbers_changed P old new t row key slots c was here n q = ⊎_elim
    (λ (same : (n ≡ t) × (q ≡ row)).
    subst (λ (m : ℕ). All (λ (slot : Slot). P slot.xn) (new m q)) (sym same.0)
    (subst (λ (p : ℕ). All (λ (slot : Slot). P slot.xn) (new t p)) (sym same.1) (numbers_alike P (new t row) slots c.here here)))
    (λ (away : n ≡ t → q ≡ row → ⊥). numbers_alike P (new n q) (old n q) (c.away n q away) (was n q))
    (here_or_away n q t row)
