-- Of sound cells: the used rows are those with a chain, and their key is that of their slots.
use Rattle.std.proofs.Common.{◌≡◌, ◌≢◌, ℕ, zero, suc, ◌<◌, ◌≤◌, true, false, List, [], ◌∷◌, map, Option, refl, sym, ap, subst, ◌∙◌, arith, inl, inr, ⊎_elim}
use Rattle.std.specs.Prelude.{All, Contains, ◌⊎◌}
use Rattle.std.proofs.lemmas.Bool.{cases_Bool, cases_eq, cases_lt, eq-eqb, ne_eqb, false≢true}
use Rattle.std.proofs.lemmas.List.Elements.{All-contains, All-head}
use Rattle.px_cells.specs.declared.slot.Slot.{Slot}
use Rattle.px_chain.specs.Table.{Table}
use Rattle.px_chain.specs.Sound.{IsUsedRow, IsVariation, Layout, IsSound, key_of}
use Rattle.px_chain.proofs.Walks.{contains_first, contains_none}
use Rattle.px_model.specs.Rows.{Key}
use Rattle.px_shown.specs.Tables.{Tables, Layouts, AreSound, with_table, with_layout, slots_of_row}
use Rattle.px_shown.specs.Shown.{AreToldByChains}
use Rattle.px_shown.proofs.Keys.{HasKey, key_cases}
use Rattle.px_shown.proofs.Told.{Chains, IsTold}

pub used_or_not : (table : Table) (row : ℕ) → IsUsedRow table row ⊎ (IsUsedRow table row → ⊥)
used_or_not table row = ⊎_elim
    (λ (low : row < 1). inr (λ used. let p = used.0.0 in omega arith))
    (λ (from : 1 ≤ row). ⊎_elim
    (λ (high : table.header.rows < row). inr (λ used. let p = used.0.1 in omega arith))
    (λ (to : row ≤ table.header.rows). ⊎_elim
    (λ (yes : (table.pointer row).used ≡ true). inl ((from, to), yes))
    (λ (no : (table.pointer row).used ≡ false). inr (λ used. false≢true (sym no ∙ used.1)))
    (cases_Bool (table.pointer row).used))
    (cases_lt table.header.rows row))
    (cases_lt row 1)

pub chained : (short : ℕ) (table : Table) (layout : Layout) (row slot : ℕ) → IsSound short table layout → Contains (layout.chain row) slot
    → IsUsedRow table row × IsVariation table row slot
chained short table layout row slot sound there = ⊎_elim
    (λ (used : IsUsedRow table row). (used, All-contains (IsVariation table row) (layout.chain row) slot (sound.chains row used).variations there))
    (λ (unused : IsUsedRow table row → ⊥). absurd (contains_none slot (subst (λ (l : List ℕ). Contains l slot) (sound.no_chain row unused) there)))
    (used_or_not table row)

-- the place of the slot that gives a chain its key
pub key_place : (table : Table) (chain : List ℕ) (key : List ℕ) → HasKey (map table.slot chain) key → (n : ℕ) × Contains chain n × ((table.slot n).key ≡ key)
key_place table [] key has = absurd has
key_place table (n ∷ chain) key has = (n, contains_first n chain, has)

its_key : (table : Table) (row : ℕ) (chain : List ℕ) → chain ≢ [] → All (IsVariation table row) chain → HasKey (map table.slot chain) (key_of table row)
its_key table row [] some all = absurd (some refl)
its_key table row (n ∷ chain) some all = (All-head (IsVariation table row) n chain all).its_key

pub used_has : (short : ℕ) (table : Table) (layout : Layout) (row : ℕ) → IsSound short table layout → IsUsedRow table row
    → HasKey (slots_of_row table layout row) (key_of table row)
used_has short table layout row sound used = let c = sound.chains row used in its_key table row (layout.chain row) c.some c.variations

pub has_used : (short : ℕ) (table : Table) (layout : Layout) (row : ℕ) (key : List ℕ) → IsSound short table layout → HasKey (slots_of_row table layout row) key
    → IsUsedRow table row × (key_of table row ≡ key)
has_used short table layout row key sound has =
    let n = key_place table (layout.chain row) key has in
    let c = chained short table layout row n.0 sound n.1 in
    (c.0, sym c.1.its_key ∙ n.2)

-- ---- tables

abbrev pub chains_of : Tables → Layouts → Chains
chains_of tables layouts = λ t row. slots_of_row (tables t) (layouts t) row

pub told_by_rows : {X : Type 0} (short : ℕ) (tables : Tables) (layouts : Layouts) (of_chain : (table : ℕ) → List Slot → Option X) (of_key : Key → Option X)
    → AreSound short tables layouts → AreToldByChains tables layouts of_chain of_key → IsTold (chains_of tables layouts) of_chain of_key
told_by_rows short tables layouts of_chain of_key sound told = record {
  of_row = λ t row key has.
      let u = has_used short (tables t) (layouts t) row key (sound t) has in
      subst (λ (k : List ℕ). of_key (t, k) ≡ of_chain t (slots_of_row (tables t) (layouts t) row)) u.1 (told.of_row t row u.0);
  of_none = λ key none. told.of_none key (λ row used same.
      none row (subst (λ (k : List ℕ). HasKey (slots_of_row (tables key.0) (layouts key.0) row) k) same (used_has short (tables key.0) (layouts key.0) row (sound key.0) used)));
}

pub told_of_rows : {X : Type 0} (short : ℕ) (tables : Tables) (layouts : Layouts) (of_chain : (table : ℕ) → List Slot → Option X) (of_key : Key → Option X)
    → AreSound short tables layouts → IsTold (chains_of tables layouts) of_chain of_key → AreToldByChains tables layouts of_chain of_key
told_of_rows short tables layouts of_chain of_key sound told = record {
  of_row = λ t row used. told.of_row t row (key_of (tables t) row) (used_has short (tables t) (layouts t) row (sound t) used);
  of_none = λ key none. told.of_none key (λ row has.
      let u = has_used short (tables key.0) (layouts key.0) row key.1 (sound key.0) has in none row u.0 u.1);
}

pub sound_with : (short : ℕ) (tables : Tables) (layouts : Layouts) (t : ℕ) (table : Table) (layout : Layout) → AreSound short tables layouts → IsSound short table layout
    → AreSound short (with_table tables t table) (with_layout layouts t layout)
sound_with short tables layouts t table layout sound one n = ⊎_elim
    (λ (e : n ≡ t). rw (eq-eqb n t e) one)
    (λ (e : n ≢ t). rw (ne_eqb n t e) (sound n))
    (cases_eq n t)

-- ---- a row is found by its key

same_bytes : (a b : List ℕ) → (a ≡ b) ⊎ (a ≢ b)
same_bytes a b = ⊎_elim
    (λ (e : (0, a) ≡ (0, b)). inl (ap (λ (k : Key). k.1) e))
    (λ (e : (0, a) ≢ (0, b)). inr (λ f. e (ap (λ (l : List ℕ). (0, l)) f)))
    (key_cases (0, a) (0, b))

-- among the rows up to a number one has the key, or none
row_up_to : (table : Table) (key : List ℕ) (most : ℕ) → ((row : ℕ) × IsUsedRow table row × (key_of table row ≡ key))
    ⊎ ((row : ℕ) → row ≤ most → IsUsedRow table row → key_of table row ≢ key)
row_up_to table key zero = inr (λ row low used same. let p = used.0.0 in omega arith)
row_up_to table key (suc most) = ⊎_elim
    (λ (found : (row : ℕ) × IsUsedRow table row × (key_of table row ≡ key)). inl found)
    (λ (none : (row : ℕ) → row ≤ most → IsUsedRow table row → key_of table row ≢ key). ⊎_elim
    (λ (used : IsUsedRow table (suc most)). ⊎_elim
    (λ (same : key_of table (suc most) ≡ key). inl (suc most, used, same))
    (λ (other : key_of table (suc most) ≢ key). inr (λ row low its_used same. ⊎_elim
    (λ (e : row ≡ suc most). other (subst (λ (q : ℕ). key_of table q ≡ key) e same))
    (λ (e : row ≢ suc most). none row (omega arith) its_used same)
    (cases_eq row (suc most))))
    (same_bytes (key_of table (suc most)) key))
    (λ (unused : IsUsedRow table (suc most) → ⊥). inr (λ row low its_used same. ⊎_elim
    (λ (e : row ≡ suc most). unused (subst (λ (q : ℕ). IsUsedRow table q) e its_used))
    (λ (e : row ≢ suc most). none row (omega arith) its_used same)
    (cases_eq row (suc most))))
    (used_or_not table (suc most)))
    (row_up_to table key most)

pub row_found : (table : Table) (key : List ℕ) → ((row : ℕ) × IsUsedRow table row × (key_of table row ≡ key))
    ⊎ ((row : ℕ) → IsUsedRow table row → key_of table row ≢ key)
row_found table key = ⊎_elim
    (λ (found : (row : ℕ) × IsUsedRow table row × (key_of table row ≡ key)). inl found)
    (λ (none : (row : ℕ) → row ≤ table.header.rows → IsUsedRow table row → key_of table row ≢ key). inr (λ row used same. none row used.0.1 used same))
    (row_up_to table key table.header.rows)
