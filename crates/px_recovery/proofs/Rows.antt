-- A store that holds the chains of a machine that just started has its rows.
use Rattle.std.proofs.Common.{◌≡◌, ◌≢◌, ℕ, true, List, [], ◌∷◌, map, reverse, Option, Some, None, refl, sym, ap, ◌∙◌}
use Rattle.px_cell_laws.specs.Holding.{HoldsChains, variation_in}
use Rattle.px_cells.specs.declared.slot.Slot.{Slot}
use Rattle.px_chain.specs.Sound.{IsUsedRow, key_of}
use Rattle.px_chain_laws.proofs.Moving.{fresh_chain}
use Rattle.px_history.specs.Store.{Store, versions_of}
use Rattle.px_model.specs.Chains.{chain, of_opening}
use Rattle.px_model.specs.Machine.{Machine, fresh}
use Rattle.px_model.specs.Rows.{Key, in_order, row_at}
use Rattle.px_model.specs.declared.machine.Variation.{Variation}
use Rattle.px_model.specs.declared.row.Row.{Row}
use Rattle.px_shown.specs.Parts.{no_parts}
use Rattle.px_tables.specs.Keys.{HasNoRow}
use Rattle.px_recovery.specs.Counting.{HasRows}

-- ---- what is used of the laws below

abbrev pub RowsHaveChains : Type 0
RowsHaveChains = (m : Machine) (store : Store) (t row : ℕ) → HoldsChains no_parts m store → IsUsedRow (store.tables t) row
    → reverse (chain m (t, key_of (store.tables t) row)) ≡ map (variation_in no_parts m.base t) (versions_of store t row)

abbrev pub OthersHaveNone : Type 0
OthersHaveNone = (m : Machine) (store : Store) (key : Key) → HoldsChains no_parts m store
    → ((row : ℕ) → IsUsedRow (store.tables key.0) row → key_of (store.tables key.0) row ≢ key.1) → chain m key ≡ []

-- ---- of a chain that isn't empty there is a row

some_row : {X : Type 0} (found : Option Row) (chain : List X) (f : X → Variation) → chain ≢ [] → reverse (of_opening found) ≡ map f chain → (its : Row) × (found ≡ Some its)
some_row (Some its) chain f some same = (its, refl)
some_row None [] f some same = absurd (some refl)
some_row None (x ∷ chain) f some same = absurd (cc)

no_row : (found : Option Row) → of_opening found ≡ [] → found ≡ None
no_row None same = refl
no_row (Some its) same = absurd (cc)

twice : {X Y Z : Type 0} (f : Y → Z) (g : X → Y) (xs : List X) → map f (map g xs) ≡ map (λ x. f (g x)) xs
twice f g [] = refl
twice f g (x ∷ xs) = ap (λ l. f (g x) ∷ l) (twice f g xs)

module _ (rows_have : RowsHaveChains) (others_none : OthersHaveNone) (tables short : ℕ) (rows : List Row) (commits base : ℕ) (store : Store)
    (holds : HoldsChains no_parts (fresh tables short rows commits base) store) where
  each_row : (t row : ℕ) → IsUsedRow (store.tables t) row → (its : Row) × (row_at (t, key_of (store.tables t) row) rows ≡ Some its)
  each_row t row used =
      let now = fresh tables short rows commits base in
      let key : Key = (t, key_of (store.tables t) row) in
      let slots : ℕ → Slot = (store.tables t).slot in
      some_row (row_at key rows) ((store.layouts t).chain row) (λ n. variation_in no_parts now.base t (slots n)) ((holds.sound t).chains row used).some
      (ap reverse (sym (fresh_chain tables short rows commits base key)) ∙ rows_have now store t row holds used ∙ twice (variation_in no_parts now.base t) slots ((store.layouts t).chain row))

  no_other : (t : ℕ) (key : List ℕ) → HasNoRow (store.tables t) key → row_at (t, key) rows ≡ None
  no_other t key none =
      let now = fresh tables short rows commits base in
      no_row (row_at (t, key) rows) (sym (fresh_chain tables short rows commits base (t, key)) ∙ others_none now store (t, key) holds none)

  pub has_rows : in_order rows ≡ true → HasRows store rows
  has_rows order = record { order = order; some = each_row; none = no_other }
