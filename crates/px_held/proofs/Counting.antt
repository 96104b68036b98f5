-- The versions of the tables in front.
use Rattle.std.proofs.Common.{◌≡◌, ℕ, zero, suc, ◌+◌, ◌-◌, ◌*◌, ◌^◌, ◌<◌, ◌≤◌, true, List, [], ◌∷◌, ◌++◌, length, get_or, refl, sym, ap, subst, ◌∙◌, arith, ⊎_elim}
use Rattle.std.specs.Prelude.{sum_by}
use Rattle.std.specs.List.{range_with_len}
use Rattle.std.proofs.lemmas.Bool.{cases_eq, cases_lt}
use Rattle.std.proofs.lemmas.List.Sums.{sum_by_push}
use Rattle.px_cell_laws.specs.Holding.{HoldsChains}
use Rattle.px_chain.specs.Sound.{IsUsedRow, Layout}
use Rattle.px_chain.specs.Table.{Table}
use Rattle.px_chain.specs.Unused.{unused_table}
use Rattle.px_counted.specs.Counts.{slots_in_all_chains, slots_in_chains}
use Rattle.px_counted.proofs.Places.{slots_counted}
use Rattle.px_counted.proofs.Tables.{in_all_chains}
use Rattle.px_history.specs.Fitting.{IsTable}
use Rattle.px_history.specs.Store.{Store}
use Rattle.px_model.specs.Chains.{variations}
use Rattle.px_model.specs.Machine.{Machine}
use Rattle.px_model.specs.Rows.{in_order}
use Rattle.px_opened.specs.Opened.{tables_of}
use Rattle.px_shown.specs.Parts.{Parts}
use Rattle.px_site.specs.State.{State}
use Rattle.px_tables.specs.Held.{HasLayout, Held}
use Rattle.px_held.specs.Serving.{AreNumbered, HeldTables, IsTableOf, Serves}
use Rattle.px_held.proofs.Numbered.{no_table_0, no_table_past, table_at_number}
use Rattle.px_held.proofs.Serving.{layout_served, none_used, served, table_served}

-- so many versions stand in the chains of so many tables
pub record IsCountOf (held : HeldTables) (done count : ℕ) : Type 0 where
  pub few : count ≤ done * 2 ^ 32
  pub chains : (site : State) (store : Store) → Serves site held store → count ≡ slots_in_all_chains done store

pub none_counted : (held : HeldTables) → IsCountOf held 0 0
none_counted held = record { few = omega arith; chains = λ site store serves. refl }

-- the versions of one table, as its header and its free list tell
abbrev pub IsToldBy : Held → ℕ → Type 0
IsToldBy table many = (layout : Layout) → HasLayout table.cells layout → table.cells.header.slots ≡ length layout.free_slots + many

many_in_chains : (site : State) (held : HeldTables) (store : Store) (number : ℕ) (table : Held) (many : ℕ) → Serves site held store → IsTableOf held number table
    → IsToldBy table many → many ≡ slots_in_chains (store.tables number) (store.layouts number)
many_in_chains site held store number table many serves at told =
    let layout = store.layouts number in
    let here = told layout (layout_served site held store number serves at) in
    let all = slots_counted held.short (store.tables number) layout ((served site held store serves).sound number) in
    let same : (store.tables number).header.slots ≡ table.cells.header.slots = ap (λ (t : Table). t.header.slots) (table_served site held store number serves at) in
    omega (arith, here, all, same)

-- ---- one table more

next_range : (from n : ℕ) → range_with_len from (suc n) ≡ range_with_len from n ++ (from + n) ∷ []
next_range from zero = ap (λ (x : ℕ). x ∷ []) (omega arith)
next_range from (suc n) =
    ap (λ (l : List ℕ). from ∷ l) (next_range (from + 1) n ∙ ap (λ (x : ℕ). range_with_len (from + 1) n ++ x ∷ []) (omega arith))

next_slots : (done : ℕ) (store : Store)
    → slots_in_all_chains (suc done) store ≡ slots_in_all_chains done store + slots_in_chains (store.tables (suc done)) (store.layouts (suc done))
next_slots done store =
    let in_table : ℕ → ℕ = λ t. slots_in_chains (store.tables t) (store.layouts t) in
    ap (sum_by in_table) (next_range 1 done) ∙ sum_by_push in_table (range_with_len 1 done) (1 + done)
    ∙ ap (λ (t : ℕ). slots_in_all_chains done store + in_table t) (omega arith)

-- the table in that place of the list
abbrev pub IsAt : HeldTables → (done : ℕ) → Held → Type 0
IsAt held done table = (done < length held.tables) × (table ≡ get_or held.tables done table)

pub stands_at : (held now : HeldTables) (items : List Held) (done : ℕ) (table : Held) → held ≡ now → items ≡ held.tables → done < length items
    → table ≡ get_or items done table → IsAt now done table
stands_at held now items done table same are within is =
    subst (λ (h : HeldTables). IsAt h done table) same (subst (λ (l : List Held). (done < length l) × (table ≡ get_or l done table)) are (within, is))

-- behind the last all are counted
pub all_counted : (held now : HeldTables) (items : List Held) (done count : ℕ) → held ≡ now → items ≡ held.tables → done ≡ length items → IsCountOf now done count
    → IsCountOf now (length now.tables) count
all_counted held now items done count same are last counted =
    subst (λ (n : ℕ). IsCountOf now n count) (last ∙ ap length are ∙ ap (λ (h : HeldTables). length h.tables) same) counted

is_table : (held : HeldTables) (table : Held) (done : ℕ) → AreNumbered held.short held.tables → IsAt held done table → IsTableOf held (suc done) table
is_table held table done numbered (within, is) =
    let place : done ≡ suc done - 1 = omega arith in
    table_at_number held (suc done) table numbered (omega arith) (omega (arith, within)) (subst (λ (n : ℕ). table ≡ get_or held.tables n table) place is)

-- there are fewer than 256, since its number fits a byte
pub few_tables : (held : HeldTables) (table : Held) (done : ℕ) → AreNumbered held.short held.tables → IsAt held done table → table.cells.number < 256 → done < 255
few_tables held table done numbered at fits = let number = (is_table held table done numbered at).numbered.its_number in omega (arith, number, fits)

pub next_counted : (held : HeldTables) (table : Held) (done count many : ℕ) → AreNumbered held.short held.tables → IsAt held done table → many < 2 ^ 32
    → IsToldBy table many → IsCountOf held done count → IsCountOf held (done + 1) (count + many)
next_counted held table done count many numbered at fits told counted =
    let place : suc done ≡ done + 1 = omega arith in
    record {
      few = let few = counted.few in omega (arith, few, fits);
      chains = λ site store serves.
          let before = counted.chains site store serves in
          let here = many_in_chains site held store (suc done) table many serves (is_table held table done numbered at) told in
          subst (λ (n : ℕ). count + many ≡ slots_in_all_chains n store) place (omega (arith, before, here, next_slots done store));
    }

-- ---- all tables

no_rows_past : (site : State) (held : HeldTables) (store : Store) → Serves site held store → (t row : ℕ) → ¬ IsTable (length held.tables) t
    → ¬ IsUsedRow (store.tables t) row
no_rows_past site held store serves t row past used =
    let unused : tables_of held.tables t ≡ unused_table = ⊎_elim
    (λ (none : t ≡ 0). ap (tables_of held.tables) none ∙ no_table_0 held.tables)
    (λ (some : t ≡ 0 → ⊥). no_table_past held.tables t (past_all some))
    (cases_eq t 0) in
    none_used (store.tables t) row (sym ((served site held store serves).tables t) ∙ unused) used
  where
    past_all : (t ≡ 0 → ⊥) → length held.tables < t
    past_all some = ⊎_elim
        (λ (high : length held.tables < t). high)
        (λ (low : t ≤ length held.tables). absurd (past (omega (arith, some), low)))
        (cases_lt (length held.tables) t)

pub counted_for_the_machine : (site : State) (held : HeldTables) (store : Store) (parts : Parts) (m : Machine) (count : ℕ) → Serves site held store → HoldsChains parts m store
    → in_order m.opening ≡ true → IsCountOf held (length held.tables) count → count ≡ variations m
counted_for_the_machine site held store parts m count serves holds opening counted =
    counted.chains site store serves ∙ sym (in_all_chains parts m store (length held.tables) holds opening (no_rows_past site held store serves))
