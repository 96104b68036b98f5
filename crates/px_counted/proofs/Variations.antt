-- A table's versions, by the chains of its keys and by the slots in them.
use Rattle.std.proofs.Common.{◌≡◌, ◌≢◌, ℕ, ◌-◌, ◌^◌, ◌<◌, ◌≤◌, Bool, true, false, List, [], length, map, refl, sym, ap, subst, ◌∙◌, arith, inl, ⊎_elim}
use Rattle.std.specs.Prelude.{Contains, count_by, filter, sum_by}
use Rattle.std.proofs.lemmas.Bool.{cases_eq, eq-eqb, eqb-true, false_from_ne_true, le-leb, leb-true}
use Rattle.std.proofs.lemmas.List.{length-map, length-reverse}
use Rattle.std.proofs.lemmas.List.Elements.{All-contains, filter_passes}
use Rattle.std.proofs.lemmas.List.Sums.{length-filter}
use Rattle.px_free.specs.Places.{AreFull, rows_of, slots_of}
use Rattle.px_calls.specs.Steps.{is_full}
use Rattle.px_chain.specs.Sound.{IsUsedRow, key_of}
use Rattle.px_history.specs.Store.{Store, versions_of}
use Rattle.px_machine_laws.proofs.Overlap.{same_key-is}
use Rattle.px_model.specs.declared.limits.TheConstants.{MOST_VARIATIONS}
use Rattle.px_model.specs.declared.machine.Variation.{Variation}
use Rattle.px_model.specs.declared.write.Write.{Write}
use Rattle.px_model.specs.Chains.{all_variations, chain, in_table, variations_of_table}
use Rattle.px_model.specs.Machine.{Machine}
use Rattle.px_model.specs.Rows.{Key, in_order, key_written, same_key}
use Rattle.px_model_laws.specs.Keys.{is_of}
use Rattle.px_model_laws.proofs.Counting.{AreKeysOfAll, sum-by_keys}
use Rattle.px_model_laws.proofs.Laws.{chains_are_cut}
use Rattle.px_shown.proofs.Keys.{key_made, same_key-refl}
use Rattle.px_tables.specs.Keys.{HasNoRow}
use Rattle.px_tables.specs.Linking.{IsFull}
use Rattle.px_shown.specs.Parts.{Parts}
use Rattle.px_cell_laws.specs.Holding.{HoldsChains}
use Rattle.px_cell_laws.proofs.Chained.{chain_of_row, no_row_no_chain}
use Rattle.px_counted.specs.Counts.{slots_in_chains, used_rows}
use Rattle.px_counted.proofs.Full.{chains_fill, full_in_chains, slots_are_first}
use Rattle.px_counted.proofs.Lists.{apart_kept, at_most_one, is_kept, kept_stood, kept_twice, none_kept, sum_alike, sum_mapped, sum_of_ones}
use Rattle.px_counted.proofs.Places.{among_is_used, slots_counted, used_is_among, used_once}

-- the key of a row of a table
abbrev key_in : Store → (t row : ℕ) → Key
key_in store t row = (t, key_of (store.tables t) row)

abbrev keys_in : Store → (t : ℕ) → List Key
keys_in store t = map (key_in store t) (used_rows (store.tables t))

-- the versions of a table
abbrev writes_in : Machine → (t : ℕ) → List Write
writes_in m t = filter (in_table t) (all_variations m)

-- ---- the writes of a key

-- a table has all of its keys'
writes_of_its_key : (m : Machine) (t : ℕ) (bytes : List ℕ) → filter (is_of (t, bytes)) (writes_in m t) ≡ filter (is_of (t, bytes)) (all_variations m)
writes_of_its_key m t bytes =
    kept_twice (is_of (t, bytes)) (in_table t)
    (λ (w : Write) of. eq-eqb (key_written w).0 t (sym (ap (λ (k : Key). k.0) (same_key-is (t, bytes) (key_written w) of)))) (all_variations m)

-- and none of another table's
no_writes_of_another : (m : Machine) (t : ℕ) (key : Key) → key.0 ≢ t → filter (is_of key) (writes_in m t) ≡ []
no_writes_of_another m t key other =
    none_kept (is_of key) (writes_in m t) (λ w there. false_from_ne_true (is_of key w) (λ of.
    let here : in_table t w ≡ true = All-contains (λ (v : Write). in_table t v ≡ true) (writes_in m t) w (filter_passes (in_table t) (all_variations m)) there in
    other (ap (λ (k : Key). k.0) (same_key-is key (key_written w) of) ∙ eqb-true (key_written w).0 t here)))

-- as many as the row has slots
slots_of_a_row : (parts : Parts) (m : Machine) (store : Store) (t row : ℕ) → HoldsChains parts m store → in_order m.opening ≡ true → IsUsedRow (store.tables t) row
    → length (filter (is_of (key_in store t row)) (writes_in m t)) ≡ length ((store.layouts t).chain row)
slots_of_a_row parts m store t row h opening used =
    let key = key_in store t row in
    ap length (writes_of_its_key m t (key_of (store.tables t) row))
    ∙ sym (ap length (chains_are_cut m key opening))
    ∙ length-map (chain m key) (λ (v : Variation). v.write)
    ∙ sym (length-reverse (chain m key))
    ∙ ap length (chain_of_row parts m store t row h used)
    ∙ length-map (versions_of store t row) _
    ∙ length-map ((store.layouts t).chain row) (store.tables t).slot

-- ---- the keys of the rows

abbrev has_key : Store → (t : ℕ) → Key → ℕ → Bool
has_key store t key row = same_key (key_in store t row) key

counted_by_row : (store : Store) (t : ℕ) (key : Key) → count_by (λ k. same_key k key) (keys_in store t) ≡ length (filter (has_key store t key) (used_rows (store.tables t)))
counted_by_row store t key =
    sum_mapped _ (key_in store t) (used_rows (store.tables t)) ∙ sym (length-filter (has_key store t key) (used_rows (store.tables t)))

one_row : (parts : Parts) (m : Machine) (store : Store) (t : ℕ) (key : Key) → HoldsChains parts m store → count_by (λ k. same_key k key) (keys_in store t) ≤ 1
one_row parts m store t key h =
    let rows = used_rows (store.tables t) in
    let with_key = filter (has_key store t key) rows in
    let used : (row : ℕ) → Contains with_key row → IsUsedRow (store.tables t) row =
    λ row there. among_is_used (store.tables t) row (kept_stood (has_key store t key) row rows there) in
    let is : (row : ℕ) → Contains with_key row → key_in store t row ≡ key =
    λ row there. same_key-is (key_in store t row) key (All-contains (λ (q : ℕ). has_key store t key q ≡ true) with_key row (filter_passes (has_key store t key) rows) there) in
    let few = at_most_one with_key (apart_kept (has_key store t key) rows (used_once (store.tables t)))
    (λ row other here there. (h.sound t).keys row other (used row here) (used other there) (ap (λ (k : Key). k.1) (is row here ∙ sym (is other there)))) in
    omega (arith, few, counted_by_row store t key)

no_row : (parts : Parts) (m : Machine) (store : Store) (t : ℕ) (bytes : List ℕ) → HoldsChains parts m store → in_order m.opening ≡ true
    → count_by (λ k. same_key k (t, bytes)) (keys_in store t) ≡ 0 → filter (is_of (t, bytes)) (writes_in m t) ≡ []
no_row parts m store t bytes h opening none =
    let key : Key = (t, bytes) in
    let rows = used_rows (store.tables t) in
    let away : (row : ℕ) → IsUsedRow (store.tables t) row → key_of (store.tables t) row ≢ bytes = λ row used same.
    let has : has_key store t key row ≡ true = ap (λ (l : List ℕ). same_key (t, l) key) same ∙ same_key-refl key in
    let there = is_kept (has_key store t key) row rows (used_is_among (store.tables t) row used) has in
    let within = there.1 in
    omega (arith, within, none, counted_by_row store t key) in
    writes_of_its_key m t bytes ∙ sym (chains_are_cut m key opening) ∙ ap (map (λ (v : Variation). v.write)) (no_row_no_chain parts m store key h away)

are_keys : (parts : Parts) (m : Machine) (store : Store) (t : ℕ) → HoldsChains parts m store → in_order m.opening ≡ true → AreKeysOfAll (keys_in store t) (writes_in m t)
are_keys parts m store t h opening = record {
  once = λ key. one_row parts m store t key h;
  all = λ key none. ⊎_elim
      (λ (same : key.0 ≡ t).
      let made : key ≡ (t, key.1) = key_made key t key.1 same refl in
      subst (λ (k : Key). filter (is_of k) (writes_in m t) ≡ []) (sym made)
      (no_row parts m store t key.1 h opening (subst (λ (k : Key). count_by (λ q. same_key q k) (keys_in store t) ≡ 0) made none)))
      (λ (other : key.0 ≢ t). no_writes_of_another m t key other)
      (cases_eq key.0 t);
}

-- ---- the versions

pub in_chains : (parts : Parts) (m : Machine) (store : Store) (t : ℕ) → HoldsChains parts m store → in_order m.opening ≡ true
    → variations_of_table m t ≡ slots_in_chains (store.tables t) (store.layouts t)
unfolding variations_of_table
in_chains parts m store t h opening =
    let rows = used_rows (store.tables t) in
    let ones : Key → ℕ = λ key. sum_by (λ (w : Write). 1) (filter (is_of key) (writes_in m t)) in
    sym (length-filter (in_table t) (all_variations m))
    ∙ sym (sum_of_ones (writes_in m t))
    ∙ sum-by_keys (λ (w : Write). 1) (keys_in store t) (writes_in m t) (are_keys parts m store t h opening)
    ∙ sum_mapped ones (key_in store t) rows
    ∙ sum_alike (λ row. ones (key_in store t row)) (λ row. length ((store.layouts t).chain row)) rows
    (λ row there. sum_of_ones (filter (is_of (key_in store t row)) (writes_in m t))
    ∙ slots_of_a_row parts m store t row h opening (among_is_used (store.tables t) row there))

pub used_less_free : (parts : Parts) (m : Machine) (store : Store) (t : ℕ) → HoldsChains parts m store → in_order m.opening ≡ true
    → variations_of_table m t ≡ (store.tables t).header.slots - length (store.layouts t).free_slots
used_less_free parts m store t h opening =
    let all = slots_counted m.short (store.tables t) (store.layouts t) (h.sound t) in
    let here = in_chains parts m store t h opening in
    omega (arith, all, here)

pub full_of_variations : (parts : Parts) (m : Machine) (store : Store) (t : ℕ) → HoldsChains parts m store → in_order m.opening ≡ true → AreFull (slots_of (store.tables t).header)
    → variations_of_table m t ≡ MOST_VARIATIONS
full_of_variations parts m store t h opening full =
    in_chains parts m store t h opening ∙ full_in_chains m.short (store.tables t) (store.layouts t) (h.sound t) full

pub variations_fill : (parts : Parts) (m : Machine) (store : Store) (t : ℕ) → HoldsChains parts m store → in_order m.opening ≡ true → (store.tables t).header.slots < 2 ^ 32
    → variations_of_table m t ≡ MOST_VARIATIONS → AreFull (slots_of (store.tables t).header)
variations_fill parts m store t h opening fits most =
    chains_fill m.short (store.tables t) (store.layouts t) (h.sound t) fits (sym (in_chains parts m store t h opening) ∙ most)

-- no place is left for a key of the table
pub full_for_a_key : (parts : Parts) (m : Machine) (store : Store) (t : ℕ) (key : List ℕ) → HoldsChains parts m store → in_order m.opening ≡ true
    → (store.tables t).header.slots < 2 ^ 32 → IsFull (store.tables t) key → variations_of_table m t ≡ MOST_VARIATIONS
full_for_a_key parts m store t key h opening fits full =
    full_of_variations parts m store t h opening (⊎_elim
    (λ (slots : AreFull (slots_of (store.tables t).header)). slots)
    (λ (rows : AreFull (rows_of (store.tables t).header) × HasNoRow (store.tables t) key).
    slots_are_first m.short (store.tables t) (store.layouts t) (h.sound t) fits rows.0)
    full)

-- ---- whether a call finds the table full

least_is_full : (m : Machine) (t : ℕ) → variations_of_table m t ≡ MOST_VARIATIONS → is_full m t ≡ true
unfolding is_full
least_is_full m t most = le-leb MOST_VARIATIONS (variations_of_table m t) (omega (arith, most))

at_most : (parts : Parts) (m : Machine) (store : Store) (t : ℕ) → HoldsChains parts m store → in_order m.opening ≡ true → (store.tables t).header.slots < 2 ^ 32
    → variations_of_table m t ≤ MOST_VARIATIONS
at_most parts m store t h opening fits = omega (arith, used_less_free parts m store t h opening, fits)

-- where no place is left for the key, new or not
pub full_for_calls : (parts : Parts) (m : Machine) (store : Store) (t : ℕ) (key : List ℕ) → HoldsChains parts m store → in_order m.opening ≡ true
    → (store.tables t).header.slots < 2 ^ 32 → IsFull (store.tables t) key → is_full m t ≡ true
full_for_calls parts m store t key h opening fits full = least_is_full m t (full_for_a_key parts m store t key h opening fits full)

-- only there
pub full_place : (parts : Parts) (m : Machine) (store : Store) (t : ℕ) (key : List ℕ) → HoldsChains parts m store → in_order m.opening ≡ true
    → (store.tables t).header.slots < 2 ^ 32 → is_full m t ≡ true → IsFull (store.tables t) key
unfolding is_full
full_place parts m store t key h opening fits full =
    let most = leb-true MOST_VARIATIONS (variations_of_table m t) full in
    inl (variations_fill parts m store t h opening fits (omega (arith, most, at_most parts m store t h opening fits)))

-- where there is one it isn't
pub room_for_calls : (parts : Parts) (m : Machine) (store : Store) (t : ℕ) (key : List ℕ) → HoldsChains parts m store → in_order m.opening ≡ true
    → (store.tables t).header.slots < 2 ^ 32 → (IsFull (store.tables t) key → ⊥) → is_full m t ≡ false
room_for_calls parts m store t key h opening fits room =
    false_from_ne_true (is_full m t) (λ full. room (full_place parts m store t key h opening fits full))
