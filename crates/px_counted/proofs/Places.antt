-- The slots and the row pointers of sound cells, counted.
use Rattle.std.proofs.Common.{◌≡◌, ℕ, ◌+◌, Bool, true, false, ◌++◌, length, refl, ◌∙◌, arith, inl, inr, ⊎_elim}
use Rattle.std.specs.Prelude.{Contains, flat_map, ◌⊎◌}
use Rattle.std.specs.List.{range_with_len}
use Rattle.std.proofs.lemmas.Bool.{cases_Bool}
use Rattle.std.proofs.lemmas.List.{length-append}
use Rattle.std.proofs.lemmas.List.Concat.{length-flat_map}
use Rattle.std.proofs.lemmas.List.Elements.{All-contains, Contains-append_left, Contains-append_right, Contains-append_cases, filter_passes}
use Rattle.px_cells.specs.declared.slot.SlotState.{SlotState}
use Rattle.px_cells.specs.declared.slot.SlotState.TheVariants.{Free, Row, Deletion}
use Rattle.px_free.specs.Places.{rows_of}
use Rattle.px_chain.specs.Sound.{IsApart, IsFreeRow, IsFreeSlot, IsPlace, IsSlot, IsSound, IsUsedRow, IsVariation, Layout}
use Rattle.px_chain.specs.Table.{Table}
use Rattle.px_chain.proofs.SoundLaws.{chain_once, chain_or_free, free_rows_once, free_slots_once, one_chain}
use Rattle.px_counted.specs.Counts.{slots_in_chains, used_rows}
use Rattle.px_counted.proofs.Lists.{apart_all, apart_joined, apart_kept, apart_range, counts, in_one_of, in_range, is_kept, kept_stood, of_one_of, of_range}

-- ---- the used rows

abbrev is_used : Table → ℕ → Bool
is_used table row = (table.pointer row).used

pub used_is_among : (table : Table) (row : ℕ) → IsUsedRow table row → Contains (used_rows table) row
used_is_among table row used =
    is_kept (is_used table) row (range_with_len 1 table.header.rows) (in_range 1 table.header.rows row used.0.0 (omega (arith, used.0.1))) used.1

pub among_is_used : (table : Table) (row : ℕ) → Contains (used_rows table) row → IsUsedRow table row
among_is_used table row there =
    let r = of_range 1 table.header.rows row (kept_stood (is_used table) row (range_with_len 1 table.header.rows) there) in (
      (r.0, omega (arith, r.1)),
      All-contains (λ (q : ℕ). is_used table q ≡ true) (used_rows table) row (filter_passes (is_used table) (range_with_len 1 table.header.rows)) there,
    )

pub used_once : (table : Table) → IsApart (used_rows table)
used_once table = apart_kept (is_used table) (range_with_len 1 table.header.rows) (apart_range 1 table.header.rows)

-- ---- row pointers

free_row : (short : ℕ) (table : Table) (layout : Layout) (row : ℕ) → IsSound short table layout → Contains layout.free_rows row
    → IsPlace (rows_of table.header) row × IsFreeRow table row
free_row short table layout row sound there =
    All-contains (λ (q : ℕ). IsPlace (rows_of table.header) q × IsFreeRow table q) layout.free_rows row sound.free_rows.free there

pub rows_counted : (short : ℕ) (table : Table) (layout : Layout) → IsSound short table layout
    → table.header.rows ≡ length layout.free_rows + length (used_rows table)
rows_counted short table layout sound =
    let free = layout.free_rows in
    let used = used_rows table in
    counts table.header.rows (free ++ used)
    (apart_joined free used (free_rows_once short table layout sound) (used_once table)
    (λ row here there. let f = (free_row short table layout row sound here).1 in let u = (among_is_used table row there).1 in cc))
    (λ row there. ⊎_elim
    (λ (here : Contains free row). (free_row short table layout row sound here).0)
    (λ (here : Contains used row). (among_is_used table row here).0)
    (Contains-append_cases free used row there))
    (λ row place. ⊎_elim
    (λ (yes : is_used table row ≡ true). Contains-append_right free used row (used_is_among table row (place, yes)))
    (λ (no : is_used table row ≡ false). Contains-append_left free used row (sound.free_rows.whole row place no))
    (cases_Bool (is_used table row)))
    ∙ length-append free used

-- ---- slots

free_or_not : (state : SlotState) → (state ≡ Free) ⊎ (state ≡ Free → ⊥)
free_or_not Free = inl refl
free_or_not Row = inr (λ (e : Row ≡ Free). cc)
free_or_not Deletion = inr (λ (e : Deletion ≡ Free). cc)

slots_listed : (short : ℕ) (table : Table) (layout : Layout) → IsSound short table layout
    → table.header.slots ≡ length (layout.free_slots ++ flat_map layout.chain (used_rows table))
slots_listed short table layout sound =
    let free = layout.free_slots in
    let used = used_rows table in
    let chained = flat_map layout.chain used in
    let variation : (row slot : ℕ) → IsUsedRow table row → Contains (layout.chain row) slot → IsVariation table row slot =
    λ row slot is_used there. All-contains (IsVariation table row) (layout.chain row) slot (sound.chains row is_used).variations there in
    counts table.header.slots (free ++ chained)
    (apart_joined free chained (free_slots_once short table layout sound)
    (apart_all layout.chain used (used_once table) (λ row there. chain_once short table layout row sound)
    (λ row other slot here there. one_chain short table layout row other slot sound here there))
    (λ slot here there. let of = of_one_of layout.chain slot used there in chain_or_free short table layout of.0 slot sound of.2 here))
    (λ slot there. ⊎_elim
    (λ (here : Contains free slot). (All-contains (λ (p : ℕ). IsSlot table p × IsFreeSlot table p) free slot sound.free_slots.free here).0)
    (λ (here : Contains chained slot). let of = of_one_of layout.chain slot used here in (variation of.0 slot (among_is_used table of.0 of.1) of.2).place)
    (Contains-append_cases free chained slot there))
    (λ slot place. ⊎_elim
    (λ (yes : IsFreeSlot table slot). Contains-append_left free chained slot (sound.free_slots.whole slot place yes))
    (λ (no : IsFreeSlot table slot → ⊥).
    let row = (table.slot slot).row in
    let linked = sound.linked slot place no in
    Contains-append_right free chained slot (in_one_of layout.chain row slot used (used_is_among table row linked.0) linked.1))
    (free_or_not (table.slot slot).state))

pub slots_counted : (short : ℕ) (table : Table) (layout : Layout) → IsSound short table layout
    → table.header.slots ≡ length layout.free_slots + slots_in_chains table layout
slots_counted short table layout sound =
    let all = slots_listed short table layout sound in
    let both = length-append layout.free_slots (flat_map layout.chain (used_rows table)) in
    let each = length-flat_map layout.chain (used_rows table) in
    omega (arith, all, both, each)
