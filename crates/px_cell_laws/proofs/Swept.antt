-- The store after a sweep.
use Rattle.std.proofs.Common.{◌≡◌, ◌≢◌, ℕ, ◌+◌, ◌≤◌, ◌||◌, ◌&&◌, Bool, true, false, not, List, [], ◌∷◌, ◌++◌, map, reverse, take, drop, length, Some, refl, sym, ap, subst, ◌∙◌, arith, ⊎_elim}
use Rattle.std.specs.Prelude.{◌⊎◌, All}
use Rattle.std.proofs.lemmas.Bool.{cases_eq, false≢true, ne_eqb}
use Rattle.std.proofs.lemmas.List.{nil_from_length, reverse-reverse}
use Rattle.std.proofs.lemmas.List.Elements.{All-append, All-drop, All-head, All-same, All-tail, All-take}
use Rattle.px_calls.specs.Sweeps.{swept_state}
use Rattle.px_cells.specs.declared.slot.Slot.{Slot}
use Rattle.px_chain.specs.Sound.{key_of}
use Rattle.px_chain_laws.specs.Kept.{IsKept}
use Rattle.px_chain_laws.specs.Reading.{is_committed}
use Rattle.px_chain_laws.specs.Sweeping.{base_of}
use Rattle.px_chain_laws.proofs.Sweeping.{one_base, sweep_leaves_others}
use Rattle.px_history.specs.Steps.{after_step, after_unlink, has_one_of, over_without}
use Rattle.px_history.specs.Store.{Store, versions_from, versions_of}
use Rattle.px_model.specs.Chains.{chain, is_put}
use Rattle.px_model.specs.Machine.{Machine}
use Rattle.px_model.specs.Rows.{Key, key_written}
use Rattle.px_model.specs.declared.machine.Flat.{Flat}
use Rattle.px_model.specs.declared.machine.Variation.{Variation}
use Rattle.px_shown.specs.Changes.{left_of}
use Rattle.px_shown.specs.Shown.{AreToldByChains}
use Rattle.px_shown.specs.Tables.{AreSound}
use Rattle.px_shown.proofs.Changes.{unlink_changes, unlink_stays_sound}
use Rattle.px_shown.proofs.Keys.{key_cases, same_key-not}
use Rattle.px_shown.proofs.Rows.{chains_of, told_by_rows, told_of_rows}
use Rattle.px_shown.proofs.Told.{IsChanged, told_changed}
use Rattle.px_cell_laws.specs.Holding.{HoldsChains, if_any, is_rolled_back, newest_first, variation_in, variations_in}
use Rattle.px_cell_laws.specs.Sweeping.{IsSweptAt, sweep_count, sweep_count_of, sweep_of}
use Rattle.px_cell_laws.proofs.Calling.{found_of, holds_the_same, same_standing}
use Rattle.px_cell_laws.proofs.Chained.{chain_of_row, numbers_changed, variations_blind}
use Rattle.px_cell_laws.proofs.Covering.{within_row}
use Rattle.px_cell_laws.proofs.Cutting.{gone_part, left_mapped, left_parts}
use Rattle.px_cell_laws.proofs.Ended.{IsDoneOrOver}
use Rattle.px_cell_laws.proofs.Ends.{KeepsBase}
use Rattle.px_cell_laws.proofs.Sweeping.{IsCut, cut}
use Rattle.px_shown.specs.Parts.{Parts}

-- ---- who is over

-- a number that one of them has is that of a transaction that is done or over
one_is_past : (store : Store) (xn : ℕ) (slots : List Slot) → All (λ slot. IsDoneOrOver store slot.xn) slots → has_one_of xn slots ≡ true → IsDoneOrOver store xn
one_is_past store xn [] all has = absurd (false≢true has)
one_is_past store xn (slot ∷ slots) all has = ⊎_elim
    (λ (its : slot.xn ≡ xn). subst (IsDoneOrOver store) its (All-head (λ (s : Slot). IsDoneOrOver store s.xn) slot slots all))
    (λ (other : slot.xn ≢ xn).
    one_is_past store xn slots (All-tail (λ (s : Slot). IsDoneOrOver store s.xn) slot slots all)
    (sym (ap (λ (b : Bool). b || has_one_of xn slots) (ne_eqb slot.xn xn other)) ∙ has))
    (cases_eq slot.xn xn)

still_over : (over done has : Bool) → (has ≡ true → (done ≡ true) ⊎ (over ≡ true)) → (over || (not done && has)) ≡ over
still_over true done has past = refl
still_over false true has past = refl
still_over false false true past = absurd (⊎_elim (λ (e : false ≡ true). false≢true e) (λ (e : false ≡ true). false≢true e) (past refl))
still_over false false false past = refl

over_stays : (store : Store) (gone : List Slot) (xn : ℕ) → All (λ slot. IsDoneOrOver store slot.xn) gone → over_without store gone xn ≡ store.over xn
over_stays store gone xn all = still_over (store.over xn) (store.done xn) (has_one_of xn gone) (λ has. one_is_past store xn gone all has)

-- ---- the machine

sweep_keeps_base : (m : Machine) → KeepsBase m (swept_state m)
unfolding swept_state
sweep_keeps_base m = record { short = refl; base = refl }

sweep_keeps_ended : (m : Machine) → (swept_state m).ended ≡ m.ended
unfolding swept_state
sweep_keeps_ended m = refl

other_chain : (m : Machine) (store : Store) (w : Flat) (t row place : ℕ) (key : Key) → IsSweptAt m store w t row place → key ≢ (t, key_of (store.tables t) row)
    → chain (swept_state m) key ≡ chain m key
other_chain m store w t row place key at other =
    sweep_leaves_others m w key at.next at.due (same_key-not key (key_written w.write) (λ same. other (same ∙ sym at.its_key)))

-- ---- where nothing goes

pub nothing_goes : (parts : Parts) (m : Machine) (store : Store) (w : Flat) (t row place : ℕ) → HoldsChains parts m store → IsKept m → IsSweptAt m store w t row place
    → sweep_count_of store w t row place ≡ 0 → HoldsChains parts (swept_state m) store
nothing_goes parts m store w t row place h k at none =
    let c = cut parts m store w t row place h k at in
    let n = swept_state m in
    let v = variation_in parts m.base t in
    let its : Key = (t, key_of (store.tables t) row) in
    let gone : c.gone ≡ [] = nil_from_length c.gone (sym c.many ∙ none) in
    let here : reverse (chain n its) ≡ reverse (chain m its) =
    ap (λ (key : Key). reverse (chain n key)) at.its_key
    ∙ sym c.left
    ∙ ap (λ (l : List Slot). map v (c.before ++ (l ++ c.behind))) (sym gone)
    ∙ ap (map v) (sym c.split)
    ∙ sym (chain_of_row parts m store t row h at.used) in
    holds_the_same parts m n store h (sweep_keeps_base m) (sweep_keeps_ended m) (λ key. ⊎_elim
    (λ (same : key ≡ its).
    ap (chain n) same
    ∙ sym (reverse-reverse (chain n its))
    ∙ ap (λ (l : List Variation). reverse l) here
    ∙ reverse-reverse (chain m its)
    ∙ ap (chain m) (sym same))
    (λ (other : key ≢ its). other_chain m store w t row place key at other)
    (key_cases key its))

-- ---- where some go

cut_left : (parts : Parts) (m : Machine) (store : Store) (w : Flat) (t row from count : ℕ) → (c : IsCut parts m store w t row from count)
    → map (store.tables t).slot (left_of ((store.layouts t).chain row) from count) ≡ c.before ++ c.behind
cut_left parts m store w t row from count c =
    left_mapped (store.tables t).slot ((store.layouts t).chain row) from count
    ∙ ap (λ (l : List Slot). left_of l from count) c.split
    ∙ ap (λ (i : ℕ). left_of (c.before ++ (c.gone ++ c.behind)) i count) c.first
    ∙ ap (left_of (c.before ++ (c.gone ++ c.behind)) (length c.before)) c.many
    ∙ left_parts c.before c.gone c.behind

cut_gone : (parts : Parts) (m : Machine) (store : Store) (w : Flat) (t row from count : ℕ) → (c : IsCut parts m store w t row from count) → versions_from store t row from count ≡ c.gone
cut_gone parts m store w t row from count c =
    ap (λ (l : List Slot). take count (drop from l)) c.split
    ∙ ap (λ (i : ℕ). take count (drop i (c.before ++ (c.gone ++ c.behind)))) c.first
    ∙ ap (λ (i : ℕ). take i (drop (length c.before) (c.before ++ (c.gone ++ c.behind)))) c.many
    ∙ gone_part c.before c.gone c.behind

pub sweep_changes : (parts : Parts) (m : Machine) (store : Store) (w : Flat) (t row place from count : ℕ) → HoldsChains parts m store → IsSweptAt m store w t row place
    → IsCut parts m store w t row from count → 1 ≤ count
    → let next = after_unlink store t row from count in
    IsChanged (chains_of store.tables store.layouts) (chains_of next.tables next.layouts) t row (key_of (store.tables t) row)
    (map (store.tables t).slot (left_of ((store.layouts t).chain row) from count))
sweep_changes parts m store w t row place from count h at c some =
    unlink_changes m.short store.tables store.layouts t row from count h.sound at.used some (within_row parts m store w t row from count c)

swept_chains : (parts : Parts) (m : Machine) (store : Store) (w : Flat) (t row place from count : ℕ) → HoldsChains parts m store → IsSweptAt m store w t row place
    → IsCut parts m store w t row from count → 1 ≤ count
    → let next = after_unlink store t row from count in
    AreSound m.short next.tables next.layouts → AreToldByChains next.tables next.layouts (variations_in parts m.base) (newest_first (swept_state m))
swept_chains parts m store w t row place from count h at c some sound =
    let n = swept_state m in
    let next = after_unlink store t row from count in
    let key = key_of (store.tables t) row in
    let slots = map (store.tables t).slot (left_of ((store.layouts t).chain row) from count) in
    let here : newest_first n (t, key) ≡ variations_in parts m.base t slots =
    ap (newest_first n) at.its_key
    ∙ ap if_any (sym c.left)
    ∙ ap (variations_in parts m.base t) (sym (cut_left parts m store w t row from count c)) in
    told_of_rows m.short next.tables next.layouts (variations_in parts m.base) (newest_first n) sound
    (told_changed (chains_of store.tables store.layouts) (chains_of next.tables next.layouts) t row key slots (variations_in parts m.base) (newest_first m) (newest_first n)
    (sweep_changes parts m store w t row place from count h at c some) (variations_blind parts m.base)
    (told_by_rows m.short store.tables store.layouts (variations_in parts m.base) (newest_first m) h.sound h.chains)
    (λ q apart. ap (λ (l : List Variation). if_any (reverse l)) (other_chain m store w t row place q at apart))
    here)

cut_holds : (parts : Parts) (m : Machine) (store : Store) (w : Flat) (t row place from count : ℕ) → HoldsChains parts m store → IsSweptAt m store w t row place
    → IsCut parts m store w t row from count → 1 ≤ count → HoldsChains parts (swept_state m) (after_unlink store t row from count)
cut_holds parts m store w t row place from count h at c some =
    let n = swept_state m in
    let next = after_unlink store t row from count in
    let places = (store.layouts t).chain row in
    let slots = versions_of store t row in
    let keeps = sweep_keeps_base m in
    let ended = sweep_keeps_ended m in
    let sound : AreSound m.short next.tables next.layouts =
    unlink_stays_sound m.short store.tables store.layouts t row from count h.sound at.used some (within_row parts m store w t row from count c) in
    let P : ℕ → Type 0 = λ xn. xn ≤ m.base → store.done xn ≡ true in
    let IsFound : Slot → Type 0 = λ slot. P slot.xn in
    let found_left : All IsFound (map (store.tables t).slot (left_of places from count)) =
    All-same IsFound (map (store.tables t).slot (left_of places from count)) (left_of slots from count) (left_mapped (store.tables t).slot places from count)
    (All-append IsFound (take from slots) (drop count (drop from slots)) (All-take IsFound from slots (h.found t row))
    (All-drop IsFound count (drop from slots) (All-drop IsFound from slots (h.found t row)))) in
    let past = All-same (λ (slot : Slot). IsDoneOrOver store slot.xn) (versions_from store t row from count) c.gone (cut_gone parts m store w t row from count c) c.ended in
    record {
      sound = subst (λ (short : ℕ). AreSound short next.tables next.layouts) (sym keeps.short) sound;
      chains = subst (λ (base : ℕ). AreToldByChains next.tables next.layouts (variations_in parts base) (newest_first n)) (sym keeps.base)
          (swept_chains parts m store w t row place from count h at c some sound);
      found = found_of next m.base n.base keeps.base
          (numbers_changed P (chains_of store.tables store.layouts) (chains_of next.tables next.layouts) t row (key_of (store.tables t) row) (map (store.tables t).slot (left_of places from count))
          (sweep_changes parts m store w t row place from count h at c some) h.found found_left);
      done = λ xn above. h.done xn (omega (arith, above, keeps.base)) ∙ ap is_committed (sym (same_standing m n (Some xn) keeps.base ended));
      over = λ xn above.
          over_stays store (versions_from store t row from count) xn past
          ∙ h.over xn (omega (arith, above, keeps.base))
          ∙ ap is_rolled_back (sym (same_standing m n (Some xn) keeps.base ended));
    }

pub sweep_holds : (parts : Parts) (m : Machine) (store : Store) (w : Flat) (t row place : ℕ) → HoldsChains parts m store → IsKept m → IsSweptAt m store w t row place
    → 1 ≤ sweep_count_of store w t row place → HoldsChains parts (swept_state m) (after_step store (sweep_of store w t row place))
sweep_holds parts m store w t row place h k at some = cut_holds parts m store w t row place _ _ h at (cut parts m store w t row place h k at) some

-- ---- how many go

count_is_small : (committed put : Bool) (place versions base : ℕ) → versions ≡ place + 1 + base → base ≤ 1 → sweep_count committed put place versions ≤ 2
count_is_small false put place versions base all one = omega arith
count_is_small true false place versions base all one = omega (arith, all, one)
count_is_small true true place versions base all one = omega (arith, all, one)

pub two_at_most : (m : Machine) (store : Store) (w : Flat) (t row place : ℕ) → IsSweptAt m store w t row place → sweep_count_of store w t row place ≤ 2
two_at_most m store w t row place at =
    count_is_small w.committed (is_put w.write) place (length (versions_of store t row)) (length (base_of m (key_written w.write))) at.behind (one_base m (key_written w.write))
