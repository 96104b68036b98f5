-- The chains after a part was moved, and with other data logs.
use Rattle.std.proofs.Common.{◌≡◌, ◌≢◌, ℕ, ◌≤◌, true, List, [], ◌∷◌, ◌++◌, map, get_or, refl, sym, ap, subst, ◌∙◌, ⊎_elim}
use Rattle.std.specs.Prelude.{All}
use Rattle.std.proofs.lemmas.Bool.{cases_eq, eq-eqb, ne_eqb}
use Rattle.std.proofs.lemmas.List.Elements.{All-head, All-map, All-tail, All-weaker}
use Rattle.std.proofs.lemmas.Simd.{map-map}
use Rattle.px_cells.specs.declared.slot.Slot.{Slot}
use Rattle.px_cells.specs.declared.slot.SlotState.{SlotState}
use Rattle.px_cells.specs.declared.slot.SlotState.TheVariants as state
use Rattle.px_chain_laws.proofs.Looking.{by}
use Rattle.px_history.specs.Steps.{IsStep, Step, after_step}
use Rattle.px_history.specs.Store.{Store, versions_of}
use Rattle.px_model.specs.Machine.{Machine}
use Rattle.px_model.specs.declared.write.Write.TheVariants.{Put}
use Rattle.px_shown.specs.Moves.{MayMove, moved_slot, with_move}
use Rattle.px_shown.specs.Parts.{AgreeAt, AgreeInChains, Parts}
use Rattle.px_shown.specs.Shown.{row_of, write_in, write_of}
use Rattle.px_shown.proofs.Moving.{body_long, keys_after, move_sound, rows_after, write_agrees}
use Rattle.px_xacts.specs.Transactions.{Transactions}
use Rattle.px_cell_laws.specs.Holding.{HoldsChains, if_any, newest_first, number_past, variation_in}
use Rattle.px_cell_laws.specs.Locating.{AreWrittenAt, of_key, unswept_writes}
use Rattle.px_cell_laws.proofs.Lists.{all_unmapped}
use Rattle.px_cell_laws.proofs.Noting.{Locates}

mapped_alike : {X Y : Type 0} (f g : X → Y) (xs : List X) → All (λ x. f x ≡ g x) xs → map f xs ≡ map g xs
mapped_alike f g [] same = refl
mapped_alike f g (x ∷ xs) same =
    ap (λ y. y ∷ map f xs) (All-head (λ z. f z ≡ g z) x xs same) ∙ ap (λ l. g x ∷ l) (mapped_alike f g xs (All-tail (λ z. f z ≡ g z) x xs same))

-- ---- other data logs

pub logs_agree : (parts others : Parts) (m : Machine) (store : Store) → AgreeInChains parts others store.tables store.layouts → HoldsChains parts m store
    → HoldsChains others m store
logs_agree parts others m store agree h = record {
  sound = h.sound;
  chains = record {
    of_row = λ t row used.
        h.chains.of_row t row used
        ∙ ap if_any (sym (mapped_alike (variation_in others m.base t) (variation_in parts m.base t) (versions_of store t row)
        (All-weaker (AgreeAt parts others) (λ (s : Slot). variation_in others m.base t s ≡ variation_in parts m.base t s)
        (λ s same. ap (by (number_past m.base s.xn)) (write_agrees parts others t s same)) (versions_of store t row) (agree t row used))));
    of_none = h.chains.of_none;
  };
  found = h.found;
  done = h.done;
  over = h.over;
}

-- ---- a move

-- what a slot of a table wrote, and who, is as before
record IsAlike (parts : Parts) (t : ℕ) (slot other : Slot) : Type 0 where
  pub xn : other.xn ≡ slot.xn
  pub write : write_of parts t other ≡ write_of parts t slot

moved_alike : (parts : Parts) (t : ℕ) (slot : Slot) (log place : ℕ) → slot.log ≢ 0 → log ≢ 0 → parts slot.log slot.place ≡ parts log place
    → IsAlike parts t slot (moved_slot slot log place)
moved_alike parts t slot log place long some same = record { xn = refl; write = in_state slot.state }
  where
    bodies : (row_of parts t (moved_slot slot log place)).body ≡ (row_of parts t slot).body
    bodies =
        body_long parts t (moved_slot slot log place) some
        ∙ ap (λ (tail : List ℕ). slot.short ++ tail) (sym same)
        ∙ sym (body_long parts t slot long)

    in_state : (s : SlotState) → write_in parts s t (moved_slot slot log place) ≡ write_in parts s t slot
    in_state state.Row = ap (λ (body : List ℕ). Put (record (row_of parts t slot) { body = body })) bodies
    in_state state.Deletion = refl
    in_state state.Free = refl

each_alike : (parts : Parts) (short : ℕ) (store : Store) (t number log place n slot : ℕ) → MayMove parts short store.tables store.layouts t number log place
    → IsAlike parts n ((store.tables n).slot slot) ((with_move store.tables t number log place n).slot slot)
each_alike parts short store t number log place n slot may =
    let moved = moved_slot ((store.tables t).slot number) log place in
    ⊎_elim
    (λ (here : n ≡ t). ⊎_elim
    (λ (its : slot ≡ number). rw (eq-eqb n t here) (rw (eq-eqb slot number its)
    (subst (λ (p : ℕ). IsAlike parts p ((store.tables p).slot slot) moved) (sym here)
    (subst (λ (i : ℕ). IsAlike parts t ((store.tables t).slot i) moved) (sym its) (moved_alike parts t ((store.tables t).slot number) log place may.long may.some may.same)))))
    (λ (other : slot ≢ number). rw (eq-eqb n t here) (rw (ne_eqb slot number other)
    (subst (λ (p : ℕ). IsAlike parts p ((store.tables p).slot slot) ((store.tables t).slot slot)) (sym here) (record { xn = refl; write = refl }))))
    (cases_eq slot number))
    (λ (away : n ≢ t). rw (ne_eqb n t away) (record { xn = refl; write = refl }))
    (cases_eq n t)

same_variations : (parts : Parts) (short base : ℕ) (store : Store) (t number log place n row : ℕ) → MayMove parts short store.tables store.layouts t number log place
    → map (variation_in parts base n) (versions_of (after_step store (Step.move t number log place)) n row) ≡ map (variation_in parts base n) (versions_of store n row)
same_variations parts short base store t number log place n row may =
    let before = (store.tables n).slot in
    let behind = (with_move store.tables t number log place n).slot in
    let places = (store.layouts n).chain row in
    map-map (variation_in parts base n) behind places
    ∙ mapped_alike (λ slot. variation_in parts base n (behind slot)) (λ slot. variation_in parts base n (before slot)) places (λ i d lt.
    let its = each_alike parts short store t number log place n (get_or places i d) may in
    ap (λ (xn : ℕ). by (number_past base xn) (write_of parts n (behind (get_or places i d)))) its.xn ∙ ap (by (number_past base (before (get_or places i d)).xn)) its.write)
    ∙ sym (map-map (variation_in parts base n) before places)

pub move_holds : (parts : Parts) (m : Machine) (store : Store) (t number log place : ℕ) → HoldsChains parts m store
    → IsStep parts m.short store (Step.move t number log place) → HoldsChains parts m (after_step store (Step.move t number log place))
move_holds parts m store t number log place h may =
    let next = after_step store (Step.move t number log place) in
    record {
      sound = move_sound parts m.short store.tables store.layouts t number log place may h.sound;
      chains = record {
        of_row = λ n row used.
            ap (λ (key : List ℕ). newest_first m (n, key)) (keys_after store.tables t number log place n row)
            ∙ h.chains.of_row n row ((rows_after store.tables t number log place n row).0 used)
            ∙ ap if_any (sym (same_variations parts m.short m.base store t number log place n row may));
        of_none = λ key none. h.chains.of_none key (λ row used its.
            none row ((rows_after store.tables t number log place key.0 row).1 used) (keys_after store.tables t number log place key.0 row ∙ its));
      };
      found = λ n row.
          let P : Slot → Type 0 = λ s. s.xn ≤ m.base → store.done s.xn ≡ true in
          let before = (store.tables n).slot in
          let behind = (next.tables n).slot in
          let places = (store.layouts n).chain row in
          All-map P behind places (All-weaker (λ (slot : ℕ). P (before slot)) (λ (slot : ℕ). P (behind slot))
          (λ slot was. subst (λ (xn : ℕ). xn ≤ m.base → store.done xn ≡ true) (sym (each_alike parts m.short store t number log place n slot may).xn) was)
          places (all_unmapped P before places (h.found n row)));
      done = h.done;
      over = h.over;
    }

pub move_stays_written : (all : Transactions) (store : Store) (t number log place : ℕ) → AreWrittenAt all store → AreWrittenAt all (after_step store (Step.move t number log place))
move_stays_written all store t number log place h = record {
  chains = λ n row used.
      subst (λ (key : List ℕ). Locates row (of_key (n, key) (unswept_writes all)) ((store.layouts n).chain row)) (sym (keys_after store.tables t number log place n row))
      (h.chains n row ((rows_after store.tables t number log place n row).0 used));
}
