-- Cells of an unlink, laid over sound cells, are sound.
use Rattle.std.proofs.Common.{◌≡◌, ◌≢◌, ◌↔◌, ℕ, ◌+◌, ◌≤◌, true, false, cond, IsTrue, List, [], ◌∷◌, ◌++◌, map, take, drop, length, refl, sym, ap, subst, ◌∙◌, arith, inl, inr, ⊎_elim}
use Rattle.std.specs.Prelude.{Contains, ◌⊎◌}
use Rattle.std.proofs.lemmas.Bool.{cases_eq, eq-eqb, ne_eqb, false≢true, true≢false}
use Rattle.std.specs.List.{take-map, drop-map}
use Rattle.std.proofs.lemmas.List.{take-append-drop, length-take-le, length-drop}
use Rattle.std.proofs.lemmas.List.Elements.{All-contains, Contains-append_left, Contains-append_right, Contains-append_cases}
use Rattle.px_cells.specs.declared.pointer.Pointer.{Pointer}
use Rattle.px_cells.specs.declared.slot.Slot.{Slot}
use Rattle.px_cells.specs.Form.{is_slot}
use Rattle.px_free.specs.Places.{Places, slots_of, rows_of}
use Rattle.px_chain.specs.Table.{Table, laid}
use Rattle.px_chain.specs.Sound.{Walks, IsApart, IsPlace, IsFreeList, IsSlot, IsFreeSlot, next_slot, IsFreeRow, IsUsedRow, head_of, key_of, IsVariation, IsChain, Layout, IsSound}
use Rattle.px_chain.specs.declared.chain.Linked.{Linked}
use Rattle.px_chain.specs.Links.{IsStored, Parts, is_empty, is_emptied, parts_of, chain_of, unlink_cells, unlinked, IsSameVariation}
use Rattle.px_chain.proofs.Walks.{all_from, contains_first, contains_other, contains_cases, contains_none, splits, walk_same, walk_split, walk_join}
use Rattle.px_chain.proofs.Forms.{freed_form, relinked_form}
use Rattle.px_chain.proofs.Places.{apart_walk, apart_front, apart_rest, apart_both, head_or, last_of, last_in, none_or_some, walk_linked, walk_relinked, walk_head}
use Rattle.px_chain.proofs.SoundLink.{head_in}
use Rattle.px_chain.proofs.Overlays.{IsUnlinked, parts_at, unlinked_over}

in_or_out : (xs : List ℕ) (n : ℕ) → Contains xs n ⊎ (Contains xs n → ⊥)
in_or_out [] n = inr (λ there. contains_none n there)
in_or_out (x ∷ xs) n = ⊎_elim
    (λ (e : x ≡ n). inl (subst (λ (p : ℕ). Contains (x ∷ xs) p) e (contains_first x xs)))
    (λ (e : x ≢ n). ⊎_elim (λ (a : Contains xs n). inl (contains_other x n xs a))
    (λ (b : Contains xs n → ⊥). inr (λ there. ⊎_elim (λ (f : x ≡ n). e f) (λ (c : Contains xs n). b c) (contains_cases x n xs there)))
    (in_or_out xs n))
    (cases_eq x n)

last_there : (list : List ℕ) → list ≢ [] → Contains list (last_of list)
last_there [] some = absurd (some refl)
last_there (x ∷ xs) some = last_in x xs

both_none : (xs ys : List ℕ) → xs ++ ys ≡ [] → (xs ≡ []) × (ys ≡ [])
both_none [] ys e = (refl, e)
both_none (x ∷ xs) ys e = cc

stay_or_not : (before behind : List ℕ) → ((before ≡ []) × (behind ≡ [])) ⊎ (before ≡ [] → behind ≡ [] → ⊥)
stay_or_not before behind = ⊎_elim
    (λ (none : before ≡ []). ⊎_elim (λ (end : behind ≡ []). inl (none, end)) (λ (some : behind ≢ []). inr (λ _ e. some e)) (none_or_some behind))
    (λ (some : before ≢ []). inr (λ e _. some e))
    (none_or_some before)

-- a slot that stays has its old state, row, key and form
record IsKept (short : ℕ) (old new : Slot) : Type 0 where
  pub state : new.state ≡ old.state
  pub its_row : new.row ≡ old.row
  pub its_key : new.key ≡ old.key
  pub form : IsTrue (is_slot short old) → IsTrue (is_slot short new)
  pub all : new ≡ record old { next = new.next }

kept_same : (short : ℕ) (old new : Slot) → new ≡ old → IsKept short old new
kept_same short old new e = record {
  state = ap (λ (s : Slot). s.state) e;
  its_row = ap (λ (s : Slot). s.row) e;
  its_key = ap (λ (s : Slot). s.key) e;
  form = λ f. subst (λ (s : Slot). IsTrue (is_slot short s)) (sym e) f;
  all = subst (λ (s : Slot). s ≡ record old { next = s.next }) (sym e) refl;
}

kept_relinked : (short next : ℕ) (old new : Slot) → IsStored short old → new ≡ record old { next = next } → IsKept short old new
kept_relinked short next old new is_stored e = record {
  state = ap (λ (s : Slot). s.state) e;
  its_row = ap (λ (s : Slot). s.row) e;
  its_key = ap (λ (s : Slot). s.key) e;
  form = λ f. subst (λ (s : Slot). IsTrue (is_slot short s)) (sym e) (relinked_form short next old is_stored);
  all = subst (λ (s : Slot). s ≡ record old { next = s.next }) (sym e) refl;
}

-- Sound cells, those of an unlink over them, and what stands where.
record Unlinking : Type 0 where
  pub short : ℕ
  pub table : Table
  pub other : Table
  pub layout : Layout
  pub after : Layout
  pub row : ℕ
  pub before : List ℕ
  pub gone : List ℕ
  pub behind : List ℕ
  pub sound : IsSound short table layout
  pub used : IsUsedRow table row
  pub chain : layout.chain row ≡ before ++ (gone ++ behind)
  pub over : IsUnlinked table other row before gone behind
  pub chain_left : after.chain row ≡ before ++ behind
  pub chain_else : (q : ℕ) → q ≢ row → after.chain q ≡ layout.chain q
  pub slots_given : after.free_slots ≡ gone ++ layout.free_slots
  pub rows_kept : (before ≡ [] → behind ≡ [] → ⊥) → after.free_rows ≡ layout.free_rows
  pub rows_given : before ≡ [] → behind ≡ [] → after.free_rows ≡ row ∷ layout.free_rows

-- ---- the chain as it was

varies : (u : Unlinking) → (n : ℕ) → Contains (u.before ++ (u.gone ++ u.behind)) n → IsVariation u.table u.row n
varies u n there =
    All-contains (IsVariation u.table u.row) (u.layout.chain u.row) n (u.sound.chains u.row u.used).variations (subst (λ (l : List ℕ). Contains l n) (sym u.chain) there)

old_walk : (u : Unlinking) → Walks (next_slot u.table) (head_of u.table u.row) (u.before ++ (u.gone ++ u.behind)) 0
old_walk u = subst (λ (l : List ℕ). Walks (next_slot u.table) (head_of u.table u.row) l 0) u.chain (u.sound.chains u.row u.used).walk

apart : (u : Unlinking) → IsApart (u.before ++ (u.gone ++ u.behind))
apart u =
    apart_walk (next_slot u.table) (head_of u.table u.row) (u.before ++ (u.gone ++ u.behind))
    (all_from (λ place. 1 ≤ place) (u.before ++ (u.gone ++ u.behind)) (λ n there. (varies u n there).place.0)) (old_walk u)

-- ---- slots

stored : (u : Unlinking) → (n : ℕ) → Contains (u.before ++ (u.gone ++ u.behind)) n → IsStored u.short (u.table.slot n)
stored u n there = record { form = u.sound.form n (varies u n there).place; used = (varies u n there).used }

kept : (u : Unlinking) → (n : ℕ) → (Contains u.gone n → ⊥) → IsKept u.short (u.table.slot n) (u.other.slot n)
kept u n stays = ⊎_elim
    (λ (none : u.before ≡ []). kept_same u.short (u.table.slot n) (u.other.slot n) (u.over.slot_else n stays (λ some. absurd (some none))))
    (λ (some : u.before ≢ []). ⊎_elim
    (λ (e : n ≡ last_of u.before). subst (λ (p : ℕ). IsKept u.short (u.table.slot p) (u.other.slot p)) (sym e)
    (kept_relinked u.short (head_or u.behind 0) (u.table.slot (last_of u.before)) (u.other.slot (last_of u.before))
    (stored u (last_of u.before) (Contains-append_left u.before (u.gone ++ u.behind) (last_of u.before) (last_there u.before some))) (u.over.slot_last some)))
    (λ (e : n ≢ last_of u.before). kept_same u.short (u.table.slot n) (u.other.slot n) (u.over.slot_else n stays (λ _. e)))
    (cases_eq n (last_of u.before)))
    (none_or_some u.before)

-- a slot of no place of the chain is as it was
outside : (u : Unlinking) → (n : ℕ) → (Contains (u.before ++ (u.gone ++ u.behind)) n → ⊥) → u.other.slot n ≡ u.table.slot n
outside u n out = u.over.slot_else n
    (λ there. out (Contains-append_right u.before (u.gone ++ u.behind) n (Contains-append_left u.gone u.behind n there)))
    (λ some e. out (subst (λ (p : ℕ). Contains (u.before ++ (u.gone ++ u.behind)) p) (sym e) (Contains-append_left u.before (u.gone ++ u.behind) (last_of u.before) (last_there u.before some))))

gone_free : (u : Unlinking) → (n : ℕ) → Contains u.gone n → IsFreeSlot u.other n
gone_free u n there =
    let s = splits n u.gone there in ap (λ (s : Slot). s.state) (u.over.slot_freed s.0 n s.1 s.2)

left_stays : (u : Unlinking) → (n : ℕ) → Contains (u.before ++ u.behind) n → (Contains u.gone n → ⊥) × Contains (u.before ++ (u.gone ++ u.behind)) n
left_stays u n there = ⊎_elim
    (λ (a : Contains u.before n).
    (λ here. apart_both u.before (u.gone ++ u.behind) (apart u) n a (Contains-append_left u.gone u.behind n here), Contains-append_left u.before (u.gone ++ u.behind) n a))
    (λ (b : Contains u.behind n). (
      λ here. apart_both u.gone u.behind (apart_rest u.before (u.gone ++ u.behind) (apart u)) n here b,
      Contains-append_right u.before (u.gone ++ u.behind) n (Contains-append_right u.gone u.behind n b),
    ))
    (Contains-append_cases u.before u.behind n there)

old_slot : (u : Unlinking) → (n : ℕ) → IsSlot u.other n → IsSlot u.table n
old_slot u n in' = (in'.0, let e = ap (λ (p : Places). p.used) u.over.slots in omega (arith, in'.1))

new_slot : (u : Unlinking) → (n : ℕ) → IsSlot u.table n → IsSlot u.other n
new_slot u n in' = (in'.0, let e = ap (λ (p : Places). p.used) u.over.slots in omega (arith, in'.1))

forms : (u : Unlinking) → (n : ℕ) → IsSlot u.other n → IsTrue (is_slot u.short (u.other.slot n))
forms u n in' = ⊎_elim
    (λ (there : Contains u.gone n).
    let s = splits n u.gone there in
    let whole = Contains-append_right u.before (u.gone ++ u.behind) n (Contains-append_left u.gone u.behind n there) in
    subst (λ (s : Slot). IsTrue (is_slot u.short s)) (sym (u.over.slot_freed s.0 n s.1 s.2)) (freed_form u.short (head_or s.1 u.table.header.free_slot) (u.table.slot n) (stored u n whole)))
    (λ (stays : Contains u.gone n → ⊥). (kept u n stays).form (u.sound.form n (old_slot u n in')))
    (in_or_out u.gone n)

-- ---- the free slots

free_away : (u : Unlinking) → (n : ℕ) → Contains u.layout.free_slots n → u.other.slot n ≡ u.table.slot n
free_away u n there = outside u n (λ whole.
    (varies u n whole).used (All-contains (λ (p : ℕ). IsPlace (slots_of u.table.header) p × IsFreeSlot u.table p) u.layout.free_slots n u.sound.free_slots.free there).1)

slots_free : (u : Unlinking) → IsFreeList (slots_of u.other.header) (next_slot u.other) (IsFreeSlot u.other) (u.gone ++ u.layout.free_slots)
slots_free u =
    let front = u.table.header.free_slot in
    record {
      walk = subst (λ (p : ℕ). Walks (next_slot u.other) p (u.gone ++ u.layout.free_slots) 0) (sym (ap (λ (p : Places). p.front) u.over.slots))
          (walk_join (next_slot u.other) (head_or u.gone front) u.gone front u.layout.free_slots 0
          (walk_linked (next_slot u.other) u.gone front (λ ahead n rest split. ap (λ (s : Slot). s.next) (u.over.slot_freed ahead n rest split)))
          (walk_same (next_slot u.table) (next_slot u.other) front u.layout.free_slots 0 (λ n there. ap (λ (s : Slot). s.next) (sym (free_away u n there))) u.sound.free_slots.walk));
      free = all_from (λ n. IsPlace (slots_of u.other.header) n × IsFreeSlot u.other n) (u.gone ++ u.layout.free_slots) (λ n there. ⊎_elim
          (λ (a : Contains u.gone n).
          (new_slot u n (varies u n (Contains-append_right u.before (u.gone ++ u.behind) n (Contains-append_left u.gone u.behind n a))).place, gone_free u n a))
          (λ (b : Contains u.layout.free_slots n).
          let f = All-contains (λ (p : ℕ). IsPlace (slots_of u.table.header) p × IsFreeSlot u.table p) u.layout.free_slots n u.sound.free_slots.free b in
          (new_slot u n f.0, ap (λ (s : Slot). s.state) (free_away u n b) ∙ f.1))
          (Contains-append_cases u.gone u.layout.free_slots n there));
      whole = λ n in' free. ⊎_elim
          (λ (a : Contains u.gone n). Contains-append_left u.gone u.layout.free_slots n a)
          (λ (stays : Contains u.gone n → ⊥). Contains-append_right u.gone u.layout.free_slots n
          (u.sound.free_slots.whole n (old_slot u n in') (sym (kept u n stays).state ∙ free)))
          (in_or_out u.gone n);
    }

-- ---- the row pointer

row_stays : (u : Unlinking) → (u.before ≡ [] → u.behind ≡ [] → ⊥) → IsUsedRow u.other u.row
row_stays u stays =
    let place : IsPlace (rows_of u.other.header) u.row = (u.used.0.0, let e = ap (λ (p : Places). p.used) (u.over.rows stays) in let o = u.used.0.1 in omega (arith, o)) in
    ⊎_elim
    (λ (none : u.before ≡ []). (place, ap (λ (p : Pointer). p.used) (u.over.pointer_behind none (stays none))))
    (λ (some : u.before ≢ []). (place, ap (λ (p : Pointer). p.used) (u.over.pointer_before some) ∙ u.used.1))
    (none_or_some u.before)

row_used : (u : Unlinking) → IsUsedRow u.other u.row → u.before ≡ [] → u.behind ≡ [] → ⊥
row_used u used none end = false≢true (sym (ap (λ (p : Pointer). p.used) (u.over.pointer_free none end)) ∙ used.1)

some_left : (u : Unlinking) → (n : ℕ) → Contains (u.before ++ u.behind) n → u.before ≡ [] → u.behind ≡ [] → ⊥
some_left u n there none end = ⊎_elim
    (λ (a : Contains u.before n). contains_none n (subst (λ (l : List ℕ). Contains l n) none a))
    (λ (b : Contains u.behind n). contains_none n (subst (λ (l : List ℕ). Contains l n) end b))
    (Contains-append_cases u.before u.behind n there)

-- as many row pointers were ever used as before
rows_same : (u : Unlinking) → u.other.header.rows ≡ u.table.header.rows
rows_same u = ⊎_elim
    (λ (none : u.before ≡ []). ⊎_elim
    (λ (end : u.behind ≡ []). ap (λ (p : Places). p.used) (u.over.rows_given none end))
    (λ (some : u.behind ≢ []). ap (λ (p : Places). p.used) (u.over.rows (λ _ end. some end)))
    (none_or_some u.behind))
    (λ (some : u.before ≢ []). ap (λ (p : Places). p.used) (u.over.rows (λ none _. some none)))
    (none_or_some u.before)

old_row : (u : Unlinking) → (q : ℕ) → IsPlace (rows_of u.other.header) q → IsPlace (rows_of u.table.header) q
old_row u q in' = (in'.0, let e = rows_same u in omega (arith, in'.1))

new_row : (u : Unlinking) → (q : ℕ) → IsPlace (rows_of u.table.header) q → IsPlace (rows_of u.other.header) q
new_row u q in' = (in'.0, let e = rows_same u in omega (arith, in'.1))

old_used : (u : Unlinking) → (q : ℕ) → IsUsedRow u.other q → IsUsedRow u.table q
old_used u q used = ⊎_elim
    (λ (e : q ≡ u.row). subst (λ (p : ℕ). IsUsedRow u.table p) (sym e) u.used)
    (λ (e : q ≢ u.row). (old_row u q used.0, ap (λ (p : Pointer). p.used) (sym (u.over.pointer_else q e)) ∙ used.1))
    (cases_eq q u.row)

else_used : (u : Unlinking) → (q : ℕ) → q ≢ u.row → IsUsedRow u.table q → IsUsedRow u.other q
else_used u q e used = (new_row u q used.0, ap (λ (p : Pointer). p.used) (u.over.pointer_else q e) ∙ used.1)

-- a free row pointer isn't the chain's
free_row_away : (u : Unlinking) → (q : ℕ) → IsFreeRow u.table q → q ≢ u.row
free_row_away u q free e = false≢true (sym free ∙ ap (λ (p : ℕ). (u.table.pointer p).used) e ∙ u.used.1)

free_rows_of : (u : Unlinking) → (q : ℕ) → Contains u.layout.free_rows q → IsPlace (rows_of u.table.header) q × IsFreeRow u.table q
free_rows_of u q there = All-contains (λ (p : ℕ). IsPlace (rows_of u.table.header) p × IsFreeRow u.table p) u.layout.free_rows q u.sound.free_rows.free there

row_walk : (u : Unlinking) → Walks (head_of u.other) u.table.header.free_row u.layout.free_rows 0
row_walk u = walk_same (head_of u.table) (head_of u.other) u.table.header.free_row u.layout.free_rows 0
    (λ q there. ap (λ (p : Pointer). p.head) (sym (u.over.pointer_else q (free_row_away u q (free_rows_of u q there).1)))) u.sound.free_rows.walk

still_free : (u : Unlinking) → (q : ℕ) → Contains u.layout.free_rows q → IsPlace (rows_of u.other.header) q × IsFreeRow u.other q
still_free u q there =
    let f = free_rows_of u q there in
    (new_row u q f.0, ap (λ (p : Pointer). p.used) (u.over.pointer_else q (free_row_away u q f.1)) ∙ f.1)

else_free : (u : Unlinking) → (q : ℕ) → q ≢ u.row → IsPlace (rows_of u.other.header) q → IsFreeRow u.other q → Contains u.layout.free_rows q
else_free u q e in' free = u.sound.free_rows.whole q (old_row u q in') (ap (λ (p : Pointer). p.used) (sym (u.over.pointer_else q e)) ∙ free)

rows_free_stay : (u : Unlinking) → (u.before ≡ [] → u.behind ≡ [] → ⊥) → IsFreeList (rows_of u.other.header) (head_of u.other) (IsFreeRow u.other) u.layout.free_rows
rows_free_stay u stays = record {
  walk = subst (λ (p : ℕ). Walks (head_of u.other) p u.layout.free_rows 0) (sym (ap (λ (p : Places). p.front) (u.over.rows stays))) (row_walk u);
  free = all_from (λ q. IsPlace (rows_of u.other.header) q × IsFreeRow u.other q) u.layout.free_rows (still_free u);
  whole = λ q in' free. else_free u q
      (λ e. false≢true (sym free ∙ ap (λ (p : ℕ). (u.other.pointer p).used) e ∙ (row_stays u stays).1)) in' free;
}

rows_free_given : (u : Unlinking) → u.before ≡ [] → u.behind ≡ [] → IsFreeList (rows_of u.other.header) (head_of u.other) (IsFreeRow u.other) (u.row ∷ u.layout.free_rows)
rows_free_given u none end =
    let pointer = u.over.pointer_free none end in
    record {
      walk = (
        ap (λ (p : Places). p.front) (u.over.rows_given none end),
        subst (λ (p : ℕ). Walks (head_of u.other) p u.layout.free_rows 0) (sym (ap (λ (p : Pointer). p.head) pointer)) (row_walk u),
      );
      free = all_from (λ q. IsPlace (rows_of u.other.header) q × IsFreeRow u.other q) (u.row ∷ u.layout.free_rows) (λ q there. ⊎_elim
          (λ (e : u.row ≡ q). subst (λ (p : ℕ). IsPlace (rows_of u.other.header) p × IsFreeRow u.other p) e (new_row u u.row u.used.0, ap (λ (p : Pointer). p.used) pointer))
          (λ (later : Contains u.layout.free_rows q). still_free u q later)
          (contains_cases u.row q u.layout.free_rows there));
      whole = λ q in' free. ⊎_elim
          (λ (e : q ≡ u.row). subst (λ (p : ℕ). Contains (u.row ∷ u.layout.free_rows) p) (sym e) (contains_first u.row u.layout.free_rows))
          (λ (e : q ≢ u.row). contains_other u.row q u.layout.free_rows (else_free u q e in' free))
          (cases_eq q u.row);
    }

rows_free : (u : Unlinking) → IsFreeList (rows_of u.other.header) (head_of u.other) (IsFreeRow u.other) u.after.free_rows
rows_free u = ⊎_elim
    (λ (e : (u.before ≡ []) × (u.behind ≡ [])). subst (λ (l : List ℕ). IsFreeList (rows_of u.other.header) (head_of u.other) (IsFreeRow u.other) l) (sym (u.rows_given e.0 e.1)) (rows_free_given u e.0 e.1))
    (λ (stays : u.before ≡ [] → u.behind ≡ [] → ⊥). subst (λ (l : List ℕ). IsFreeList (rows_of u.other.header) (head_of u.other) (IsFreeRow u.other) l) (sym (u.rows_kept stays)) (rows_free_stay u stays))
    (stay_or_not u.before u.behind)

-- ---- the chains

behind_walk : (u : Unlinking) → Walks (next_slot u.other) (head_or u.behind 0) u.behind 0
behind_walk u =
    let s = walk_split (next_slot u.table) (head_of u.table u.row) u.before (u.gone ++ u.behind) 0 (old_walk u) in
    let t = walk_split (next_slot u.table) s.0 u.gone u.behind 0 s.2 in
    let from : Walks (next_slot u.table) (head_or u.behind 0) u.behind 0 = subst (λ (p : ℕ). Walks (next_slot u.table) p u.behind 0) (walk_head (next_slot u.table) t.0 u.behind t.2) t.2 in
    walk_same (next_slot u.table) (next_slot u.other) (head_or u.behind 0) u.behind 0
    (λ n there. ap (λ (s : Slot). s.next) (sym (u.over.slot_else n
    (λ here. apart_both u.gone u.behind (apart_rest u.before (u.gone ++ u.behind) (apart u)) n here there)
    (λ some e. apart_both u.before (u.gone ++ u.behind) (apart u) n (subst (λ (p : ℕ). Contains u.before p) (sym e) (last_there u.before some)) (Contains-append_right u.gone u.behind n there)))))
    from

left_walk : (u : Unlinking) → (u.before ≡ [] → u.behind ≡ [] → ⊥) → Walks (next_slot u.other) (head_of u.other u.row) (u.before ++ u.behind) 0
left_walk u stays = ⊎_elim
    (λ (none : u.before ≡ []).
    subst (λ (l : List ℕ). Walks (next_slot u.other) (head_of u.other u.row) (l ++ u.behind) 0) (sym none)
    (subst (λ (p : ℕ). Walks (next_slot u.other) p u.behind 0) (sym (ap (λ (p : Pointer). p.head) (u.over.pointer_behind none (stays none)))) (behind_walk u)))
    (λ (some : u.before ≢ []).
    let s = walk_split (next_slot u.table) (head_of u.table u.row) u.before (u.gone ++ u.behind) 0 (old_walk u) in
    let front : Walks (next_slot u.other) (head_of u.table u.row) u.before (head_or u.behind 0) =
    walk_relinked (next_slot u.table) (next_slot u.other) (head_of u.table u.row) u.before s.0 (head_or u.behind 0) (apart_front u.before (u.gone ++ u.behind) (apart u)) some
    (λ n there not_last. ap (λ (s : Slot). s.next) (sym (u.over.slot_else n
    (λ here. apart_both u.before (u.gone ++ u.behind) (apart u) n there (Contains-append_left u.gone u.behind n here)) (λ _. not_last))))
    (ap (λ (s : Slot). s.next) (u.over.slot_last some)) s.1 in
    subst (λ (p : ℕ). Walks (next_slot u.other) p (u.before ++ u.behind) 0) (sym (ap (λ (p : Pointer). p.head) (u.over.pointer_before some)))
    (walk_join (next_slot u.other) (head_of u.table u.row) u.before (head_or u.behind 0) u.behind 0 front (behind_walk u)))
    (none_or_some u.before)

left_some : (u : Unlinking) → (u.before ≡ [] → u.behind ≡ [] → ⊥) → (u.before ++ u.behind) ≢ []
left_some u stays e = let b = both_none u.before u.behind e in stays b.0 b.1

left_key : (u : Unlinking) → (u.before ≡ [] → u.behind ≡ [] → ⊥) → key_of u.other u.row ≡ key_of u.table u.row
left_key u stays =
    let head = head_of u.other u.row in
    let l = left_stays u head (head_in (next_slot u.other) head (u.before ++ u.behind) (left_walk u stays) (left_some u stays)) in
    (kept u head l.0).its_key ∙ (varies u head l.1).its_key

left_chain : (u : Unlinking) → (u.before ≡ [] → u.behind ≡ [] → ⊥) → IsChain u.other u.row (u.before ++ u.behind)
left_chain u stays = record {
  walk = left_walk u stays;
  some = left_some u stays;
  variations = all_from (IsVariation u.other u.row) (u.before ++ u.behind) (λ n there.
      let l = left_stays u n there in
      let v = varies u n l.1 in
      let k = kept u n l.0 in
      record {
        place = new_slot u n v.place;
        used = λ free. v.used (sym k.state ∙ free);
        its_row = k.its_row ∙ v.its_row;
        its_key = k.its_key ∙ v.its_key ∙ sym (left_key u stays);
      });
}

-- the slots of another chain
else_away : (u : Unlinking) → (q n : ℕ) → q ≢ u.row → IsVariation u.table q n → u.other.slot n ≡ u.table.slot n
else_away u q n e v = outside u n (λ whole. e (sym v.its_row ∙ (varies u n whole).its_row))

else_varies : (u : Unlinking) → (q : ℕ) → IsUsedRow u.table q → (n : ℕ) → Contains (u.layout.chain q) n → IsVariation u.table q n
else_varies u q used n there = All-contains (IsVariation u.table q) (u.layout.chain q) n (u.sound.chains q used).variations there

else_key : (u : Unlinking) → (q : ℕ) → q ≢ u.row → IsUsedRow u.table q → key_of u.other q ≡ key_of u.table q
else_key u q e used =
    let c = u.sound.chains q used in
    let v = else_varies u q used (head_of u.table q) (head_in (next_slot u.table) (head_of u.table q) (u.layout.chain q) c.walk c.some) in
    ap (λ (p : Pointer). (u.other.slot p.head).key) (u.over.pointer_else q e) ∙ ap (λ (s : Slot). s.key) (else_away u q (head_of u.table q) e v)

else_chain : (u : Unlinking) → (q : ℕ) → q ≢ u.row → IsUsedRow u.table q → IsChain u.other q (u.layout.chain q)
else_chain u q e used =
    let c = u.sound.chains q used in
    record {
      walk = subst (λ (p : ℕ). Walks (next_slot u.other) p (u.layout.chain q) 0) (sym (ap (λ (p : Pointer). p.head) (u.over.pointer_else q e)))
          (walk_same (next_slot u.table) (next_slot u.other) (head_of u.table q) (u.layout.chain q) 0
          (λ n there. ap (λ (s : Slot). s.next) (sym (else_away u q n e (else_varies u q used n there)))) c.walk);
      some = c.some;
      variations = all_from (IsVariation u.other q) (u.layout.chain q) (λ n there.
          let v = else_varies u q used n there in
          let same = else_away u q n e v in
          record {
            place = new_slot u n v.place;
            used = λ free. v.used (sym (ap (λ (s : Slot). s.state) same) ∙ free);
            its_row = ap (λ (s : Slot). s.row) same ∙ v.its_row;
            its_key = ap (λ (s : Slot). s.key) same ∙ v.its_key ∙ sym (else_key u q e used);
          });
    }

all_keys : (u : Unlinking) → (q : ℕ) → IsUsedRow u.other q → key_of u.other q ≡ key_of u.table q
all_keys u q used = ⊎_elim
    (λ (e : q ≡ u.row). subst (λ (p : ℕ). key_of u.other p ≡ key_of u.table p) (sym e) (left_key u (row_used u (subst (λ (p : ℕ). IsUsedRow u.other p) e used))))
    (λ (e : q ≢ u.row). else_key u q e (old_used u q used))
    (cases_eq q u.row)

all_chains : (u : Unlinking) → (q : ℕ) → IsUsedRow u.other q → IsChain u.other q (u.after.chain q)
all_chains u q used = ⊎_elim
    (λ (e : q ≡ u.row). subst (λ (p : ℕ). IsChain u.other p (u.after.chain p)) (sym e)
    (subst (λ (l : List ℕ). IsChain u.other u.row l) (sym u.chain_left) (left_chain u (row_used u (subst (λ (p : ℕ). IsUsedRow u.other p) e used)))))
    (λ (e : q ≢ u.row). subst (λ (l : List ℕ). IsChain u.other q l) (sym (u.chain_else q e)) (else_chain u q e (old_used u q used)))
    (cases_eq q u.row)

all_none : (u : Unlinking) → (q : ℕ) → (IsUsedRow u.other q → ⊥) → u.after.chain q ≡ []
all_none u q unused = ⊎_elim
    (λ (e : q ≡ u.row). ap (λ (p : ℕ). u.after.chain p) e ∙ u.chain_left ∙ ⊎_elim
    (λ (none : (u.before ≡ []) × (u.behind ≡ [])). ap (λ (l : List ℕ). l ++ u.behind) none.0 ∙ none.1)
    (λ (stays : u.before ≡ [] → u.behind ≡ [] → ⊥). absurd (unused (subst (λ (p : ℕ). IsUsedRow u.other p) (sym e) (row_stays u stays))))
    (stay_or_not u.before u.behind))
    (λ (e : q ≢ u.row). u.chain_else q e ∙ u.sound.no_chain q (λ used. unused (else_used u q e used)))
    (cases_eq q u.row)

all_linked : (u : Unlinking) → (n : ℕ) → IsSlot u.other n → (IsFreeSlot u.other n → ⊥) → IsUsedRow u.other (u.other.slot n).row × Contains (u.after.chain (u.other.slot n).row) n
all_linked u n in' used =
    let stays : Contains u.gone n → ⊥ = λ there. used (gone_free u n there) in
    let k = kept u n stays in
    let l = u.sound.linked n (old_slot u n in') (λ free. used (k.state ∙ free)) in
    let both : IsUsedRow u.other (u.table.slot n).row × Contains (u.after.chain (u.table.slot n).row) n = ⊎_elim
    (λ (here : (u.table.slot n).row ≡ u.row).
    let whole : Contains (u.before ++ (u.gone ++ u.behind)) n = subst (λ (c : List ℕ). Contains c n) u.chain (subst (λ (p : ℕ). Contains (u.layout.chain p) n) here l.1) in
    let left : Contains (u.before ++ u.behind) n = ⊎_elim
    (λ (a : Contains u.before n). Contains-append_left u.before u.behind n a)
    (λ (b : Contains (u.gone ++ u.behind) n). ⊎_elim (λ (c : Contains u.gone n). absurd (stays c)) (λ (c : Contains u.behind n). Contains-append_right u.before u.behind n c)
    (Contains-append_cases u.gone u.behind n b))
    (Contains-append_cases u.before (u.gone ++ u.behind) n whole) in (
      subst (λ (p : ℕ). IsUsedRow u.other p) (sym here) (row_stays u (some_left u n left)),
      subst (λ (p : ℕ). Contains (u.after.chain p) n) (sym here) (subst (λ (c : List ℕ). Contains c n) (sym u.chain_left) left),
    ))
    (λ (away : (u.table.slot n).row ≢ u.row).
    (else_used u (u.table.slot n).row away l.0, subst (λ (c : List ℕ). Contains c n) (sym (u.chain_else (u.table.slot n).row away)) l.1))
    (cases_eq (u.table.slot n).row u.row) in
    (subst (λ (p : ℕ). IsUsedRow u.other p) (sym k.its_row) both.0, subst (λ (p : ℕ). Contains (u.after.chain p) n) (sym k.its_row) both.1)

sound_unlinked : (u : Unlinking) → IsSound u.short u.other u.after
sound_unlinked u = record {
  form = forms u;
  free_slots = subst (λ (l : List ℕ). IsFreeList (slots_of u.other.header) (next_slot u.other) (IsFreeSlot u.other) l) (sym u.slots_given) (slots_free u);
  free_rows = rows_free u;
  chains = all_chains u;
  no_chain = all_none u;
  linked = all_linked u;
  keys = λ q p q_used p_used same. u.sound.keys q p (old_used u q q_used) (old_used u p p_used) (sym (all_keys u q q_used) ∙ same ∙ all_keys u p p_used);
}

-- ---- a part of a row's chain

pub parts_split : (table : Table) (chain : List ℕ) (from count : ℕ)
    → parts_of (chain_of table chain) from count ≡ parts_at table (take from chain) (take count (drop from chain)) (drop count (drop from chain))
parts_split table chain from count =
    let at = λ (n : ℕ). linked_at table n in
    let before : take from (map at chain) ≡ map at (take from chain) = take-map at from chain in
    let rest : drop from (map at chain) ≡ map at (drop from chain) = drop-map at from chain in
    let gone : take count (drop from (map at chain)) ≡ map at (take count (drop from chain)) = ap (λ (l : List Linked). take count l) rest ∙ take-map at count (drop from chain) in
    let behind : drop count (drop from (map at chain)) ≡ map at (drop count (drop from chain)) = ap (λ (l : List Linked). drop count l) rest ∙ drop-map at count (drop from chain) in
    ap (λ (l : List Linked). parts l (take count (drop from (map at chain))) (drop count (drop from (map at chain)))) before
    ∙ ap (λ (l : List Linked). parts (map at (take from chain)) l (drop count (drop from (map at chain)))) gone
    ∙ ap (λ (l : List Linked). parts (map at (take from chain)) (map at (take count (drop from chain))) l) behind
  where
    linked_at : Table → ℕ → Linked
    linked_at table n = record { number = n; slot = table.slot n }

    parts : List Linked → List Linked → List Linked → Parts
    parts before gone behind = record { before = before; gone = gone; behind = behind }

free_stay : (left : List ℕ) (row : ℕ) (free : List ℕ) → left ≢ [] → (cond (is_empty left) (row ∷ free) free) ≡ free
free_stay [] row free some = absurd (some refl)
free_stay (x ∷ xs) row free some = refl

free_given : (left : List ℕ) (row : ℕ) (free : List ℕ) → left ≡ [] → (cond (is_empty left) (row ∷ free) free) ≡ row ∷ free
free_given [] row free none = refl
free_given (x ∷ xs) row free none = cc

abbrev unlinking : (short : ℕ) (table : Table) (layout : Layout) (row from count : ℕ) → IsSound short table layout → IsUsedRow table row
    → 1 ≤ count → from + count ≤ length (layout.chain row) → Unlinking
unlinking short table layout row from count sound used some within =
    let chain = layout.chain row in
    let before = take from chain in
    let gone = take count (drop from chain) in
    let behind = drop count (drop from chain) in
    let c = sound.chains row used in
    let whole : before ++ (gone ++ behind) ≡ chain = ap (λ (l : List ℕ). before ++ l) (take-append-drop count (drop from chain)) ∙ take-append-drop from chain in
    let v : (n : ℕ) → Contains (before ++ (gone ++ behind)) n → IsVariation table row n = λ n there.
    All-contains (IsVariation table row) chain n c.variations (subst (λ (l : List ℕ). Contains l n) whole there) in
    let alone : IsApart (before ++ (gone ++ behind)) = apart_walk (next_slot table) (head_of table row) (before ++ (gone ++ behind))
    (all_from (λ place. 1 ≤ place) (before ++ (gone ++ behind)) (λ n there. (v n there).place.0))
    (subst (λ (l : List ℕ). Walks (next_slot table) (head_of table row) l 0) (sym whole) c.walk) in
    let long : length gone ≡ count = length-take-le count (drop from chain) (let d = length-drop from chain in omega (arith, d)) in
    let gone_some : gone ≢ [] = λ e. let none = ap length e in absurd (omega (arith, none, long)) in
    let over = unlinked_over table row before gone behind alone gone_some
    (λ n there. (v n (Contains-append_right before (gone ++ behind) n (Contains-append_left gone behind n there))).its_row) in
    let other = laid table (unlink_cells table.header (parts_at table before gone behind)) in
    let after = unlinked layout row from count in
    record {
      short = short;
      table = table;
      other = other;
      layout = layout;
      after = after;
      row = row;
      before = before;
      gone = gone;
      behind = behind;
      sound = sound;
      used = used;
      chain = sym whole;
      over = over;
      chain_left = rw (eq-eqb row row refl) refl;
      chain_else = λ q e. rw (ne_eqb q row e) refl;
      slots_given = refl;
      rows_kept = λ stays. free_stay (before ++ behind) row layout.free_rows (λ e. let b = both_none before behind e in stays b.0 b.1);
      rows_given = λ none end. free_given (before ++ behind) row layout.free_rows (ap (λ (l : List ℕ). l ++ behind) none ∙ end);
    }

pub part_unlinked : (short : ℕ) (table : Table) (layout : Layout) (row from count : ℕ) → IsSound short table layout → IsUsedRow table row
    → 1 ≤ count → from + count ≤ length (layout.chain row)
    → IsSound short (laid table (unlink_cells table.header (parts_of (chain_of table (layout.chain row)) from count))) (unlinked layout row from count)
part_unlinked short table layout row from count sound used some within =
    subst (λ (p : Parts). IsSound short (laid table (unlink_cells table.header p)) (unlinked layout row from count)) (sym (parts_split table (layout.chain row) from count))
    (sound_unlinked (unlinking short table layout row from count sound used some within))

pub part_kept : (short : ℕ) (table : Table) (layout : Layout) (row from count slot : ℕ) → IsSound short table layout → IsUsedRow table row
    → 1 ≤ count → from + count ≤ length (layout.chain row) → (Contains (take count (drop from (layout.chain row))) slot → ⊥)
    → IsSameVariation (table.slot slot) ((laid table (unlink_cells table.header (parts_of (chain_of table (layout.chain row)) from count))).slot slot)
part_kept short table layout row from count slot sound used some within stays =
    subst (λ (p : Parts). IsSameVariation (table.slot slot) ((laid table (unlink_cells table.header p)).slot slot)) (sym (parts_split table (layout.chain row) from count))
    (kept (unlinking short table layout row from count sound used some within) slot stays).all

none_emptied : (table : Table) (before gone behind : List ℕ) → (before ≡ [] → behind ≡ [] → ⊥) → is_emptied (parts_at table before gone behind) ≡ false
none_emptied table [] gone [] stays = absurd (stays refl refl)
none_emptied table [] gone (y ∷ ys) stays = refl
none_emptied table (x ∷ xs) gone behind stays = refl

rows_left : (u : Unlinking) (q : ℕ) → IsUsedRow u.other q ↔ (IsUsedRow u.table q × (q ≡ u.row → is_emptied (parts_at u.table u.before u.gone u.behind) ≡ false))
rows_left u q = (
  λ used. (old_used u q used, λ e. none_emptied u.table u.before u.gone u.behind (row_used u (subst (λ (p : ℕ). IsUsedRow u.other p) e used))),
  λ was. ⊎_elim
      (λ (e : q ≡ u.row). subst (λ (p : ℕ). IsUsedRow u.other p) (sym e) (row_stays u (λ none end.
      true≢false (sym (both_emptied u.table u.before u.gone u.behind none end) ∙ was.1 e))))
      (λ (ne : q ≢ u.row). else_used u q ne was.0)
      (cases_eq q u.row),
)
  where
    both_emptied : (table : Table) (before gone behind : List ℕ) → before ≡ [] → behind ≡ [] → is_emptied (parts_at table before gone behind) ≡ true
    both_emptied table [] gone [] none end = refl
    both_emptied table [] gone (y ∷ ys) none end = cc
    both_emptied table (x ∷ xs) gone behind none end = cc

pub part_rows : (short : ℕ) (table : Table) (layout : Layout) (row from count other : ℕ) → IsSound short table layout → IsUsedRow table row
    → 1 ≤ count → from + count ≤ length (layout.chain row)
    → IsUsedRow (laid table (unlink_cells table.header (parts_of (chain_of table (layout.chain row)) from count))) other
    ↔ (IsUsedRow table other × (other ≡ row → is_emptied (parts_of (chain_of table (layout.chain row)) from count) ≡ false))
part_rows short table layout row from count other sound used some within =
    subst (λ (p : Parts). IsUsedRow (laid table (unlink_cells table.header p)) other ↔ (IsUsedRow table other × (other ≡ row → is_emptied p ≡ false)))
    (sym (parts_split table (layout.chain row) from count)) (rows_left (unlinking short table layout row from count sound used some within) other)

pub part_keys : (short : ℕ) (table : Table) (layout : Layout) (row from count other : ℕ) → IsSound short table layout → IsUsedRow table row
    → 1 ≤ count → from + count ≤ length (layout.chain row)
    → IsUsedRow (laid table (unlink_cells table.header (parts_of (chain_of table (layout.chain row)) from count))) other
    → key_of (laid table (unlink_cells table.header (parts_of (chain_of table (layout.chain row)) from count))) other ≡ key_of table other
part_keys short table layout row from count other sound used some within =
    subst (λ (p : Parts). IsUsedRow (laid table (unlink_cells table.header p)) other → key_of (laid table (unlink_cells table.header p)) other ≡ key_of table other)
    (sym (parts_split table (layout.chain row) from count)) (all_keys (unlinking short table layout row from count sound used some within) other)
