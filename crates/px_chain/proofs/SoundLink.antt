-- Cells of a link, laid over sound cells, are sound.
use Rattle.std.proofs.Common.{◌≡◌, ◌≢◌, ℕ, true, IsTrue, List, [], ◌∷◌, drop, refl, sym, ap, subst, ◌∙◌, arith, ⊎_elim}
use Rattle.std.specs.Prelude.{Contains}
use Rattle.std.proofs.lemmas.Bool.{cases_eq, eq-eqb, ne_eqb, false≢true}
use Rattle.std.proofs.lemmas.List.Elements.{All-contains}
use Rattle.px_cells.specs.declared.header.Header.{Header}
use Rattle.px_cells.specs.declared.pointer.Pointer.{Pointer}
use Rattle.px_cells.specs.declared.slot.Slot.{Slot}
use Rattle.px_cells.specs.declared.slot.SlotState.TheVariants.{Free}
use Rattle.px_cells.specs.Form.{is_slot}
use Rattle.px_free.specs.Places.{Places, slots_of, rows_of, next_place}
use Rattle.px_chain.specs.Table.{Table, laid}
use Rattle.px_chain.specs.Sound.{Walks, IsPlace, IsFreeList, IsSlot, IsFreeSlot, next_slot, IsFreeRow, IsUsedRow, head_of, key_of, IsVariation, IsChain, Layout, IsSound}
use Rattle.px_chain.specs.Links.{link_cells, linked, slot_taken, row_taken, IsStored, BeginsRow, VariesRow}
use Rattle.px_chain.proofs.Walks.{all_from, contains_first, contains_other, contains_cases, contains_none, walk_same}
use Rattle.px_chain.proofs.FreeLists.{IsTaken, taken}

-- the other table has another slot at one place, and another pointer that heads a chain with it
pub record IsOver (table other : Table) (number row : ℕ) (slot : Slot) : Type 0 where
  pub slot_at : other.slot number ≡ slot
  pub slot_else : (n : ℕ) → n ≢ number → other.slot n ≡ table.slot n
  pub pointer_at : other.pointer row ≡ record { used = true; head = number }
  pub pointer_else : (n : ℕ) → n ≢ row → other.pointer n ≡ table.pointer n

pub over_laid : (table : Table) (header : Header) (number : ℕ) (slot : Slot) → IsOver table (laid table (link_cells header number slot)) number slot.row slot
over_laid table header number slot = record {
  slot_at = rw (eq-eqb number number refl) refl;
  slot_else = λ n other. rw (ne_eqb n number other) refl;
  pointer_at = rw (eq-eqb slot.row slot.row refl) refl;
  pointer_else = λ n other. rw (ne_eqb n slot.row other) refl;
}

-- what both kinds of link know of the row that gets the slot
pub record IsReady (table other : Table) (layout : Layout) (row : ℕ) (slot : Slot) : Type 0 where
  pub its_row : slot.row ≡ row
  pub place : IsPlace (rows_of other.header) row
  pub walk : Walks (next_slot table) slot.next (layout.chain row) 0
  pub variations : (n : ℕ) → Contains (layout.chain row) n → IsSlot table n × (IsFreeSlot table n → ⊥) × ((table.slot n).row ≡ row) × ((table.slot n).key ≡ slot.key)
  pub keys : (q : ℕ) → q ≢ row → IsUsedRow table q → key_of table q ≡ slot.key → ⊥
  pub used : (q : ℕ) → q ≢ row → IsUsedRow table q → IsUsedRow other q
  pub was_used : (q : ℕ) → q ≢ row → IsUsedRow other q → IsUsedRow table q

-- the first place of a chain
pub head_in : (next : ℕ → ℕ) (from : ℕ) (list : List ℕ) → Walks next from list 0 → list ≢ [] → Contains list from
head_in next from [] walk some = absurd (some refl)
head_in next from (x ∷ xs) walk some = subst (λ (p : ℕ). Contains (x ∷ xs) p) (sym walk.0) (contains_first x xs)

cons_some : (x : ℕ) (xs : List ℕ) → (x ∷ xs) ≢ []
cons_some x xs e = cc

chain_at : (layout : Layout) (number row : ℕ) → (linked layout number row).chain row ≡ number ∷ layout.chain row
chain_at layout number row = rw (eq-eqb row row refl) refl

chain_else : (layout : Layout) (number row q : ℕ) → q ≢ row → (linked layout number row).chain q ≡ layout.chain q
chain_else layout number row q other = rw (ne_eqb q row other) refl

pub sound_linked : (short : ℕ) (table other : Table) (layout after : Layout) (number row : ℕ) (slot : Slot)
    → IsSound short table layout
    → IsOver table other number row slot
    → IsTaken (slots_of table.header) (slots_of other.header) number (next_slot table) (IsFreeSlot table) after.free_slots
    → IsFreeList (rows_of other.header) (head_of other) (IsFreeRow other) after.free_rows
    → IsReady table other layout row slot
    → IsTrue (is_slot short slot) → slot.state ≢ Free
    → after.chain row ≡ number ∷ layout.chain row → ((q : ℕ) → q ≢ row → after.chain q ≡ layout.chain q)
    → IsSound short other after
sound_linked short table other layout after number row slot sound over slots rows ready in_form not_free at_row at_else =
    let states : (n : ℕ) → n ≢ number → (other.slot n).state ≡ (table.slot n).state = λ n apart. ap (λ (s : Slot). s.state) (over.slot_else n apart) in
    let number_used : IsFreeSlot other number → ⊥ = λ free. not_free (sym (ap (λ (s : Slot). s.state) over.slot_at) ∙ free) in
    let grown : (n : ℕ) → IsSlot table n → IsSlot other n = λ n in'. (in'.0, let g = slots.grows in omega (arith, in'.1)) in
    let row_used : IsUsedRow other row = (ready.place, ap (λ (p : Pointer). p.used) over.pointer_at) in
    let head_here : head_of other row ≡ number = ap (λ (p : Pointer). p.head) over.pointer_at in
    let key_here : key_of other row ≡ slot.key = ap (λ (n : ℕ). (other.slot n).key) head_here ∙ ap (λ (s : Slot). s.key) over.slot_at in
    -- what is in a chain isn't the new slot
    let apart : (n : ℕ) → IsSlot table n → (IsFreeSlot table n → ⊥) → n ≢ number = λ n in' used e.
    used (subst (λ (m : ℕ). IsFreeSlot table m) (sym e) (slots.was_free (subst (λ (m : ℕ). IsSlot table m) e in'))) in
    let head_apart : (q : ℕ) → IsUsedRow table q → head_of table q ≢ number = λ q used.
    let c = sound.chains q used in
    let v = All-contains (IsVariation table q) (layout.chain q) (head_of table q) c.variations (head_in (next_slot table) (head_of table q) (layout.chain q) c.walk c.some) in
    apart (head_of table q) v.place v.used in
    let head_else : (q : ℕ) → q ≢ row → head_of other q ≡ head_of table q = λ q e. ap (λ (p : Pointer). p.head) (over.pointer_else q e) in
    let key_else : (q : ℕ) → q ≢ row → IsUsedRow table q → key_of other q ≡ key_of table q = λ q e used.
    ap (λ (n : ℕ). (other.slot n).key) (head_else q e) ∙ ap (λ (s : Slot). s.key) (over.slot_else (head_of table q) (head_apart q used)) in
    record {
      form = λ n in'. ⊎_elim
          (λ (e : n ≡ number). subst (λ (s : Slot). IsTrue (is_slot short s)) (sym (ap (λ (m : ℕ). other.slot m) e ∙ over.slot_at)) in_form)
          (λ (e : n ≢ number). subst (λ (s : Slot). IsTrue (is_slot short s)) (sym (over.slot_else n e)) (sound.form n (slots.old_place n in' e)))
          (cases_eq n number);
      free_slots = record {
        walk = walk_same (next_slot table) (next_slot other) (slots_of other.header).front after.free_slots 0
            (λ n there. ap (λ (s : Slot). s.next) (sym (over.slot_else n (λ e. slots.apart (subst (λ (m : ℕ). Contains after.free_slots m) e there))))) slots.walk;
        free = all_from (λ place. IsPlace (slots_of other.header) place × IsFreeSlot other place) after.free_slots (λ n there.
            let f = slots.free n there in
            (grown n f.0, states n (λ e. slots.apart (subst (λ (m : ℕ). Contains after.free_slots m) e there)) ∙ f.1));
        whole = λ n in' free.
            let e : n ≢ number = λ same. number_used (subst (λ (m : ℕ). IsFreeSlot other m) same free) in
            slots.whole n (slots.old_place n in' e) (sym (states n e) ∙ free) e;
      };
      free_rows = rows;
      chains = λ q used. ⊎_elim
          (λ (e : q ≡ row). subst (λ (p : ℕ). IsChain other p (after.chain p)) (sym e) (subst (λ (l : List ℕ). IsChain other row l) (sym at_row) (record {
            walk = (
              head_here,
              subst (λ (p : ℕ). Walks (next_slot other) p (layout.chain row) 0) (sym (ap (λ (s : Slot). s.next) over.slot_at))
                  (walk_same (next_slot table) (next_slot other) slot.next (layout.chain row) 0
                  (λ n there. let v = ready.variations n there in ap (λ (s : Slot). s.next) (sym (over.slot_else n (apart n v.0 v.1)))) ready.walk),
            );
            some = cons_some number (layout.chain row);
            variations = all_from (IsVariation other row) (number ∷ layout.chain row) (λ n there. ⊎_elim
                (λ (is : number ≡ n). subst (λ (m : ℕ). IsVariation other row m) is (record {
                  place = slots.itself;
                  used = number_used;
                  its_row = ap (λ (s : Slot). s.row) over.slot_at ∙ ready.its_row;
                  its_key = ap (λ (s : Slot). s.key) over.slot_at ∙ sym key_here;
                }))
                (λ (later : Contains (layout.chain row) n).
                let v = ready.variations n later in
                let away = apart n v.0 v.1 in
                record {
                  place = grown n v.0;
                  used = λ free. v.1 (sym (states n away) ∙ free);
                  its_row = ap (λ (s : Slot). s.row) (over.slot_else n away) ∙ v.2;
                  its_key = ap (λ (s : Slot). s.key) (over.slot_else n away) ∙ v.3 ∙ sym key_here;
                })
                (contains_cases number n (layout.chain row) there));
          })))
          (λ (e : q ≢ row).
          let was = ready.was_used q e used in
          let c = sound.chains q was in
          subst (λ (l : List ℕ). IsChain other q l) (sym (at_else q e)) (record {
            walk = subst (λ (p : ℕ). Walks (next_slot other) p (layout.chain q) 0) (sym (head_else q e))
                (walk_same (next_slot table) (next_slot other) (head_of table q) (layout.chain q) 0
                (λ n there. let v = All-contains (IsVariation table q) (layout.chain q) n c.variations there in
                ap (λ (s : Slot). s.next) (sym (over.slot_else n (apart n v.place v.used)))) c.walk);
            some = c.some;
            variations = all_from (IsVariation other q) (layout.chain q) (λ n there.
                let v = All-contains (IsVariation table q) (layout.chain q) n c.variations there in
                let away = apart n v.place v.used in
                record {
                  place = grown n v.place;
                  used = λ free. v.used (sym (states n away) ∙ free);
                  its_row = ap (λ (s : Slot). s.row) (over.slot_else n away) ∙ v.its_row;
                  its_key = ap (λ (s : Slot). s.key) (over.slot_else n away) ∙ v.its_key ∙ sym (key_else q e was);
                });
          }))
          (cases_eq q row);
      no_chain = λ q unused.
          let e : q ≢ row = λ same. unused (subst (λ (p : ℕ). IsUsedRow other p) (sym same) row_used) in
          at_else q e ∙ sound.no_chain q (λ used. unused (ready.used q e used));
      linked = λ n in' used. ⊎_elim
          (λ (e : n ≡ number).
          let to_row : (other.slot n).row ≡ row = ap (λ (m : ℕ). (other.slot m).row) e ∙ ap (λ (s : Slot). s.row) over.slot_at ∙ ready.its_row in
          let there : Contains (after.chain row) n = subst (λ (l : List ℕ). Contains l n) (sym at_row)
          (subst (λ (m : ℕ). Contains (number ∷ layout.chain row) m) (sym e) (contains_first number (layout.chain row))) in
          (subst (λ (p : ℕ). IsUsedRow other p) (sym to_row) row_used, subst (λ (p : ℕ). Contains (after.chain p) n) (sym to_row) there))
          (λ (e : n ≢ number).
          let l = sound.linked n (slots.old_place n in' e) (λ free. used (states n e ∙ free)) in
          let same : (other.slot n).row ≡ (table.slot n).row = ap (λ (s : Slot). s.row) (over.slot_else n e) in
          let both : IsUsedRow other (table.slot n).row × Contains (after.chain (table.slot n).row) n = ⊎_elim
          (λ (here : (table.slot n).row ≡ row).
          let there : Contains (after.chain row) n = subst (λ (l : List ℕ). Contains l n) (sym at_row)
          (contains_other number n (layout.chain row) (subst (λ (p : ℕ). Contains (layout.chain p) n) here l.1)) in
          (subst (λ (p : ℕ). IsUsedRow other p) (sym here) row_used, subst (λ (p : ℕ). Contains (after.chain p) n) (sym here) there))
          (λ (away : (table.slot n).row ≢ row).
          (ready.used (table.slot n).row away l.0, subst (λ (c : List ℕ). Contains c n) (sym (at_else (table.slot n).row away)) l.1))
          (cases_eq (table.slot n).row row) in
          (subst (λ (p : ℕ). IsUsedRow other p) (sym same) both.0, subst (λ (p : ℕ). Contains (after.chain p) n) (sym same) both.1))
          (cases_eq n number);
      keys = λ q p q_used p_used same. ⊎_elim
          (λ (e : q ≡ row). ⊎_elim
          (λ (f : p ≡ row). e ∙ sym f)
          (λ (f : p ≢ row). let was = ready.was_used p f p_used in
          absurd (ready.keys p f was (sym (key_else p f was) ∙ sym same ∙ ap (λ (m : ℕ). key_of other m) e ∙ key_here)))
          (cases_eq p row))
          (λ (e : q ≢ row). let q_was = ready.was_used q e q_used in ⊎_elim
          (λ (f : p ≡ row). absurd (ready.keys q e q_was (sym (key_else q e q_was) ∙ same ∙ ap (λ (m : ℕ). key_of other m) f ∙ key_here)))
          (λ (f : p ≢ row). let p_was = ready.was_used p f p_used in
          sound.keys q p q_was p_was (sym (key_else q e q_was) ∙ same ∙ key_else p f p_was))
          (cases_eq p row))
          (cases_eq q row);
    }

-- free rows of which none is this one stay free
rows_kept : (table other : Table) (number row : ℕ) (slot : Slot) (list : List ℕ) → IsOver table other number row slot
    → IsTaken (rows_of table.header) (rows_of other.header) row (head_of table) (IsFreeRow table) list
    → IsFreeList (rows_of other.header) (head_of other) (IsFreeRow other) list
rows_kept table other number row slot list over t =
    let away : (q : ℕ) → Contains list q → q ≢ row = λ q there e. t.apart (subst (λ (p : ℕ). Contains list p) e there) in
    record {
      walk = walk_same (head_of table) (head_of other) (rows_of other.header).front list 0
          (λ q there. ap (λ (p : Pointer). p.head) (sym (over.pointer_else q (away q there)))) t.walk;
      free = all_from (λ q. IsPlace (rows_of other.header) q × IsFreeRow other q) list (λ q there.
          let f = t.free q there in
          ((f.0.0, let g = t.grows in omega (arith, f.0.1)), ap (λ (p : Pointer). p.used) (over.pointer_else q (away q there)) ∙ f.1));
      whole = λ q in' free.
          let e : q ≢ row = λ same. false≢true (sym free ∙ ap (λ (p : ℕ). (other.pointer p).used) same ∙ ap (λ (p : Pointer). p.used) over.pointer_at) in
          t.whole q (t.old_place q in' e) (ap (λ (p : Pointer). p.used) (sym (over.pointer_else q e)) ∙ free) e;
    }

pub row_begun : (short : ℕ) (table : Table) (layout : Layout) (header : Header) (slot : Slot) → IsSound short table layout → IsStored short slot → BeginsRow table header slot
    → IsSound short (laid table (link_cells header (next_place (slots_of table.header)) slot)) (linked (row_taken (slot_taken layout)) (next_place (slots_of table.header)) slot.row)
row_begun short table layout header slot sound stored begins =
    let number = next_place (slots_of table.header) in
    let row = slot.row in
    let other = laid table (link_cells header number slot) in
    let over = over_laid table header number slot in
    let after = linked (row_taken (slot_taken layout)) number row in
    let s = taken (slots_of table.header) (slots_of header) (next_slot table) (IsFreeSlot table) layout.free_slots sound.free_slots begins.slots in
    let t = subst (λ (p : ℕ). IsTaken (rows_of table.header) (rows_of header) p (head_of table) (IsFreeRow table) (drop 1 layout.free_rows)) (sym begins.its_row)
    (taken (rows_of table.header) (rows_of header) (head_of table) (IsFreeRow table) layout.free_rows sound.free_rows begins.rows) in
    let none : layout.chain row ≡ [] = sound.no_chain row (λ used. false≢true (sym (t.was_free used.0) ∙ used.1)) in
    let ready : IsReady table other layout row slot = record {
      its_row = refl;
      place = t.itself;
      walk = subst (λ (l : List ℕ). Walks (next_slot table) slot.next l 0) (sym none) begins.next;
      variations = λ n there. absurd (contains_none n (subst (λ (l : List ℕ). Contains l n) none there));
      keys = λ q e used same. begins.its_key q used same;
      used = λ q e used. ((used.0.0, let g = t.grows in omega (arith, used.0.1)), ap (λ (p : Pointer). p.used) (over.pointer_else q e) ∙ used.1);
      was_used = λ q e used. (t.old_place q used.0 e, ap (λ (p : Pointer). p.used) (sym (over.pointer_else q e)) ∙ used.1);
    } in
    sound_linked short table other layout after number row slot sound over s (rows_kept table other number row slot (drop 1 layout.free_rows) over t) ready
    stored.form stored.used (chain_at layout number row) (chain_else layout number row)

pub row_varied : (short : ℕ) (table : Table) (layout : Layout) (header : Header) (slot : Slot) → IsSound short table layout → IsStored short slot → VariesRow table header slot
    → IsSound short (laid table (link_cells header (next_place (slots_of table.header)) slot)) (linked (slot_taken layout) (next_place (slots_of table.header)) slot.row)
row_varied short table layout header slot sound stored varies =
    let number = next_place (slots_of table.header) in
    let row = slot.row in
    let other = laid table (link_cells header number slot) in
    let over = over_laid table header number slot in
    let after = linked (slot_taken layout) number row in
    let s = taken (slots_of table.header) (slots_of header) (next_slot table) (IsFreeSlot table) layout.free_slots sound.free_slots varies.slots in
    let same : (q : ℕ) → IsPlace (rows_of header) q → IsPlace (rows_of table.header) q = λ q in'. (in'.0, let e = ap (λ (p : Places). p.used) varies.rows in omega (arith, in'.1)) in
    let back : (q : ℕ) → IsPlace (rows_of table.header) q → IsPlace (rows_of header) q = λ q in'. (in'.0, let e = ap (λ (p : Places). p.used) varies.rows in omega (arith, in'.1)) in
    let c = sound.chains row varies.its_row in
    let free : (q : ℕ) → Contains layout.free_rows q → IsPlace (rows_of table.header) q × IsFreeRow table q =
    λ q there. All-contains (λ (p : ℕ). IsPlace (rows_of table.header) p × IsFreeRow table p) layout.free_rows q sound.free_rows.free there in
    let away : (q : ℕ) → Contains layout.free_rows q → q ≢ row = λ q there e.
    false≢true (sym (free q there).1 ∙ ap (λ (p : ℕ). (table.pointer p).used) e ∙ varies.its_row.1) in
    let rows : IsFreeList (rows_of other.header) (head_of other) (IsFreeRow other) layout.free_rows = record {
      walk = subst (λ (p : ℕ). Walks (head_of other) p layout.free_rows 0) (sym (ap (λ (p : Places). p.front) varies.rows))
          (walk_same (head_of table) (head_of other) (rows_of table.header).front layout.free_rows 0
          (λ q there. ap (λ (p : Pointer). p.head) (sym (over.pointer_else q (away q there)))) sound.free_rows.walk);
      free = all_from (λ q. IsPlace (rows_of other.header) q × IsFreeRow other q) layout.free_rows (λ q there.
          let f = free q there in (back q f.0, ap (λ (p : Pointer). p.used) (over.pointer_else q (away q there)) ∙ f.1));
      whole = λ q in' is_free.
          let e : q ≢ row = λ here. false≢true (sym is_free ∙ ap (λ (p : ℕ). (other.pointer p).used) here ∙ ap (λ (p : Pointer). p.used) over.pointer_at) in
          sound.free_rows.whole q (same q in') (ap (λ (p : Pointer). p.used) (sym (over.pointer_else q e)) ∙ is_free);
    } in
    let ready : IsReady table other layout row slot = record {
      its_row = refl;
      place = back row varies.its_row.0;
      walk = subst (λ (p : ℕ). Walks (next_slot table) p (layout.chain row) 0) (sym varies.next) c.walk;
      variations = λ n there. let v = All-contains (IsVariation table row) (layout.chain row) n c.variations there in
          (v.place, v.used, v.its_row, v.its_key ∙ sym varies.its_key);
      keys = λ q e used alike. e (sound.keys q row used varies.its_row (alike ∙ varies.its_key));
      used = λ q e used. (back q used.0, ap (λ (p : Pointer). p.used) (over.pointer_else q e) ∙ used.1);
      was_used = λ q e used. (same q used.0, ap (λ (p : Pointer). p.used) (sym (over.pointer_else q e)) ∙ used.1);
    } in
    sound_linked short table other layout after number row slot sound over s rows ready
    stored.form stored.used (chain_at layout number row) (chain_else layout number row)
