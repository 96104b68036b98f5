-- What holds of sound cells.
use Rattle.std.proofs.Common.{◌≡◌, ℕ, ◌<◌, ◌≤◌, true, false, List, refl, sym, ap, subst, ◌∙◌, arith, inl, inr, ⊎_elim}
use Rattle.std.specs.Prelude.{All, Contains, ◌⊎◌}
use Rattle.std.proofs.lemmas.Bool.{cases_lt, cases_Bool, false≢true}
use Rattle.std.proofs.lemmas.List.Elements.{All-contains}
use Rattle.px_cells.specs.declared.header.Header.{Header}
use Rattle.px_cells.specs.declared.pointer.Pointer.{Pointer}
use Rattle.px_free.specs.Places.{slots_of, rows_of}
use Rattle.px_chain.specs.Table.{Table}
use Rattle.px_chain.specs.Sound.{Walks, IsApart, IsPlace, IsSlot, IsFreeSlot, next_slot, IsFreeRow, IsUsedRow, head_of, key_of, IsVariation, IsChain, Layout, IsSound, IsLinkedAlike, no_places, no_layout}
use Rattle.px_chain.proofs.Walks.{all_from, contains_none, walk_same, one_walk}
use Rattle.px_chain.proofs.FreeLists.{places_of}
use Rattle.px_chain.proofs.Places.{apart_walk}
use Rattle.px_chain.proofs.SoundLink.{head_in}

used_or_not : (table : Table) (row : ℕ) → IsUsedRow table row ⊎ (IsUsedRow table row → ⊥)
used_or_not table row = ⊎_elim
    (λ (low : row < 1). inr (λ used. let p = used.0.0 in omega arith))
    (λ (from : 1 ≤ row). ⊎_elim
    (λ (high : table.header.rows < row). inr (λ used. let p = used.0.1 in omega arith))
    (λ (to : row ≤ table.header.rows). ⊎_elim
    (λ (yes : (table.pointer row).used ≡ true). inl ((from, to), yes))
    (λ (no : (table.pointer row).used ≡ false). inr (λ used. false≢true (sym no ∙ used.1)))
    (cases_Bool (table.pointer row).used))
    (cases_lt table.header.rows row))
    (cases_lt row 1)

-- what stands in a chain is a version of a used row
pub chained : (short : ℕ) (table : Table) (layout : Layout) → IsSound short table layout → (row slot : ℕ) → Contains (layout.chain row) slot → IsUsedRow table row × IsVariation table row slot
chained short table layout sound row slot there = ⊎_elim
    (λ (used : IsUsedRow table row). (used, All-contains (IsVariation table row) (layout.chain row) slot (sound.chains row used).variations there))
    (λ (unused : IsUsedRow table row → ⊥). absurd (contains_none slot (subst (λ (l : List ℕ). Contains l slot) (sound.no_chain row unused) there)))
    (used_or_not table row)

-- ---- no places

pub sound_none : (short : ℕ) (table : Table) → table.header ≡ no_places → IsSound short table no_layout
sound_none short table empty =
    let slots : table.header.slots ≡ 0 = ap (λ (h : Header). h.slots) empty in
    let rows : table.header.rows ≡ 0 = ap (λ (h : Header). h.rows) empty in
    record {
      form = λ n in'. absurd (omega (arith, in'.0, in'.1));
      free_slots = record {
        walk = ap (λ (h : Header). h.free_slot) empty;
        free = λ k d within. absurd (omega (arith, within));
        whole = λ n in' free. absurd (omega (arith, in'.0, in'.1));
      };
      free_rows = record {
        walk = ap (λ (h : Header). h.free_row) empty;
        free = λ k d within. absurd (omega (arith, within));
        whole = λ q in' free. absurd (omega (arith, in'.0, in'.1));
      };
      chains = λ q used. absurd (omega (arith, used.0.0, used.0.1));
      no_chain = λ q unused. refl;
      linked = λ n in' used. absurd (omega (arith, in'.0, in'.1));
      keys = λ q p q_used p_used same. absurd (omega (arith, q_used.0.0, q_used.0.1));
    }

-- ---- a place stands once

chain_places : (table : Table) (row : ℕ) (chain : List ℕ) → IsChain table row chain → All (λ place. 1 ≤ place) chain
chain_places table row chain is = all_from (λ place. 1 ≤ place) chain (λ n there. (All-contains (IsVariation table row) chain n is.variations there).place.0)

pub chain_once : (short : ℕ) (table : Table) (layout : Layout) (row : ℕ) → IsSound short table layout → IsApart (layout.chain row)
chain_once short table layout row sound = ⊎_elim
    (λ (used : IsUsedRow table row). let c = sound.chains row used in
    apart_walk (next_slot table) (head_of table row) (layout.chain row) (chain_places table row (layout.chain row) c) c.walk)
    (λ (unused : IsUsedRow table row → ⊥). subst IsApart (sym (sound.no_chain row unused)) tt)
    (used_or_not table row)

pub free_slots_once : (short : ℕ) (table : Table) (layout : Layout) → IsSound short table layout → IsApart layout.free_slots
free_slots_once short table layout sound =
    apart_walk (next_slot table) table.header.free_slot layout.free_slots
    (places_of (slots_of table.header) (next_slot table) (IsFreeSlot table) layout.free_slots sound.free_slots) sound.free_slots.walk

pub free_rows_once : (short : ℕ) (table : Table) (layout : Layout) → IsSound short table layout → IsApart layout.free_rows
free_rows_once short table layout sound =
    apart_walk (head_of table) table.header.free_row layout.free_rows
    (places_of (rows_of table.header) (head_of table) (IsFreeRow table) layout.free_rows sound.free_rows) sound.free_rows.walk

pub one_chain : (short : ℕ) (table : Table) (layout : Layout) (row other slot : ℕ) → IsSound short table layout
    → Contains (layout.chain row) slot → Contains (layout.chain other) slot → row ≡ other
one_chain short table layout row other slot sound here there =
    sym (chained short table layout sound row slot here).1.its_row ∙ (chained short table layout sound other slot there).1.its_row

pub chain_or_free : (short : ℕ) (table : Table) (layout : Layout) (row slot : ℕ) → IsSound short table layout
    → Contains (layout.chain row) slot → Contains layout.free_slots slot → ⊥
chain_or_free short table layout row slot sound here there =
    (chained short table layout sound row slot here).1.used
    (All-contains (λ (p : ℕ). IsPlace (slots_of table.header) p × IsFreeSlot table p) layout.free_slots slot sound.free_slots.free there).1

-- ---- one layout

pub chain_alike : (short : ℕ) (table : Table) (a b : Layout) (row : ℕ) → IsSound short table a → IsSound short table b → a.chain row ≡ b.chain row
chain_alike short table a b row sound other = ⊎_elim
    (λ (used : IsUsedRow table row).
    let c = sound.chains row used in
    let d = other.chains row used in
    one_walk (next_slot table) (head_of table row) (a.chain row) (b.chain row) (chain_places table row (a.chain row) c) (chain_places table row (b.chain row) d) c.walk d.walk)
    (λ (unused : IsUsedRow table row → ⊥). sound.no_chain row unused ∙ sym (other.no_chain row unused))
    (used_or_not table row)

pub free_slots_alike : (short : ℕ) (table : Table) (a b : Layout) → IsSound short table a → IsSound short table b → a.free_slots ≡ b.free_slots
free_slots_alike short table a b sound other =
    one_walk (next_slot table) table.header.free_slot a.free_slots b.free_slots
    (places_of (slots_of table.header) (next_slot table) (IsFreeSlot table) a.free_slots sound.free_slots)
    (places_of (slots_of table.header) (next_slot table) (IsFreeSlot table) b.free_slots other.free_slots) sound.free_slots.walk other.free_slots.walk

pub free_rows_alike : (short : ℕ) (table : Table) (a b : Layout) → IsSound short table a → IsSound short table b → a.free_rows ≡ b.free_rows
free_rows_alike short table a b sound other =
    one_walk (head_of table) table.header.free_row a.free_rows b.free_rows
    (places_of (rows_of table.header) (head_of table) (IsFreeRow table) a.free_rows sound.free_rows)
    (places_of (rows_of table.header) (head_of table) (IsFreeRow table) b.free_rows other.free_rows) sound.free_rows.walk other.free_rows.walk

-- ---- a table with the same links

pub sound_alike : (short : ℕ) (table other : Table) (layout : Layout) → IsSound short table layout → IsLinkedAlike short table other → IsSound short other layout
sound_alike short table other layout sound alike =
    let old_slot : (n : ℕ) → IsSlot other n → IsSlot table n = λ n in'. subst (λ (h : Header). IsPlace (slots_of h) n) alike.header in' in
    let new_slot : (n : ℕ) → IsSlot table n → IsSlot other n = λ n in'. subst (λ (h : Header). IsPlace (slots_of h) n) (sym alike.header) in' in
    let old_row : (q : ℕ) → IsPlace (rows_of other.header) q → IsPlace (rows_of table.header) q = λ q in'. subst (λ (h : Header). IsPlace (rows_of h) q) alike.header in' in
    let new_row : (q : ℕ) → IsPlace (rows_of table.header) q → IsPlace (rows_of other.header) q = λ q in'. subst (λ (h : Header). IsPlace (rows_of h) q) (sym alike.header) in' in
    let old_used : (q : ℕ) → IsUsedRow other q → IsUsedRow table q = λ q used.
    (old_row q used.0, ap (λ (p : Pointer). p.used) (sym (alike.pointers q (old_row q used.0))) ∙ used.1) in
    let new_used : (q : ℕ) → IsUsedRow table q → IsUsedRow other q = λ q used. (new_row q used.0, ap (λ (p : Pointer). p.used) (alike.pointers q used.0) ∙ used.1) in
    let free_slot : (n : ℕ) → Contains layout.free_slots n → IsSlot table n × IsFreeSlot table n =
    λ n there. All-contains (λ (p : ℕ). IsPlace (slots_of table.header) p × IsFreeSlot table p) layout.free_slots n sound.free_slots.free there in
    let free_row : (q : ℕ) → Contains layout.free_rows q → IsPlace (rows_of table.header) q × IsFreeRow table q =
    λ q there. All-contains (λ (p : ℕ). IsPlace (rows_of table.header) p × IsFreeRow table p) layout.free_rows q sound.free_rows.free there in
    let varies : (q : ℕ) → IsUsedRow table q → (n : ℕ) → Contains (layout.chain q) n → IsVariation table q n =
    λ q used n there. All-contains (IsVariation table q) (layout.chain q) n (sound.chains q used).variations there in
    let key : (q : ℕ) → IsUsedRow table q → key_of other q ≡ key_of table q = λ q used.
    let c = sound.chains q used in
    ap (λ (p : Pointer). (other.slot p.head).key) (alike.pointers q used.0)
    ∙ alike.its_keys (head_of table q) (varies q used (head_of table q) (head_in (next_slot table) (head_of table q) (layout.chain q) c.walk c.some)).place in
    record {
      form = λ n in'. alike.form n (old_slot n in');
      free_slots = record {
        walk = subst (λ (h : Header). Walks (next_slot other) h.free_slot layout.free_slots 0) (sym alike.header)
            (walk_same (next_slot table) (next_slot other) table.header.free_slot layout.free_slots 0 (λ n there. sym (alike.nexts n (free_slot n there).0)) sound.free_slots.walk);
        free = all_from (λ n. IsPlace (slots_of other.header) n × IsFreeSlot other n) layout.free_slots
            (λ n there. let f = free_slot n there in (new_slot n f.0, alike.states n f.0 ∙ f.1));
        whole = λ n in' free. sound.free_slots.whole n (old_slot n in') (sym (alike.states n (old_slot n in')) ∙ free);
      };
      free_rows = record {
        walk = subst (λ (h : Header). Walks (head_of other) h.free_row layout.free_rows 0) (sym alike.header)
            (walk_same (head_of table) (head_of other) table.header.free_row layout.free_rows 0
            (λ q there. ap (λ (p : Pointer). p.head) (sym (alike.pointers q (free_row q there).0))) sound.free_rows.walk);
        free = all_from (λ q. IsPlace (rows_of other.header) q × IsFreeRow other q) layout.free_rows
            (λ q there. let f = free_row q there in (new_row q f.0, ap (λ (p : Pointer). p.used) (alike.pointers q f.0) ∙ f.1));
        whole = λ q in' free. sound.free_rows.whole q (old_row q in') (ap (λ (p : Pointer). p.used) (sym (alike.pointers q (old_row q in'))) ∙ free);
      };
      chains = λ q used.
          let was = old_used q used in
          let c = sound.chains q was in
          record {
            walk = subst (λ (p : ℕ). Walks (next_slot other) p (layout.chain q) 0) (sym (ap (λ (p : Pointer). p.head) (alike.pointers q was.0)))
                (walk_same (next_slot table) (next_slot other) (head_of table q) (layout.chain q) 0 (λ n there. sym (alike.nexts n (varies q was n there).place)) c.walk);
            some = c.some;
            variations = all_from (IsVariation other q) (layout.chain q) (λ n there.
                let v = varies q was n there in
                record {
                  place = new_slot n v.place;
                  used = λ free. v.used (sym (alike.states n v.place) ∙ free);
                  its_row = alike.its_rows n v.place ∙ v.its_row;
                  its_key = alike.its_keys n v.place ∙ v.its_key ∙ sym (key q was);
                });
          };
      no_chain = λ q unused. sound.no_chain q (λ used. unused (new_used q used));
      linked = λ n in' used.
          let place = old_slot n in' in
          let l = sound.linked n place (λ free. used (alike.states n place ∙ free)) in (
            subst (λ (p : ℕ). IsUsedRow other p) (sym (alike.its_rows n place)) (new_used (table.slot n).row l.0),
            subst (λ (p : ℕ). Contains (layout.chain p) n) (sym (alike.its_rows n place)) l.1,
          );
      keys = λ q p q_used p_used same. sound.keys q p (old_used q q_used) (old_used p p_used) (sym (key q (old_used q q_used)) ∙ same ∙ key p (old_used p p_used));
    }
