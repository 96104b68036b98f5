-- One row pointer more is surveyed.
use Rattle.std.proofs.Common.{◌≡◌, ◌≢◌, ℕ, ◌+◌, ◌<◌, ◌≤◌, Bool, true, false, List, [], refl, sym, ap, subst, ◌∙◌, arith, inl, inr, ⊎_elim, ◌==◌, if◌then◌else◌}
use Rattle.std.specs.Prelude.{Contains, ◌⊎◌}
use Rattle.std.proofs.lemmas.Bool.{cases_eq, cases_lt, eq-eqb, ne_eqb, false≢true}
use Rattle.std.proofs.lemmas.List.Elements.{All-contains, All-nil}
use Rattle.px_free.specs.Places.{rows_of}
use Rattle.px_chain.specs.Table.{Table}
use Rattle.px_chain.specs.Sound.{Walks, IsPlace, IsFreeRow, IsUsedRow, IsVariation, IsChain, Layout, head_of, key_of, next_slot}
use Rattle.px_survey.specs.Walked.{IsMarked, Comes, Fails}
use Rattle.px_survey.specs.Flaws.{IsOnFreeSlots, IsOnFreeRows, IsFlawedChain, IsFlawedPointer}
use Rattle.px_survey.specs.Surveyed.{IsSurveyed, IsListed, Reaches, AreKeys, Adds}
use Rattle.px_survey.proofs.Walked.{in_meets, meets_in}
use Rattle.px_survey.proofs.Surveyed.{chain_walked, rows_walked}

-- ---- the beginning: both free lists are walked

pub begun : (table : Table) (slots rows new_slots new_rows : List Bool) → ((place : ℕ) → IsMarked slots place → ⊥) → ((place : ℕ) → IsMarked rows place → ⊥)
    → Comes (IsOnFreeSlots table) (next_slot table) table.header.free_slot 0 slots new_slots
    → Comes (IsOnFreeRows table) (head_of table) table.header.free_row 0 rows new_rows → Reaches table 1 new_slots new_rows
begun table slots rows new_slots new_rows no_slots no_rows s r =
    let layout : Layout = record { chain = λ row. []; free_slots = s.list; free_rows = r.list } in
    record {
      layout = layout;
      surveyed = record {
        free_slots_walk = s.walk;
        free_slots = s.on;
        free_rows_walk = r.walk;
        free_rows = r.on;
        free = λ row place below free. absurd (omega (arith, place.0, below));
        chains = λ row used below. absurd (omega (arith, used.0.0, below));
        no_chain = λ row unused. refl;
        keys = λ row other used used_other below below_other same. absurd (omega (arith, used.0.0, below));
      };
      listed = λ slot place is. ⊎_elim
          (λ (was : IsMarked slots slot). absurd (no_slots slot was))
          (λ (there : Contains s.list slot). inl there)
          (s.marks.others slot place.0 is);
      marked = λ slot listed. ⊎_elim
          (λ (there : Contains s.list slot). s.marks.here slot there)
          (λ (x : (row : ℕ) × IsUsedRow table row × (row < 1) × Contains (layout.chain row) slot). absurd (omega (arith, x.1.0.0, x.2)))
          listed;
      listed_row = λ row place is. ⊎_elim
          (λ (was : IsMarked rows row). absurd (no_rows row was))
          (λ (there : Contains r.list row). there)
          (r.marks.others row place.0 is);
      marked_row = λ row there. r.marks.here row there;
    }

-- ---- a free row pointer

pub free_more : (table : Table) (row : ℕ) (slots rows : List Bool) → Reaches table row slots rows → IsPlace (rows_of table.header) row → IsFreeRow table row → IsMarked rows row
    → Reaches table (row + 1) slots rows
free_more table row slots rows reaches place free is =
    let s = reaches.surveyed in
    let below : (r : ℕ) → IsUsedRow table r → r < row + 1 → r < row = λ r used to. ⊎_elim
    (λ (e : r ≡ row). absurd (false≢true (sym free ∙ subst (λ (q : ℕ). (table.pointer q).used ≡ true) e used.1)))
    (λ (e : r ≢ row). omega arith)
    (cases_eq r row) in
    record {
      layout = reaches.layout;
      surveyed = record {
        free_slots_walk = s.free_slots_walk;
        free_slots = s.free_slots;
        free_rows_walk = s.free_rows_walk;
        free_rows = s.free_rows;
        free = λ r r_place to r_free. ⊎_elim
            (λ (e : r ≡ row). reaches.listed_row r r_place (subst (λ (q : ℕ). IsMarked rows q) (sym e) is))
            (λ (e : r ≢ row). s.free r r_place (omega arith) r_free)
            (cases_eq r row);
        chains = λ r used to. s.chains r used (below r used to);
        no_chain = s.no_chain;
        keys = λ r other used used_other to to_other same. s.keys r other used used_other (below r used to) (below other used_other to_other) same;
      };
      listed = λ slot slot_place marked. ⊎_elim
          (λ (there : Contains reaches.layout.free_slots slot). inl there)
          (λ (x : (r : ℕ) × IsUsedRow table r × (r < row) × Contains (reaches.layout.chain r) slot).
          let to : x.0 < row + 1 = (let to = x.2 in omega arith) in inr (x.0, x.1, to, x.3))
          (reaches.listed slot slot_place marked);
      marked = λ slot listed. ⊎_elim
          (λ (there : Contains reaches.layout.free_slots slot). reaches.marked slot (inl there))
          (λ (x : (r : ℕ) × IsUsedRow table r × (r < row + 1) × Contains (reaches.layout.chain r) slot).
          reaches.marked slot (inr (x.0, x.1, below x.0 x.1 x.2, x.3)))
          listed;
      listed_row = reaches.listed_row;
      marked_row = reaches.marked_row;
    }

-- a free row pointer that isn't on the free list
pub free_lost : (table : Table) (row : ℕ) (slots rows : List Bool) → Reaches table row slots rows → IsPlace (rows_of table.header) row → IsFreeRow table row
    → (IsMarked rows row → ⊥) → IsFlawedPointer table row
free_lost table row slots rows reaches place free unmarked =
    inl (
      place,
      free,
      λ met. unmarked (reaches.marked_row row
          (meets_in (IsOnFreeRows table) (head_of table) table.header.free_row reaches.layout.free_rows (rows_walked table row reaches.layout reaches.surveyed) row met)),
    )

-- ---- a used row pointer

with_chain : Layout → ℕ → List ℕ → Layout
with_chain layout row chain = record layout { chain = λ r. if r == row then chain else layout.chain r }

chain_here : (layout : Layout) (row : ℕ) (chain : List ℕ) → (with_chain layout row chain).chain row ≡ chain
unfolding with_chain
chain_here layout row chain = rw (eq-eqb row row refl) refl

chain_else : (layout : Layout) (row : ℕ) (chain : List ℕ) (r : ℕ) → r ≢ row → (with_chain layout row chain).chain r ≡ layout.chain r
unfolding with_chain
chain_else layout row chain r e = rw (ne_eqb r row e) refl

pub record IsNext (table : Table) (row : ℕ) (layout : Layout) (chain : List ℕ) : Type 0 where
  pub surveyed : IsSurveyed table row layout
  pub used : IsUsedRow table row
  pub is_chain : IsChain table row chain
  pub own_key : (r : ℕ) → IsUsedRow table r → r < row → key_of table r ≢ key_of table row

chain_surveyed : (table : Table) (row : ℕ) (layout : Layout) (chain : List ℕ) → IsNext table row layout chain → IsSurveyed table (row + 1) (with_chain layout row chain)
unfolding with_chain
chain_surveyed table row layout chain is =
    let s = is.surveyed in
    let other : (r : ℕ) → r ≢ row → r < row + 1 → r < row = λ r e to. omega arith in
    record {
      free_slots_walk = s.free_slots_walk;
      free_slots = s.free_slots;
      free_rows_walk = s.free_rows_walk;
      free_rows = s.free_rows;
      free = λ r place to free. ⊎_elim
          (λ (e : r ≡ row). absurd (false≢true (sym (subst (λ (q : ℕ). (table.pointer q).used ≡ false) e free) ∙ is.used.1)))
          (λ (e : r ≢ row). s.free r place (other r e to) free)
          (cases_eq r row);
      chains = λ r used to. ⊎_elim
          (λ (e : r ≡ row). subst (λ (q : ℕ). IsChain table q ((with_chain layout row chain).chain q)) (sym e) (subst (λ (l : List ℕ). IsChain table row l) (sym (chain_here layout row chain)) is.is_chain))
          (λ (e : r ≢ row). subst (λ (l : List ℕ). IsChain table r l) (sym (chain_else layout row chain r e)) (s.chains r used (other r e to)))
          (cases_eq r row);
      no_chain = λ r unused. ⊎_elim
          (λ (e : r ≡ row). absurd (unused (subst (λ (q : ℕ). IsUsedRow table q) (sym e) is.used)))
          (λ (e : r ≢ row). chain_else layout row chain r e ∙ s.no_chain r unused)
          (cases_eq r row);
      keys = λ r q used used_q to to_q same. ⊎_elim
          (λ (e : r ≡ row). ⊎_elim
          (λ (f : q ≡ row). e ∙ sym f)
          (λ (f : q ≢ row). absurd (is.own_key q used_q (other q f to_q) (sym same ∙ ap (λ (p : ℕ). key_of table p) e)))
          (cases_eq q row))
          (λ (e : r ≢ row). ⊎_elim
          (λ (f : q ≡ row). absurd (is.own_key r used (other r e to) (same ∙ ap (λ (p : ℕ). key_of table p) f)))
          (λ (f : q ≢ row). s.keys r q used used_q (other r e to) (other q f to_q) same)
          (cases_eq q row))
          (cases_eq r row);
    }

listed_still : (table : Table) (row : ℕ) (layout : Layout) (chain : List ℕ) (slot : ℕ) → IsListed table row layout slot → IsListed table (row + 1) (with_chain layout row chain) slot
unfolding with_chain
listed_still table row layout chain slot listed = ⊎_elim
    (λ (there : Contains layout.free_slots slot). inl there)
    (λ (x : (r : ℕ) × IsUsedRow table r × (r < row) × Contains (layout.chain r) slot).
    let below = x.2 in
    let to : x.0 < row + 1 = omega arith in
    let e : x.0 ≢ row = λ e. absurd (omega (arith, e)) in
    inr (x.0, x.1, to, subst (λ (l : List ℕ). Contains l slot) (sym (chain_else layout row chain x.0 e)) x.3))
    listed

listed_here : (table : Table) (row : ℕ) (layout : Layout) (chain : List ℕ) (slot : ℕ) → IsUsedRow table row → Contains chain slot → IsListed table (row + 1) (with_chain layout row chain) slot
unfolding with_chain
listed_here table row layout chain slot used there =
    let to : row < row + 1 = omega arith in
    inr (row, used, to, subst (λ (l : List ℕ). Contains l slot) (sym (chain_here layout row chain)) there)

listed_before : (table : Table) (row : ℕ) (layout : Layout) (chain : List ℕ) (slot : ℕ) → IsListed table (row + 1) (with_chain layout row chain) slot
    → IsListed table row layout slot ⊎ Contains chain slot
unfolding with_chain
listed_before table row layout chain slot listed = ⊎_elim
    (λ (there : Contains layout.free_slots slot). inl (inl there))
    (λ (x : (r : ℕ) × IsUsedRow table r × (r < row + 1) × Contains ((with_chain layout row chain).chain r) slot). ⊎_elim
    (λ (e : x.0 ≡ row). inr (subst (λ (l : List ℕ). Contains l slot) (chain_here layout row chain) (subst (λ (q : ℕ). Contains ((with_chain layout row chain).chain q) slot) e x.3)))
    (λ (e : x.0 ≢ row).
    let to = x.2 in
    let below : x.0 < row = omega arith in
    inl (inr (x.0, x.1, below, subst (λ (l : List ℕ). Contains l slot) (chain_else layout row chain x.0 e) x.3)))
    (cases_eq x.0 row))
    listed

chain_some : (next : ℕ → ℕ) (from : ℕ) (list : List ℕ) → Walks next from list 0 → from ≢ 0 → list ≢ []
chain_some next from list walk some none = some (subst (λ (l : List ℕ). Walks next from l 0) none walk)

pub chain_more : (table : Table) (row : ℕ) (slots new rows : List Bool) → Reaches table row slots rows → IsUsedRow table row → head_of table row ≢ 0
    → Comes (IsVariation table row) (next_slot table) (head_of table row) 0 slots new
    → ((r : ℕ) → IsUsedRow table r → r < row → key_of table r ≢ key_of table row) → Reaches table (row + 1) new rows
unfolding with_chain
chain_more table row slots new rows reaches used some came own_key =
    let layout = reaches.layout in
    let chain = came.list in
    let is : IsNext table row layout chain = record {
      surveyed = reaches.surveyed;
      used = used;
      is_chain = record { walk = came.walk; some = chain_some (next_slot table) (head_of table row) chain came.walk some; variations = came.on };
      own_key = own_key;
    } in
    record {
      layout = with_chain layout row chain;
      surveyed = chain_surveyed table row layout chain is;
      listed = λ slot place marked. ⊎_elim
          (λ (was : IsMarked slots slot). listed_still table row layout chain slot (reaches.listed slot place was))
          (λ (there : Contains chain slot). listed_here table row layout chain slot used there)
          (came.marks.others slot place.0 marked);
      marked = λ slot listed. ⊎_elim
          (λ (before : IsListed table row layout slot). came.marks.kept slot (reaches.marked slot before))
          (λ (there : Contains chain slot). came.marks.here slot there)
          (listed_before table row layout chain slot listed);
      listed_row = reaches.listed_row;
      marked_row = reaches.marked_row;
    }

pub chain_keys : (table : Table) (row : ℕ) (old new : List ℕ → Type 0) → AreKeys table row old → IsUsedRow table row → Adds (key_of table row) old new
    → AreKeys table (row + 1) new
chain_keys table row old new are used adds = record {
  some = λ r r_used to. ⊎_elim
      (λ (e : r ≡ row). subst (λ (q : ℕ). new (key_of table q)) (sym e) adds.here)
      (λ (e : r ≢ row). adds.kept (key_of table r) (are.some r r_used (omega arith)))
      (cases_eq r row);
  all = λ key has. ⊎_elim
      (λ (had : old key). let x = are.all key had in (let to : x.0 < row + 1 = (let to = x.2 in omega arith) in (x.0, x.1, to, x.3)))
      (λ (e : key ≡ key_of table row). let to : row < row + 1 = omega arith in (row, used, to, sym e))
      (adds.others key has);
}

-- a walk along its chain that fails
pub chain_fails : (table : Table) (row : ℕ) (slots rows : List Bool) → Reaches table row slots rows
    → Fails (IsVariation table row) (next_slot table) (head_of table row) slots → IsFlawedChain table row
chain_fails table row slots rows reaches fails =
    let layout = reaches.layout in
    let strays : ((IsVariation table row fails.place → ⊥) ⊎ Contains fails.met.before fails.place) → IsFlawedChain table row = λ wrong.
    inr (inl (record { place = fails.place; met = fails.met; wrong = wrong })) in
    let on_list : IsListed table row layout fails.place → IsFlawedChain table row = λ listed. ⊎_elim
    (λ (there : Contains layout.free_slots fails.place).
    strays (inl (λ v. v.used (All-contains (IsOnFreeSlots table) layout.free_slots fails.place reaches.surveyed.free_slots there).1)))
    (λ (x : (r : ℕ) × IsUsedRow table r × (r < row) × Contains (layout.chain r) fails.place).
    let c = reaches.surveyed.chains x.0 x.1 x.2 in
    inr (inr (inl (record {
      slot = fails.place;
      other = x.0;
      earlier = x.2;
      used = x.1;
      here = fails.met;
      there = in_meets (IsVariation table x.0) (next_slot table) (head_of table x.0) (layout.chain x.0) (chain_walked table x.0 (layout.chain x.0) c) fails.place x.3;
    }))))
    listed in
    let some = fails.met.some in
    ⊎_elim
    (λ (off : IsVariation table row fails.place → ⊥). strays (inl off))
    (λ rest. ⊎_elim
    (λ (twice : Contains fails.met.before fails.place). strays (inr twice))
    (λ (was : IsMarked slots fails.place). ⊎_elim
    (λ (past : table.header.slots < fails.place). strays (inl (λ v. let p = v.place.1 in absurd (omega (arith, past)))))
    (λ (within : fails.place ≤ table.header.slots). let first : 1 ≤ fails.place = omega arith in on_list (reaches.listed fails.place (first, within) was))
    (cases_lt table.header.slots fails.place))
    rest)
    fails.wrong

-- a head that is no slot
pub head_missing : (table : Table) (row head count : ℕ) → head ≡ head_of table row → count ≡ table.header.slots → (head ≡ 0) ⊎ (count < head) → IsFlawedChain table row
head_missing table row head count is counts missing = ⊎_elim
    (λ (none : head ≡ 0). inl (sym is ∙ none))
    (λ (past : count < head). inr (inl (record {
      place = head_of table row;
      met = record { before = []; on = All-nil (IsVariation table row); walk = refl; some = λ e. absurd (omega (arith, e)) };
      wrong = inl (λ v. let p = v.place.1 in absurd (omega arith));
    })))
    missing

-- the key of a chain, where no earlier one has it
pub key_alone : (table : Table) (row : ℕ) (key : List ℕ) (has : List ℕ → Type 0) → AreKeys table row has → key ≡ key_of table row → (has key → ⊥)
    → (r : ℕ) → IsUsedRow table r → r < row → key_of table r ≢ key_of table row
key_alone table row key has are is alone r used below same = alone (subst has (same ∙ sym is) (are.some r used below))

-- and where one has it
pub key_shared : (table : Table) (row : ℕ) (key : List ℕ) (has : List ℕ → Type 0) → AreKeys table row has → key ≡ key_of table row → has key → IsFlawedChain table row
key_shared table row key has are is there =
    let x = are.all key there in
    inr (inr (inr (record { other = x.0; earlier = x.2; used = x.1; same = x.3 ∙ is })))
