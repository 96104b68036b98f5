-- What goes with the sweep of a write that is due.
use Rattle.std.proofs.Common.{◌≡◌, ◌≢◌, ℕ, zero, suc, ◌+◌, ◌-◌, ◌==◌, ◌<◌, ◌≤◌, ◌&&◌, Bool, cond, true, false, All, List, [], ◌∷◌, length, map, Option, Some, None, refl, sym, ap, subst, ◌∙◌, arith, inl, inr, ⊎_elim}
use Rattle.std.specs.Prelude.{Contains, IfSome, MatchOption, not}
use Rattle.std.proofs.lemmas.Bool.{and_parts, cases_eq, cases_lt, eq-eqb, eqb-false, eqb-true, ne_eqb, not-true, false≢true}
use Rattle.std.proofs.lemmas.List.{get_or_past}
use Rattle.std.proofs.lemmas.List.Elements.{at_from_Contains}
use Rattle.std.proofs.lemmas.Option.{none-some, same_Some}
use Rattle.px_cell_laws.specs.Sweeping.{sweep_count, sweep_from}
use Rattle.px_chain.proofs.SoundLaws.{chain_once}
use Rattle.px_cells.specs.declared.slot.Slot.{Slot}
use Rattle.px_cells.specs.declared.slot.SlotState.TheVariants.{Free}
use Rattle.px_chain.proofs.Standing.{slot_leads, slot_stands, stands_in}
use Rattle.px_chain.specs.declared.chain.Linked.{Linked}
use Rattle.px_chain.specs.Links.{chain_of}
use Rattle.px_chain.specs.Places.{IsRun, StandsAt, slot_before, slot_in}
use Rattle.px_chain.specs.Sound.{IsApart, IsSound, IsUsedRow, Layout}
use Rattle.px_chain.specs.Table.{Table}
use Rattle.px_history.specs.Store.{Store}
use Rattle.px_tidy.specs.Kept.{is_row}
use Rattle.px_xacts.specs.declared.answers.Due.{Due}
use Rattle.px_held.specs.Sweeping.{GoesWith, IsDueAt, IsRunOf, base_run, is_put_at, is_row_in, newer_in, own_run}
use Rattle.px_held.specs.Unlinking.{HasVersions}
use Rattle.px_held.specs.declared.run.Run.{Run}

-- ---- a walk along the versions

abbrev pub numbers : List Linked → List ℕ
numbers versions = map (λ (linked : Linked). linked.number) versions

pub numbers_of_chain : (table : Table) (chain : List ℕ) → numbers (chain_of table chain) ≡ chain
numbers_of_chain table [] = refl
numbers_of_chain table (n ∷ chain) = ap (λ (l : List ℕ). n ∷ l) (numbers_of_chain table chain)

pub newer_behind : (whole : Option ℕ) (newer slot : ℕ) (left behind : List Linked) (first : Linked) → whole ≡ newer_in newer slot (numbers left) → left ≡ first ∷ behind
    → first.number ≢ slot → whole ≡ newer_in first.number slot (numbers behind)
newer_behind whole newer slot left behind first so is other =
    so ∙ ap (λ (l : List Linked). newer_in newer slot (numbers l)) is
    ∙ ap (λ (b : Bool). cond b (Some newer) (newer_in first.number slot (numbers behind))) (ne_eqb first.number slot other)

pub newer_here : (whole : Option ℕ) (newer slot : ℕ) (left behind : List Linked) (first : Linked) → whole ≡ newer_in newer slot (numbers left) → left ≡ first ∷ behind
    → first.number ≡ slot → whole ≡ Some newer
newer_here whole newer slot left behind first so is same =
    so ∙ ap (λ (l : List Linked). newer_in newer slot (numbers l)) is
    ∙ ap (λ (b : Bool). cond b (Some newer) (newer_in first.number slot (numbers behind))) (eq-eqb first.number slot same)

pub newer_nowhere : (whole : Option ℕ) (newer slot : ℕ) (left : List Linked) → whole ≡ newer_in newer slot (numbers left) → left ≡ [] → whole ≡ None
newer_nowhere whole newer slot left so is = so ∙ ap (λ (l : List Linked). newer_in newer slot (numbers l)) is

-- ---- its place

abbrev before : (newer : ℕ) → List ℕ → (place : ℕ) → ℕ
before newer chain zero = newer
before newer chain (suc place) = slot_in chain place

one_further : (n : ℕ) (chain : List ℕ) (place : ℕ) → before n chain place ≡ slot_in (n ∷ chain) place
one_further n chain zero = refl
one_further n chain (suc place) = refl

as_before : (chain : List ℕ) (place : ℕ) → before 0 chain place ≡ slot_before chain place
as_before chain zero = refl
as_before chain (suc place) = refl

newer_there : (newer slot : ℕ) (chain : List ℕ) (place : ℕ) → IsApart chain → StandsAt chain place slot → newer_in newer slot chain ≡ Some (before newer chain place)
newer_there newer slot [] place apart at = absurd (omega (arith, at.0))
newer_there newer slot (n ∷ chain) zero apart at = ap (λ (b : Bool). cond b (Some newer) (newer_in n slot chain)) (eq-eqb n slot at.1)
newer_there newer slot (n ∷ chain) (suc place) apart at =
    let there : StandsAt chain place slot = (omega (arith, at.0), at.1) in
    ap (λ (b : Bool). cond b (Some newer) (newer_in n slot chain))
    (ne_eqb n slot (λ same. apart.0 (subst (Contains chain) (sym same) (stands_in chain place slot there))))
    ∙ newer_there n slot chain place apart.1 there
    ∙ ap Some (one_further n chain place)

-- where it was found
record IsBehind (first newer slot : ℕ) (chain : List ℕ) : Type 0 where
  pub place : ℕ
  pub stands : StandsAt chain place slot
  pub front : before first chain place ≡ newer

found_there : (first newer slot : ℕ) (chain : List ℕ) → newer_in first slot chain ≡ Some newer → IsBehind first newer slot chain
found_there first newer slot [] found = absurd (none-some newer found)
found_there first newer slot (n ∷ chain) found = ⊎_elim
    (λ (here : n ≡ slot). record {
      place = 0;
      stands = (omega arith, here);
      front = same_Some first newer (sym (ap (λ (b : Bool). cond b (Some first) (newer_in n slot chain)) (eq-eqb n slot here)) ∙ found);
    })
    (λ (other : n ≢ slot).
    let further = found_there n newer slot chain (sym (ap (λ (b : Bool). cond b (Some first) (newer_in n slot chain)) (ne_eqb n slot other)) ∙ found) in
    record {
      place = suc further.place;
      stands = (let within = further.stands.0 in omega (arith, within), further.stands.1);
      front = sym (one_further n chain further.place) ∙ further.front;
    })
    (cases_eq n slot)

-- ---- what stands behind

front_of : (chain : List ℕ) (place slot : ℕ) → slot_in chain place ≡ slot → slot_before chain (place + 1) ≡ slot
front_of chain place slot at =
    let one : suc place ≡ place + 1 = omega arith in
    subst (λ (n : ℕ). slot_before chain n ≡ slot) one at

module _ (short : ℕ) (table : Table) (layout : Layout) (row slot place : ℕ) (sound : IsSound short table layout) (used : IsUsedRow table row)
    (stands : StandsAt (layout.chain row) place slot) where
  abbrev chain : List ℕ
  chain = layout.chain row

  abbrev next : ℕ
  next = (table.slot slot).next

  next_is : next ≡ slot_in chain (place + 1)
  next_is = slot_leads short table layout row place slot sound stands

  some_place : (n : ℕ) → n < length chain → 1 ≤ slot_in chain n
  some_place n within = ((sound.chains row used).variations n 0 within).place.0

  none_behind : next ≡ 0 → length chain ≡ place + 1
  none_behind none = ⊎_elim
      (λ (more : place + 1 < length chain). absurd (omega (arith, some_place (place + 1) more, next_is, none)))
      (λ (no_more : length chain ≤ place + 1). omega (arith, no_more, stands.0))
      (cases_lt (place + 1) (length chain))

  one_behind : next ≢ 0 → place + 2 ≤ length chain
  one_behind some = ⊎_elim
      (λ (more : place + 1 < length chain). omega (arith, more))
      (λ (no_more : length chain ≤ place + 1). absurd (some (next_is ∙ get_or_past chain (place + 1) 0 no_more)))
      (cases_lt (place + 1) (length chain))

  base_stands : next ≢ 0 → IsRun chain (place + 1) slot next 1
  base_stands some = record { some = omega arith; within = omega (arith, one_behind some); front = front_of chain place slot stands.1; start = sym next_is }

  own_stands : (count : ℕ) → 1 ≤ count → place + count ≤ length chain → IsRun chain place (slot_before chain place) slot count
  own_stands count some within = record { some = some; within = within; front = refl; start = stands.1 }

  abbrev Stands : Run → Type 0
  Stands run = (from : ℕ) × IsRun chain from run.newer run.first run.count

  pub base_run_stands : IfSome (base_run slot next) Stands
  base_run_stands = ⊎_elim
      (λ (none : next ≡ 0). subst (λ (b : Bool). IfSome (cond b None (Some (record { newer = slot; first = next; count = 1 }))) Stands) (sym (eq-eqb next 0 none)) tt)
      (λ (some : next ≢ 0).
      subst (λ (b : Bool). IfSome (cond b None (Some (record { newer = slot; first = next; count = 1 }))) Stands) (sym (ne_eqb next 0 some)) (place + 1, base_stands some))
      (cases_eq next 0)

  own_count : (committed : Bool) → (1 ≤ (own_run committed 0 slot next).count) × (place + (own_run committed 0 slot next).count ≤ length chain)
  own_count false = (omega arith, omega (arith, stands.0))
  own_count true = ⊎_elim
      (λ (none : next ≡ 0). subst (λ (b : Bool). (1 ≤ cond b 1 2) × (place + cond b 1 2 ≤ length chain)) (sym (eq-eqb next 0 none)) (omega arith, omega (arith, stands.0)))
      (λ (some : next ≢ 0). subst (λ (b : Bool). (1 ≤ cond b 1 2) × (place + cond b 1 2 ≤ length chain)) (sym (ne_eqb next 0 some)) (omega arith, omega (arith, one_behind some)))
      (cases_eq next 0)

  pub own_run_stands : (committed : Bool) → IsRun chain place (slot_before chain place) slot (own_run committed (slot_before chain place) slot next).count
  own_run_stands committed = own_stands (own_run committed 0 slot next).count (own_count committed).0 (own_count committed).1

  -- with one at most behind it
  pub base_goes : (committed put : Bool) → length chain ≤ place + 2 → committed && put ≡ true
      → MatchOption (base_run slot next) (sweep_count committed put place (length chain) ≡ 0)
      (IsRunOf chain (sweep_from committed put place) (sweep_count committed put place (length chain)))
  base_goes true true last is = ⊎_elim
      (λ (none : next ≡ 0).
      subst (λ (b : Bool). MatchOption (cond b None (Some (record { newer = slot; first = next; count = 1 }))) (length chain - (place + 1) ≡ 0) (IsRunOf chain (place + 1) (length chain - (place + 1))))
      (sym (eq-eqb next 0 none)) (omega (arith, none_behind none)))
      (λ (some : next ≢ 0).
      subst (λ (b : Bool). MatchOption (cond b None (Some (record { newer = slot; first = next; count = 1 }))) (length chain - (place + 1) ≡ 0) (IsRunOf chain (place + 1) (length chain - (place + 1))))
      (sym (ne_eqb next 0 some)) (record { stands = base_stands some; many = omega (arith, one_behind some, last) }))
      (cases_eq next 0)
  base_goes true false last is = absurd (false≢true is)
  base_goes false put last is = absurd (false≢true is)

  pub own_goes : (committed put : Bool) → length chain ≤ place + 2 → committed && put ≡ false
      → IsRunOf chain (sweep_from committed put place) (sweep_count committed put place (length chain)) (own_run committed (slot_before chain place) slot next)
  own_goes true true last is = absurd (false≢true (sym is))
  own_goes true false last is = ⊎_elim
      (λ (none : next ≡ 0).
      subst (λ (b : Bool). IsRunOf chain place (length chain - place) (record { newer = slot_before chain place; first = slot; count = cond b 1 2 }))
      (sym (eq-eqb next 0 none)) (record { stands = own_stands 1 (omega arith) (omega (arith, stands.0)); many = omega (arith, none_behind none) }))
      (λ (some : next ≢ 0).
      subst (λ (b : Bool). IsRunOf chain place (length chain - place) (record { newer = slot_before chain place; first = slot; count = cond b 1 2 }))
      (sym (ne_eqb next 0 some)) (record { stands = own_stands 2 (omega arith) (one_behind some); many = omega (arith, one_behind some, last) }))
      (cases_eq next 0)
  own_goes false put last is = record { stands = own_stands 1 (omega arith) (omega (arith, stands.0)); many = refl }

-- ---- the write that is due

module _ (short : ℕ) (store : Store) (due : Due) (version : Slot) (sound : IsSound short (store.tables due.table) (store.layouts due.table))
    (is : version ≡ (store.tables due.table).slot due.slot) where
  abbrev its_table : Table
  its_table = store.tables due.table

  abbrev its_layout : Layout
  its_layout = store.layouts due.table

  abbrev its_chain : List ℕ
  its_chain = its_layout.chain due.row

  row_in : (place : ℕ) → IsDueAt store due place → is_row_in due version ≡ is_put_at store due
  row_in place at =
      let stands = slot_stands short its_table its_layout due.row place due.slot sound at.stands in
      let some : due.slot ≢ 0 = let from = stands.place.0 in omega (arith, from) in
      let its_row : version.row ≡ due.row = ap (λ (s : Slot). s.row) is ∙ stands.its_row in
      ap (λ (b : Bool). not b && ((version.row == due.row) && is_row version.state)) (ne_eqb due.slot 0 some)
      ∙ ap (λ (b : Bool). b && is_row version.state) (eq-eqb version.row due.row its_row)
      ∙ ap (λ (s : Slot). is_row s.state) is

  pub base_goes_with : due.committed && is_row_in due version ≡ true → (place : ℕ) → IsDueAt store due place → GoesWith store due place (base_run due.slot version.next)
  base_goes_with test place at =
      subst (λ (s : Slot). GoesWith store due place (base_run due.slot s.next)) (sym is)
      (base_goes short its_table its_layout due.row due.slot place sound at.used at.stands due.committed (is_put_at store due) at.last
      (ap (λ (b : Bool). due.committed && b) (sym (row_in place at)) ∙ test))

  pub own_goes_with : due.committed && is_row_in due version ≡ false → (newer : ℕ) → newer_in 0 due.slot its_chain ≡ Some newer
      → (place : ℕ) → IsDueAt store due place → GoesWith store due place (Some (own_run due.committed newer due.slot version.next))
  own_goes_with test newer found place at =
      let there : newer ≡ slot_before its_chain place =
      same_Some newer (slot_before its_chain place)
      (sym found ∙ newer_there 0 due.slot its_chain place (chain_once short its_table its_layout due.row sound) at.stands ∙ ap Some (as_before its_chain place)) in
      subst (λ (s : Slot). GoesWith store due place (Some (own_run due.committed newer due.slot s.next))) (sym is)
      (subst (λ (n : ℕ). GoesWith store due place (Some (own_run due.committed n due.slot (its_table.slot due.slot).next))) (sym there)
      (own_goes short its_table its_layout due.row due.slot place sound at.used at.stands due.committed (is_put_at store due) at.last
      (ap (λ (b : Bool). due.committed && b) (sym (row_in place at)) ∙ test)))

  pub is_found : newer_in 0 due.slot its_chain ≡ None → (place : ℕ) → IsDueAt store due place → ⊥
  is_found none place at =
      none-some _ (sym none ∙ newer_there 0 due.slot its_chain place (chain_once short its_table its_layout due.row sound) at.stands)

  abbrev Has : Run → Type 0
  Has run = HasVersions store due.table due.row run.newer run.first run.count

  has_run : (found : Option Run) → IsUsedRow its_table due.row → IfSome found (λ run. (from : ℕ) × IsRun its_chain from run.newer run.first run.count) → IfSome found Has
  has_run None used stands = tt
  has_run (Some run) used stands = record { used = used; from = stands.0; run = stands.1 }

  pub base_stand : due.committed && is_row_in due version ≡ true → due.slot ≤ its_table.header.slots → IfSome (base_run due.slot version.next) Has
  base_stand test within =
      let row_is = (and_parts due.committed (is_row_in due version) test).1 in
      let some = and_parts (not (due.slot == 0)) ((version.row == due.row) && is_row version.state) row_is in
      let row = and_parts (version.row == due.row) (is_row version.state) some.1 in
      let other : due.slot ≢ 0 = eqb-false due.slot 0 (not-true (due.slot == 0) some.0) in
      let its_row : (its_table.slot due.slot).row ≡ due.row = ap (λ (s : Slot). s.row) (sym is) ∙ eqb-true version.row due.row row.0 in
      let taken : (its_table.slot due.slot).state ≡ Free → ⊥ = λ free. false≢true (sym (ap (λ (s : Slot). is_row s.state) is ∙ ap is_row free) ∙ row.1) in
      let linked = sound.linked due.slot (omega (arith, other), within) taken in
      let used : IsUsedRow its_table due.row = subst (IsUsedRow its_table) its_row linked.0 in
      let there = at_from_Contains its_chain due.slot (subst (λ (r : ℕ). Contains (its_layout.chain r) due.slot) its_row linked.1) in
      subst (λ (s : Slot). IfSome (base_run due.slot s.next) Has) (sym is)
      (has_run (base_run due.slot (its_table.slot due.slot).next) used
      (base_run_stands short its_table its_layout due.row due.slot there.0 sound used (there.1, there.2 0)))

  pub own_stand : (newer : ℕ) → newer_in 0 due.slot its_chain ≡ Some newer → IsUsedRow its_table due.row → Has (own_run due.committed newer due.slot version.next)
  own_stand newer found used =
      let there = found_there 0 newer due.slot its_chain found in
      let front : slot_before its_chain there.place ≡ newer = sym (as_before its_chain there.place) ∙ there.front in
      subst (λ (s : Slot). Has (own_run due.committed newer due.slot s.next)) (sym is)
      (subst (λ (n : ℕ). Has (own_run due.committed n due.slot (its_table.slot due.slot).next)) front
      (record {
        used = used;
        from = there.place;
        run = own_run_stands short its_table its_layout due.row due.slot there.place sound used there.stands due.committed;
      }))
