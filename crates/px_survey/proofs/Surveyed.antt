-- What a survey has found sound, and what it names as a flaw.
use Rattle.std.proofs.Common.{◌≡◌, ℕ, ◌<◌, ◌≤◌, List, refl, sym, subst, ◌∙◌, arith, inl, inr, ⊎_elim}
use Rattle.std.specs.Prelude.{Contains, IsTrue, ◌⊎◌}
use Rattle.std.proofs.lemmas.List.Elements.{All-contains, All-weaker}
use Rattle.px_cells.specs.declared.slot.SlotState.{SlotState}
use Rattle.px_cells.specs.declared.slot.SlotState.TheVariants.{Free, Row, Deletion}
use Rattle.px_cells.specs.Form.{is_slot}
use Rattle.px_free.specs.Places.{rows_of}
use Rattle.px_chain.specs.Table.{Table}
use Rattle.px_chain.specs.Sound.{IsPlace, IsSlot, IsFreeSlot, IsFreeRow, IsUsedRow, IsVariation, IsChain, Layout, IsSound, head_of, next_slot}
use Rattle.px_chain.proofs.Walks.{walk_none}
use Rattle.px_survey.specs.Walked.{Strays}
use Rattle.px_survey.specs.Flaws.{IsOnFreeSlots, IsOnFreeRows, MeetsFreeRow, IsFlawedHeader, SharesSlot, SharesKey, IsFlawedChain, IsFlawedPointer, IsUnmet}
use Rattle.px_survey.specs.Surveyed.{IsSurveyed, IsListed}
use Rattle.px_survey.proofs.Walked.{IsWalked, meets_in, in_meets, no_stray}

-- ---- the lists of a survey are walked

slots_walked : (table : Table) (row : ℕ) (layout : Layout) → IsSurveyed table row layout
    → IsWalked (IsOnFreeSlots table) (next_slot table) table.header.free_slot layout.free_slots
slots_walked table row layout is = record { some = λ p on. on.0.0; walk = is.free_slots_walk; on = is.free_slots }

pub rows_walked : (table : Table) (row : ℕ) (layout : Layout) → IsSurveyed table row layout
    → IsWalked (IsOnFreeRows table) (head_of table) table.header.free_row layout.free_rows
rows_walked table row layout is = record { some = λ p on. on.0.0; walk = is.free_rows_walk; on = is.free_rows }

pub chain_walked : (table : Table) (row : ℕ) (chain : List ℕ) → IsChain table row chain → IsWalked (IsVariation table row) (next_slot table) (head_of table row) chain
chain_walked table row chain is = record { some = λ p v. v.place.0; walk = is.walk; on = is.variations }

-- ---- what was surveyed has no flaw

pub no_flawed_header : (table : Table) (row : ℕ) (layout : Layout) → IsSurveyed table row layout → IsFlawedHeader table → ⊥
no_flawed_header table row layout is flaw = ⊎_elim
    (λ (s : Strays (IsOnFreeSlots table) (next_slot table) table.header.free_slot).
    no_stray (IsOnFreeSlots table) (next_slot table) table.header.free_slot layout.free_slots (slots_walked table row layout is) s)
    (λ (s : Strays (IsOnFreeRows table) (head_of table) table.header.free_row).
    no_stray (IsOnFreeRows table) (head_of table) table.header.free_row layout.free_rows (rows_walked table row layout is) s)
    flaw

no_shared_slot : (table : Table) (row : ℕ) (layout : Layout) → IsSurveyed table row layout → (r : ℕ) → IsUsedRow table r → r < row → SharesSlot table r → ⊥
no_shared_slot table row layout is r used below s =
    let c = is.chains r used below in
    let d = is.chains s.other s.used (let e = s.earlier in omega arith) in
    let here = All-contains (IsVariation table r) (layout.chain r) s.slot c.variations
    (meets_in (IsVariation table r) (next_slot table) (head_of table r) (layout.chain r) (chain_walked table r (layout.chain r) c) s.slot s.here) in
    let there = All-contains (IsVariation table s.other) (layout.chain s.other) s.slot d.variations
    (meets_in (IsVariation table s.other) (next_slot table) (head_of table s.other) (layout.chain s.other) (chain_walked table s.other (layout.chain s.other) d) s.slot s.there) in
    let same : r ≡ s.other = sym here.its_row ∙ there.its_row in
    let e = s.earlier in absurd (omega (arith, same))

no_flawed_chain : (table : Table) (row : ℕ) (layout : Layout) → IsSurveyed table row layout → (r : ℕ) → IsUsedRow table r → r < row → IsFlawedChain table r → ⊥
no_flawed_chain table row layout is r used below flaw =
    let c = is.chains r used below in
    let w = chain_walked table r (layout.chain r) c in
    ⊎_elim
    (λ (none : head_of table r ≡ 0). c.some (walk_none (next_slot table) (head_of table r) (layout.chain r)
    (All-weaker (IsVariation table r) (λ (p : ℕ). 1 ≤ p) (λ p v. v.place.0) (layout.chain r) c.variations) c.walk none))
    (λ rest. ⊎_elim
    (λ (s : Strays (IsVariation table r) (next_slot table) (head_of table r)). no_stray (IsVariation table r) (next_slot table) (head_of table r) (layout.chain r) w s)
    (λ others. ⊎_elim
    (λ (s : SharesSlot table r). no_shared_slot table row layout is r used below s)
    (λ (s : SharesKey table r). let e = s.earlier in let same : s.other ≡ r = is.keys s.other r s.used used (omega arith) below s.same in absurd (omega (arith, same)))
    others)
    rest)
    flaw

pub no_flawed_pointer : (table : Table) (row : ℕ) (layout : Layout) → IsSurveyed table row layout → (r : ℕ) → (IsPlace (rows_of table.header) r → r < row)
    → IsFlawedPointer table r → ⊥
no_flawed_pointer table row layout is r below flaw = ⊎_elim
    (λ (f : IsPlace (rows_of table.header) r × IsFreeRow table r × (MeetsFreeRow table r → ⊥)).
    f.2 (in_meets (IsOnFreeRows table) (head_of table) table.header.free_row layout.free_rows (rows_walked table row layout is) r (is.free r f.0 (below f.0) f.1)))
    (λ (f : IsUsedRow table r × IsFlawedChain table r). no_flawed_chain table row layout is r f.0 (below f.0.0) f.1)
    flaw

pub listed_met : (table : Table) (row : ℕ) (layout : Layout) → IsSurveyed table row layout → (slot : ℕ) → IsListed table row layout slot → IsUnmet table slot → ⊥
listed_met table row layout is slot listed unmet = ⊎_elim
    (λ (there : Contains layout.free_slots slot).
    unmet.free (in_meets (IsOnFreeSlots table) (next_slot table) table.header.free_slot layout.free_slots (slots_walked table row layout is) slot there))
    (λ (x : (r : ℕ) × IsUsedRow table r × (r < row) × Contains (layout.chain r) slot).
    unmet.chains x.0 x.1 (in_meets (IsVariation table x.0) (next_slot table) (head_of table x.0) (layout.chain x.0)
    (chain_walked table x.0 (layout.chain x.0) (is.chains x.0 x.1 x.2)) slot x.3))
    listed

-- what stands on no list is met by no walk
pub unlisted_unmet : (table : Table) (row : ℕ) (layout : Layout) → IsSurveyed table row layout → table.header.rows < row → (slot : ℕ) → IsSlot table slot
    → (IsListed table row layout slot → ⊥) → IsUnmet table slot
unlisted_unmet table row layout is all slot place off = record {
  place = place;
  free = λ met. off (inl (meets_in (IsOnFreeSlots table) (next_slot table) table.header.free_slot layout.free_slots (slots_walked table row layout is) slot met));
  chains = λ r used met.
      let below : r < row = (let p = used.0.1 in omega arith) in
      off (inr (
        r,
        used,
        below,
        meets_in (IsVariation table r) (next_slot table) (head_of table r) (layout.chain r)
            (chain_walked table r (layout.chain r) (is.chains r used below)) slot met,
      ));
}

-- ---- sound cells are surveyed, and cells whose survey came to its end are sound

pub sound_surveyed : (short : ℕ) (table : Table) (row : ℕ) (layout : Layout) → IsSound short table layout → IsSurveyed table row layout
sound_surveyed short table row layout sound = record {
  free_slots_walk = sound.free_slots.walk;
  free_slots = sound.free_slots.free;
  free_rows_walk = sound.free_rows.walk;
  free_rows = sound.free_rows.free;
  free = λ r place below free. sound.free_rows.whole r place free;
  chains = λ r used below. sound.chains r used;
  no_chain = sound.no_chain;
  keys = λ r other used used_other below below_other same. sound.keys r other used used_other same;
}

in_chain : (table : Table) (row : ℕ) (layout : Layout) → IsSurveyed table row layout → (r slot : ℕ) → IsUsedRow table r → r < row → Contains (layout.chain r) slot → IsVariation table r slot
in_chain table row layout is r slot used below there = All-contains (IsVariation table r) (layout.chain r) slot (is.chains r used below).variations there

in_free : (table : Table) (row : ℕ) (layout : Layout) → IsSurveyed table row layout → (slot : ℕ) → Contains layout.free_slots slot → IsFreeSlot table slot
in_free table row layout is slot there = (All-contains (IsOnFreeSlots table) layout.free_slots slot is.free_slots there).1

pub surveyed_sound : (short : ℕ) (table : Table) (row : ℕ) (layout : Layout) → IsSurveyed table row layout → table.header.rows < row
    → ((slot : ℕ) → IsSlot table slot → IsListed table row layout slot) → ((slot : ℕ) → IsSlot table slot → IsTrue (is_slot short (table.slot slot)))
    → IsSound short table layout
surveyed_sound short table row layout is all listed form =
    let below : (r : ℕ) → IsPlace (rows_of table.header) r → r < row = λ r place. let p = place.1 in omega arith in
    record {
      form = form;
      free_slots = record {
        walk = is.free_slots_walk;
        free = is.free_slots;
        whole = λ slot place free. ⊎_elim
            (λ (there : Contains layout.free_slots slot). there)
            (λ (x : (r : ℕ) × IsUsedRow table r × (r < row) × Contains (layout.chain r) slot). absurd ((in_chain table row layout is x.0 slot x.1 x.2 x.3).used free))
            (listed slot place);
      };
      free_rows = record { walk = is.free_rows_walk; free = is.free_rows; whole = λ r place free. is.free r place (below r place) free };
      chains = λ r used. is.chains r used (below r used.0);
      no_chain = is.no_chain;
      linked = λ slot place used. ⊎_elim
          (λ (there : Contains layout.free_slots slot). absurd (used (in_free table row layout is slot there)))
          (λ (x : (r : ℕ) × IsUsedRow table r × (r < row) × Contains (layout.chain r) slot).
          let its = (in_chain table row layout is x.0 slot x.1 x.2 x.3).its_row in (
            subst (λ (r : ℕ). IsUsedRow table r) (sym its) x.1,
            subst (λ (r : ℕ). Contains (layout.chain r) slot) (sym its) x.3,
          ))
          (listed slot place);
      keys = λ r other used used_other same. is.keys r other used used_other (below r used.0) (below other used_other.0) same;
    }

pub free_or_not : (state : SlotState) → (state ≡ Free) ⊎ (state ≡ Free → ⊥)
free_or_not Free = inl refl
free_or_not Row = inr (λ e. cc)
free_or_not Deletion = inr (λ e. cc)

-- of sound cells each slot stands on a list
pub sound_listed : (short : ℕ) (table : Table) (row : ℕ) (layout : Layout) → IsSound short table layout → table.header.rows < row → (slot : ℕ) → IsSlot table slot
    → IsListed table row layout slot
sound_listed short table row layout sound all slot place = ⊎_elim
    (λ (free : IsFreeSlot table slot). inl (sound.free_slots.whole slot place free))
    (λ (used : IsFreeSlot table slot → ⊥).
    let l = sound.linked slot place used in
    let below : (table.slot slot).row < row = (let p = l.0.0.1 in omega arith) in
    inr ((table.slot slot).row, l.0, below, l.1))
    (free_or_not (table.slot slot).state)
