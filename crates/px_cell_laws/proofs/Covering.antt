-- What is left of a row shows what the whole of it showed, so the unlink may follow.
use Rattle.std.proofs.Common.{◌≡◌, ℕ, ◌+◌, ◌≤◌, true, false, List, [], ◌∷◌, ◌++◌, take, drop, length, None, Some, Option, sym, ap, subst, ◌∙◌, arith, inl, inr, ⊎_elim, length-append}
use Rattle.std.specs.Prelude.{◌⊎◌, Contains}
use Rattle.std.proofs.lemmas.List.{append-nil, length-map}
use Rattle.std.proofs.Math.Seq.{take-append_seam}
use Rattle.px_cells.specs.declared.slot.Slot.{Slot}
use Rattle.px_history.specs.Steps.{IsStep}
use Rattle.px_history.specs.Store.{Store, versions_of}
use Rattle.px_model.specs.Machine.{Machine}
use Rattle.px_model.specs.declared.machine.Flat.{Flat}
use Rattle.px_shown.specs.Changes.{left_of}
use Rattle.px_shown.specs.Shown.{Done, first_done, slot_in, slot_shown}
use Rattle.px_shown.specs.Writes.{HasNoneDone}
use Rattle.px_shown.proofs.Firsts.{first_found, first_split, none_done, shown_of}
use Rattle.std.specs.Option.{option_or}
use Rattle.px_shown.proofs.Unlinking.{none_of_them_done, one_in_front_done}
use Rattle.px_cell_laws.proofs.Cutting.{gone_part, left_parts}
use Rattle.px_cell_laws.specs.Sweeping.{IsSweptAt, sweep_count_of, sweep_of}
use Rattle.px_cell_laws.proofs.Sweeping.{Covers, IsCut, cut}
use Rattle.px_cell_laws.specs.Holding.{HoldsChains}
use Rattle.px_chain_laws.specs.Kept.{IsKept}
use Rattle.std.proofs.lemmas.Bool.{cases_Bool}
use Rattle.std.proofs.lemmas.List.Elements.{All-cons, All-nil, All-same}
use Rattle.px_chain.proofs.Walks.{contains_first, contains_other}
use Rattle.px_shown.specs.Parts.{Parts}

-- one of them is done, or none
done_or_none : (done : Done) (slots : List Slot) → HasNoneDone done slots ⊎ ((slot : Slot) × Contains slots slot × (done slot.xn ≡ true))
done_or_none done [] = inl (All-nil (λ (s : Slot). done s.xn ≡ false))
done_or_none done (slot ∷ slots) = ⊎_elim
    (λ (yes : done slot.xn ≡ true). inr (slot, contains_first slot slots, yes))
    (λ (no : done slot.xn ≡ false). ⊎_elim
    (λ (none : HasNoneDone done slots). inl (All-cons (λ (s : Slot). done s.xn ≡ false) slot slots no none))
    (λ (found : (older : Slot) × Contains slots older × (done older.xn ≡ true)). inr (found.0, contains_other slot found.0 slots found.1, found.2))
    (done_or_none done slots))
    (cases_Bool (done slot.xn))

first_behind : (done : Done) (before : List Slot) (slot : Slot) (behind : List Slot) → HasNoneDone done before → done slot.xn ≡ true
    → first_done done (before ++ slot ∷ behind) ≡ Some slot
first_behind done before slot behind none is =
    first_split done before (slot ∷ behind)
    ∙ ap (λ (o : Option Slot). option_or o (first_done done (slot ∷ behind))) (none_done done before none)
    ∙ first_found done slot behind is

-- where a deletion is the first that is done
deletion_first : (done : Done) (before : List Slot) (slot : Slot) (older behind : List Slot) → slot_in slot.state slot ≡ None → done slot.xn ≡ true → behind ≡ []
    → HasNoneDone done before
    → slot_shown done (left_of (before ++ ((slot ∷ older) ++ behind)) (length before) (length (slot ∷ older))) ≡ slot_shown done (before ++ ((slot ∷ older) ++ behind))
deletion_first done before slot older behind kind is none not_done =
    ap (slot_shown done) (left_parts before (slot ∷ older) behind ∙ ap (λ (l : List Slot). before ++ l) none ∙ append-nil before)
    ∙ ap shown_of (none_done done before not_done)
    ∙ sym (ap shown_of (first_behind done before slot (older ++ behind) not_done is) ∙ kind)

covered_shown : (done : Done) (before gone behind : List Slot) (slot : Slot) → Contains before slot → done slot.xn ≡ true
    → slot_shown done (left_of (before ++ (gone ++ behind)) (length before) (length gone)) ≡ slot_shown done (before ++ (gone ++ behind))
covered_shown done before gone behind slot there is =
    one_in_front_done done (before ++ (gone ++ behind)) slot (length before) (length gone)
    (subst (λ (l : List Slot). Contains l slot) (sym (take-append_seam before (gone ++ behind))) there) is

same_shown : (done : Done) (before gone behind : List Slot) → Covers done before gone behind
    → slot_shown done (left_of (before ++ (gone ++ behind)) (length before) (length gone)) ≡ slot_shown done (before ++ (gone ++ behind))
same_shown done before gone behind (Covers.not_done none) =
    none_of_them_done done (before ++ (gone ++ behind)) (length before) (length gone)
    (All-same (λ (s : Slot). done s.xn ≡ false) (take (length gone) (drop (length before) (before ++ (gone ++ behind)))) gone (gone_part before gone behind) none)
same_shown done before gone behind (Covers.older slot there is) = covered_shown done before gone behind slot there is
same_shown done before gone behind (Covers.deleted slot older split kind is none) =
    subst (λ (l : List Slot). slot_shown done (left_of (before ++ (l ++ behind)) (length before) (length l)) ≡ slot_shown done (before ++ (l ++ behind))) (sym split)
    (⊎_elim
    (λ (not_done : HasNoneDone done before). deletion_first done before slot older behind kind is none not_done)
    (λ (found : (newer : Slot) × Contains before newer × (done newer.xn ≡ true)). covered_shown done before (slot ∷ older) behind found.0 found.1 found.2)
    (done_or_none done before))

cut_shown : (done : Done) (slots before gone behind : List Slot) (from count : ℕ) → slots ≡ before ++ (gone ++ behind) → from ≡ length before → count ≡ length gone
    → Covers done before gone behind → slot_shown done (left_of slots from count) ≡ slot_shown done slots
cut_shown done slots before gone behind from count split first many covers =
    ap (λ (l : List Slot). slot_shown done (left_of l from count)) split
    ∙ ap (λ (n : ℕ). slot_shown done (left_of (before ++ (gone ++ behind)) n count)) first
    ∙ ap (λ (n : ℕ). slot_shown done (left_of (before ++ (gone ++ behind)) (length before) n)) many
    ∙ same_shown done before gone behind covers
    ∙ sym (ap (slot_shown done) split)

pub within_row : (parts : Parts) (m : Machine) (store : Store) (w : Flat) (t row from count : ℕ) → IsCut parts m store w t row from count → from + count ≤ length ((store.layouts t).chain row)
within_row parts m store w t row from count c =
    let places = (store.layouts t).chain row in
    let first = c.first in
    let many = c.many in
    let all : length (versions_of store t row) ≡ length c.before + (length c.gone + length c.behind) =
    ap (λ (l : List Slot). length l) c.split
    ∙ length-append c.before (c.gone ++ c.behind)
    ∙ ap (λ (n : ℕ). length c.before + n) (length-append c.gone c.behind) in
    let same : length (versions_of store t row) ≡ length places = length-map places (store.tables t).slot in
    omega (arith, first, many, all, same)

pub sweep_follows : (parts : Parts) (m : Machine) (store : Store) (w : Flat) (t row place : ℕ) → HoldsChains parts m store → IsKept m → IsSweptAt m store w t row place
    → 1 ≤ sweep_count_of store w t row place → IsStep parts m.short store (sweep_of store w t row place)
sweep_follows parts m store w t row place h k at some =
    let c = cut parts m store w t row place h k at in
    record {
      used = at.used;
      some = some;
      within = within_row parts m store w t row _ _ c;
      same = cut_shown store.done (versions_of store t row) c.before c.gone c.behind _ _ c.split c.first c.many c.covers;
    }
