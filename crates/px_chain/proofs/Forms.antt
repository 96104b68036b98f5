-- The slots that an unlink changes are in a form that the store may have.
use Rattle.std.proofs.Common.{◌≡◌, ◌≢◌, ℕ, true, IsTrue, List, [], ◌∷◌, ◌++◌, take, drop, refl}
use Rattle.std.specs.Prelude.{All, IfSome, Option, Some, None, fold, nat_le, unwrap_or}
use Rattle.std.specs.List.{position_or_len}
use Rattle.std.proofs.lemmas.Bool.{and_parts}
use Rattle.std.proofs.lemmas.List.Elements.{All-nil, All-cons, All-head, All-tail, All-append, All-take, All-drop}
use Rattle.px_cells.specs.declared.header.Header.{Header}
use Rattle.px_cells.specs.declared.slot.Slot.{Slot}
use Rattle.px_cells.specs.declared.slot.SlotState.{SlotState}
use Rattle.px_cells.specs.declared.slot.SlotState.TheVariants.{Free, Row, Deletion}
use Rattle.px_cells.specs.Form.{is_slot, is_in_state, has_key}
use Rattle.px_chain.specs.declared.chain.Linked.{Linked}
use Rattle.px_chain.specs.Near.{IsNearStored, Near, led_to, near_slots}
use Rattle.px_chain.specs.Links.{IsStored, first_or, freed_slot, freed, relinked, placed, parts_of, unlinked_slots}

abbrev pub IsFormed : ℕ → Linked → Type 0
IsFormed short linked = IsTrue (is_slot short linked.slot)

abbrev pub IsLinkStored : ℕ → Linked → Type 0
IsLinkStored short linked = IsStored short linked.slot

keyed : (short : ℕ) (slot : Slot) (state : SlotState) → IsTrue (is_in_state short slot state) → state ≢ Free → has_key slot ≡ true
keyed short slot Free form used = absurd (used refl)
keyed short slot Row form used = (and_parts (has_key slot) _ form).0
keyed short slot Deletion form used = (and_parts (has_key slot) _ form).0

pub freed_form : (short next : ℕ) (slot : Slot) → IsStored short slot → IsTrue (is_slot short (freed_slot slot next))
unfolding is_slot
freed_form short next slot stored = rw (keyed short slot slot.state stored.form stored.used) refl

next_form : (short next : ℕ) (slot : Slot) (state : SlotState) → IsTrue (is_in_state short slot state) → state ≢ Free → IsTrue (is_in_state short (record slot { next = next }) state)
next_form short next slot Free form used = absurd (used refl)
next_form short next slot Row form used = form
next_form short next slot Deletion form used = form

pub relinked_form : (short next : ℕ) (slot : Slot) → IsStored short slot → IsTrue (is_slot short (record slot { next = next }))
unfolding is_slot
relinked_form short next slot stored = next_form short next slot slot.state stored.form stored.used

all_freed : (short front : ℕ) (slots : List Linked) → All (IsLinkStored short) slots → All (IsFormed short) (freed slots front)
all_freed short front [] all = All-nil (IsFormed short)
all_freed short front (first ∷ others) all =
    All-cons (IsFormed short) _ (freed others front) (freed_form short (first_or others front) first.slot (All-head (IsLinkStored short) first others all))
    (all_freed short front others (All-tail (IsLinkStored short) first others all))

all_relinked : (short next : ℕ) (slots : List Linked) → All (IsLinkStored short) slots → All (IsFormed short) (relinked slots next)
all_relinked short next [] all = All-nil (IsFormed short)
all_relinked short next (last ∷ []) all =
    All-cons (IsFormed short) _ [] (relinked_form short next last.slot (All-head (IsLinkStored short) last [] all)) (All-nil (IsFormed short))
all_relinked short next (first ∷ (second ∷ others)) all = all_relinked short next (second ∷ others) (All-tail (IsLinkStored short) first (second ∷ others) all)

all_placed : (P : Linked → Type 0) (slots : List Linked) (linked : Linked) → All P slots → P linked → All P (placed slots linked)
all_placed P slots linked all one =
    let at = position_or_len (λ (other : Linked). nat_le linked.number other.number) slots in
    All-append P (take at slots) (linked ∷ drop at slots) (All-take P at slots all) (All-cons P linked (drop at slots) one (All-drop P at slots all))

pub all_in_order : (P : Linked → Type 0) (sorted slots : List Linked) → All P sorted → All P slots → All P (fold placed sorted slots)
all_in_order P sorted [] all more = all
all_in_order P sorted (first ∷ others) all more =
    all_in_order P (placed sorted first) others (all_placed P sorted first all (All-head P first others more)) (All-tail P first others more)

pub all_unlinked : (short : ℕ) (header : Header) (chain : List Linked) (from count : ℕ) → All (IsLinkStored short) chain
    → All (IsFormed short) (unlinked_slots header (parts_of chain from count))
all_unlinked short header chain from count all =
    let parts = parts_of chain from count in
    all_in_order (IsFormed short) [] (relinked parts.before (first_or parts.behind 0) ++ freed parts.gone header.free_slot) (All-nil (IsFormed short))
    (All-append (IsFormed short) (relinked parts.before (first_or parts.behind 0)) (freed parts.gone header.free_slot)
    (all_relinked short (first_or parts.behind 0) parts.before (All-take (IsLinkStored short) from chain all))
    (all_freed short header.free_slot parts.gone (All-take (IsLinkStored short) count (drop from chain) (All-drop (IsLinkStored short) from chain all))))

led_form : (short next : ℕ) (linked : Option Linked) → IfSome linked (IsLinkStored short) → All (IsFormed short) (led_to next linked)
led_form short next None is = All-nil (IsFormed short)
led_form short next (Some linked) is = All-cons (IsFormed short) _ [] (relinked_form short next linked.slot is) (All-nil (IsFormed short))

pub all_near : (short : ℕ) (header : Header) (near : Near) → IsNearStored short near → All (IsFormed short) (near_slots header near)
all_near short header near is =
    let next = unwrap_or near.older 0 in
    all_in_order (IsFormed short) [] (led_to next near.newer ++ freed near.gone header.free_slot) (All-nil (IsFormed short))
    (All-append (IsFormed short) (led_to next near.newer) (freed near.gone header.free_slot)
    (led_form short next near.newer is.newer) (all_freed short header.free_slot near.gone is.gone))
