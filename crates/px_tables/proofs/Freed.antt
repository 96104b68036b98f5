-- The walk along the free list meets its slots and ends.
use Rattle.std.proofs.Common.{◌≡◌, ℕ, ◌+◌, ◌≤◌, List, length, refl, ap, ◌∙◌, arith}
use Rattle.std.specs.Prelude.{Contains}
use Rattle.std.proofs.lemmas.List.{length-map}
use Rattle.std.proofs.lemmas.List.Elements.{All-contains}
use Rattle.px_cells.specs.declared.slot.Slot.{Slot}
use Rattle.px_chain.specs.declared.chain.Linked.{Linked}
use Rattle.px_chain.specs.Sound.{IsFreeSlot, IsSlot, Layout}
use Rattle.px_chain.proofs.SoundLaws.{free_slots_once}
use Rattle.px_chain.proofs.Walks.{all_from}
use Rattle.px_tables.specs.Held.{Cells, HasLayout, IsKept, table_of}
use Rattle.px_tables.specs.Walked.{Ends, walked}
use Rattle.px_tables.proofs.Few.{few}
use Rattle.px_tables.proofs.Walking.{IsStep, ends_walked, linked_at}

is_free_slot : (cells : Cells) (layout : Layout) (n : ℕ) → HasLayout cells layout → Contains layout.free_slots n → IsSlot (table_of cells) n
is_free_slot cells layout n sound there =
    (All-contains (λ (p : ℕ). IsSlot (table_of cells) p × IsFreeSlot (table_of cells) p) layout.free_slots n sound.free_slots.free there).0

pub few_free : (cells : Cells) (layout : Layout) → HasLayout cells layout → length layout.free_slots ≤ cells.header.slots
few_free cells layout sound =
    few cells.header.slots layout.free_slots (free_slots_once cells.short (table_of cells) layout sound) (λ n there. is_free_slot cells layout n sound there)

free_ends : (cells : Cells) (layout : Layout) → length cells.slots ≡ cells.header.slots + 1 → HasLayout cells layout
    → (ends : Ends cells.slots cells.header.free_slot) × (ends.chain ≡ layout.free_slots)
free_ends cells layout len sound = (
  record {
    chain = layout.free_slots;
    walk = sound.free_slots.walk;
    places = all_from (IsStep cells.slots) layout.free_slots (λ n there. let s = is_free_slot cells layout n sound there in (s.0, omega (arith, s.1, len)));
    short = omega (arith, few_free cells layout sound, len);
  },
  refl,
)

pub free_list_ends : {cells : Cells} {keys : List (List ℕ × ℕ)} → IsKept cells keys → Ends cells.slots cells.header.free_slot
free_list_ends {cells} kept = (free_ends cells kept.layout kept.slots kept.sound).0

-- as many slots as stand on it
pub free_walked : {cells : Cells} {keys : List (List ℕ × ℕ)} (layout : Layout) → IsKept cells keys → HasLayout cells layout
    → length (walked (length cells.slots) cells.slots cells.header.free_slot) ≡ length layout.free_slots
free_walked {cells} layout kept sound =
    let e = free_ends cells layout kept.slots sound in
    ap length (ends_walked cells.slots cells.header.free_slot e.0)
    ∙ length-map e.0.chain (linked_at cells.slots)
    ∙ ap length e.1

pub free_walked_few : {cells : Cells} {keys : List (List ℕ × ℕ)} → IsKept cells keys
    → length (walked (length cells.slots) cells.slots cells.header.free_slot) ≤ cells.header.slots
free_walked_few {cells} kept = omega (arith, free_walked kept.layout kept kept.sound, few_free cells kept.layout kept.sound)

-- ---- what is left to meet of it

abbrev pub AreFree : Cells → List Slot → List Linked → Type 0
AreFree cells slots left = (slots ≡ cells.slots) × (left ≡ walked (length slots) slots cells.header.free_slot)

left_walked : (cells : Cells) (slots : List Slot) (left : List Linked) → AreFree cells slots left
    → length left ≡ length (walked (length cells.slots) cells.slots cells.header.free_slot)
left_walked cells slots left are = ap length are.1 ∙ ap (λ (l : List Slot). length (walked (length l) l cells.header.free_slot)) are.0

pub left_counted : {cells : Cells} {keys : List (List ℕ × ℕ)} (slots : List Slot) (left : List Linked) (layout : Layout) → IsKept cells keys → AreFree cells slots left
    → HasLayout cells layout → length left ≡ length layout.free_slots
left_counted {cells} slots left layout kept are sound = left_walked cells slots left are ∙ free_walked layout kept sound

pub left_few : {cells : Cells} {keys : List (List ℕ × ℕ)} (slots : List Slot) (left : List Linked) → IsKept cells keys → AreFree cells slots left
    → length left ≤ cells.header.slots
left_few {cells} slots left kept are = omega (arith, left_walked cells slots left are, free_walked_few kept)
