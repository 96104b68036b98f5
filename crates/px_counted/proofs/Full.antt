-- Where the places of a table have run out.
use Rattle.std.proofs.Common.{◌≡◌, ◌≢◌, ℕ, ◌-◌, ◌^◌, ◌<◌, ◌≤◌, List, [], ◌∷◌, length, refl, ap, arith}
use Rattle.px_free.specs.Places.{AreFull, Places, rows_of, slots_of}
use Rattle.px_chain.specs.Sound.{IsFreeList, IsFreeRow, IsFreeSlot, IsSound, Layout, Walks, head_of, next_slot}
use Rattle.px_chain.specs.Table.{Table}
use Rattle.px_chain.proofs.FreeLists.{places_of}
use Rattle.px_chain.proofs.Walks.{walk_none}
use Rattle.px_model.specs.declared.limits.TheConstants.{MOST_VARIATIONS}
use Rattle.px_counted.specs.Counts.{slots_in_chains, used_rows}
use Rattle.px_counted.proofs.Lists.{one_each}
use Rattle.px_counted.proofs.Places.{among_is_used, rows_counted, slots_counted}

-- ---- a free list without places

none_listed : (places : Places) (next : ℕ → ℕ) (IsFree : ℕ → Type 0) (list : List ℕ) → IsFreeList places next IsFree list → places.front ≡ 0 → length list ≡ 0
none_listed places next IsFree list is none = ap length (walk_none next places.front list (places_of places next IsFree list is) is.walk none)

no_front : (next : ℕ → ℕ) (front : ℕ) (list : List ℕ) → Walks next front list 0 → length list ≡ 0 → front ≡ 0
no_front next front [] walk none = walk
no_front next front (x ∷ xs) walk none = absurd (omega arith)

-- ---- slots

pub full_in_chains : (short : ℕ) (table : Table) (layout : Layout) → IsSound short table layout → AreFull (slots_of table.header)
    → slots_in_chains table layout ≡ MOST_VARIATIONS
full_in_chains short table layout sound full =
    let all = slots_counted short table layout sound in
    let none = none_listed (slots_of table.header) (next_slot table) (IsFreeSlot table) layout.free_slots sound.free_slots full.0 in
    let used = full.1 in
    omega (arith, all, none, used)

filled : (short : ℕ) (table : Table) (layout : Layout) → IsSound short table layout → table.header.slots < 2 ^ 32
    → 2 ^ 32 - 1 ≤ slots_in_chains table layout → AreFull (slots_of table.header)
filled short table layout sound fits many =
    let all = slots_counted short table layout sound in (
      no_front (next_slot table) table.header.free_slot layout.free_slots sound.free_slots.walk (omega (arith, all, fits, many)),
      omega (arith, all, fits, many),
    )

pub chains_fill : (short : ℕ) (table : Table) (layout : Layout) → IsSound short table layout → table.header.slots < 2 ^ 32
    → slots_in_chains table layout ≡ MOST_VARIATIONS → AreFull (slots_of table.header)
chains_fill short table layout sound fits most = filled short table layout sound fits (omega (arith, most))

-- ---- row pointers

pub a_slot_each : (short : ℕ) (table : Table) (layout : Layout) → IsSound short table layout → length (used_rows table) ≤ slots_in_chains table layout
a_slot_each short table layout sound =
    one_each (λ row. length (layout.chain row)) (used_rows table)
    (λ row there. some (layout.chain row) (sound.chains row (among_is_used table row there)).some)
  where
    some : (list : List ℕ) → list ≢ [] → 1 ≤ length list
    some [] is = absurd (is refl)
    some (x ∷ xs) is = omega arith

pub slots_are_first : (short : ℕ) (table : Table) (layout : Layout) → IsSound short table layout → table.header.slots < 2 ^ 32
    → AreFull (rows_of table.header) → AreFull (slots_of table.header)
slots_are_first short table layout sound fits full =
    let all = rows_counted short table layout sound in
    let none = none_listed (rows_of table.header) (head_of table) (IsFreeRow table) layout.free_rows sound.free_rows full.0 in
    let each = a_slot_each short table layout sound in
    let used = full.1 in
    filled short table layout sound fits (omega (arith, all, none, each, used))
