-- The versions that go are read along the chain, and they and their neighbours tell what an unlink changes.
use Rattle.std.proofs.Common.{◌≡◌, ℕ, zero, suc, ◌+◌, ◌<◌, ◌≤◌, List, [], ◌∷◌, ◌++◌, map, take, drop, length, Option, refl, sym, ap, subst, ◌∙◌, append_assoc, arith}
use Rattle.std.proofs.Math.Seq.{take-suc}
use Rattle.std.proofs.lemmas.List.{append-nil, get_or-drop, length-drop, map-append}
use Rattle.px_cells.specs.declared.header.Header.{Header}
use Rattle.px_cells.specs.declared.slot.Slot.{Slot}
use Rattle.px_chain.specs.declared.chain.Linked.{Linked}
use Rattle.px_chain.specs.declared.unlinking.Unlinked.{Unlinked}
use Rattle.px_chain.specs.Links.{Parts, chain_of, pointer_content}
use Rattle.px_chain.specs.Near.{Near, linked_at, near_header, near_of, near_pointer, near_slots, number_at}
use Rattle.px_chain.specs.Places.{IsRun, StandsAt, slot_before, slot_in}
use Rattle.px_chain.specs.Sound.{Layout}
use Rattle.px_chain.specs.Table.{Table}
use Rattle.px_chain.proofs.Near.{header_told, pointer_told, slots_told}
use Rattle.px_chain.proofs.Standing.{near_run, slot_leads, slot_stands}
use Rattle.px_tables.specs.Held.{Cells, HasLayout, IsKept, slot_at, table_of}
use Rattle.px_tables.specs.Unlinking.{AreRead, IsUnlinkOf, parts_in}

abbrev with_number : Cells → ℕ → Linked
with_number cells n = record { number = n; slot = slot_at cells.slots n }

abbrev pub number_of : Linked → ℕ
number_of linked = linked.number

numbers_are : (table : Table) (chain : List ℕ) → map number_of (chain_of table chain) ≡ chain
numbers_are table [] = refl
numbers_are table (x ∷ xs) = ap (λ (l : List ℕ). x ∷ l) (numbers_are table xs)

pub one_number : (slots new all : List ℕ) (first : Linked) (old left : List Linked) → old ≡ first ∷ left → new ≡ slots ++ first.number ∷ []
    → slots ++ map number_of old ≡ all → new ++ map number_of left ≡ all
one_number slots new all first old left is pushed so_far =
    ap (λ (l : List ℕ). l ++ map number_of left) pushed ∙ append_assoc slots (first.number ∷ []) (map number_of left)
    ∙ ap (λ (l : List Linked). slots ++ map number_of l) (sym is) ∙ so_far

pub all_numbers : (table : Table) (chain slots : List ℕ) (walked left : List Linked) → left ≡ [] → slots ++ map number_of left ≡ map number_of walked
    → walked ≡ chain_of table chain → slots ≡ chain
all_numbers table chain slots walked left none so_far is =
    sym (append-nil slots) ∙ ap (λ (l : List Linked). slots ++ map number_of l) (sym none) ∙ so_far ∙ ap (map number_of) is ∙ numbers_are table chain

-- ---- along the chain

pub none_read : (cells : Cells) (chain : List ℕ) (from newer first count : ℕ) → IsRun chain from newer first count → AreRead cells chain from 0 [] first
none_read cells chain from newer first count run = record {
  gone_are = refl;
  behind_is = sym run.start ∙ ap (slot_in chain) (let e : from ≡ from + 0 = omega arith in e);
}

next_stands : (cells : Cells) (chain : List ℕ) (from newer first count met : ℕ) (gone : List Linked) (number : ℕ) → IsRun chain from newer first count → met < count
    → AreRead cells chain from met gone number → StandsAt chain (from + met) number
next_stands cells chain from newer first count met gone number run left read =
    let within = run.within in (omega (arith, within, left), sym read.behind_is)

pub next_within : {cells : Cells} {keys : List (List ℕ × ℕ)} (layout : Layout) (row from newer first count met : ℕ) (gone : List Linked) (number : ℕ)
    → IsKept cells keys → HasLayout cells layout → IsRun (layout.chain row) from newer first count → met < count → AreRead cells (layout.chain row) from met gone number
    → number < length cells.slots
next_within {cells} layout row from newer first count met gone number kept sound run left read =
    let v = slot_stands cells.short (table_of cells) layout row (from + met) number sound
    (next_stands cells (layout.chain row) from newer first count met gone number run left read) in
    let place = v.place in
    let len = kept.slots in
    omega (arith, place.1, len)

pub one_read : (cells : Cells) (layout : Layout) (row from newer first count met : ℕ) (gone : List Linked) (number : ℕ) (slot : Slot) → HasLayout cells layout
    → IsRun (layout.chain row) from newer first count → met < count → AreRead cells (layout.chain row) from met gone number → slot ≡ slot_at cells.slots number
    → AreRead cells (layout.chain row) from (met + 1) (gone ++ record { number = number; slot = slot } ∷ []) slot.next
one_read cells layout row from newer first count met gone number slot sound run left read is =
    let chain = layout.chain row in
    let stands = next_stands cells chain from newer first count met gone number run left read in
    let within = run.within in
    let rest = length-drop from chain in
    let one : suc met ≡ met + 1 = omega arith in
    let more : take (suc met) (drop from chain) ≡ take met (drop from chain) ++ number ∷ [] =
    take-suc (drop from chain) met 0 (omega (arith, within, left, rest))
    ∙ ap (λ (n : ℕ). take met (drop from chain) ++ n ∷ []) (get_or-drop from chain met 0 ∙ stands.1) in
    record {
      gone_are =
          ap (λ (l : List Linked). l ++ record { number = number; slot = slot } ∷ []) read.gone_are
          ∙ ap (λ (s : Slot). chain_of (table_of cells) (take met (drop from chain)) ++ record { number = number; slot = s } ∷ []) is
          ∙ sym (map-append (with_number cells) (take met (drop from chain)) (number ∷ []))
          ∙ ap (chain_of (table_of cells)) (sym more ∙ ap (λ (n : ℕ). take n (drop from chain)) one);
      behind_is =
          ap (λ (s : Slot). s.next) is ∙ slot_leads cells.short (table_of cells) layout row (from + met) number sound stands
          ∙ ap (slot_in chain) (let e : (from + met) + 1 ≡ from + (met + 1) = omega arith in e);
    }

-- so the next one is within the slots
pub read_within : {cells : Cells} {keys : List (List ℕ × ℕ)} (now : Cells) (first count met : ℕ) (gone : List Linked) (number : ℕ) → IsKept cells keys → cells ≡ now
    → (row : ℕ) × (newer : ℕ) × (from : ℕ) × ((layout : Layout) → HasLayout now layout → IsRun (layout.chain row) from newer first count) → met < count
    → ((layout : Layout) (row newer from : ℕ) → HasLayout now layout → IsRun (layout.chain row) from newer first count → AreRead now (layout.chain row) from met gone number)
    → number < length cells.slots
read_within {cells} now first count met gone number kept same runs left reads =
    let layout = kept.layout in
    let sound : HasLayout now layout = subst (λ (c : Cells). HasLayout c layout) same kept.sound in
    let run = runs.3 layout sound in
    next_within layout runs.0 runs.2 runs.1 first count met gone number kept kept.sound run left
    (subst (λ (c : Cells). AreRead c (layout.chain runs.0) runs.2 met gone number) (sym same) (reads layout runs.0 runs.1 runs.2 sound run))

-- ---- the neighbours

pub newer_within : (cells : Cells) (layout : Layout) (row from newer first count : ℕ) → HasLayout cells layout → IsRun (layout.chain row) from newer first count
    → newer ≤ cells.header.slots
newer_within cells layout row from newer first count sound run = in_front from run.front run.within
  where
    in_front : (place : ℕ) → slot_before (layout.chain row) place ≡ newer → place + count ≤ length (layout.chain row) → newer ≤ cells.header.slots
    in_front zero is within = omega (arith, is)
    in_front (suc place) is within =
        let v = slot_stands cells.short (table_of cells) layout row place newer sound (omega (arith, within), is) in
        v.place.1

abbrev pub nearby : Option Linked → List Linked → Option ℕ → Near
nearby newer gone older = record { newer = newer; gone = gone; older = older }

pub near_read : (cells : Cells) (layout : Layout) (row from newer first count : ℕ) (gone : List Linked) (behind : ℕ) → HasLayout cells layout
    → IsRun (layout.chain row) from newer first count → AreRead cells (layout.chain row) from count gone behind
    → near_of (parts_in cells layout row from count) ≡ nearby (linked_at (table_of cells) newer) gone (number_at behind)
near_read cells layout row from newer first count gone behind sound run read =
    let chain = layout.chain row in
    let table = table_of cells in
    near_run cells.short table layout row from count sound run.within
    ∙ ap (λ (n : ℕ). nearby (linked_at table n) (chain_of table (take count (drop from chain))) (number_at (slot_in chain (from + count)))) run.front
    ∙ ap (λ (l : List Linked). nearby (linked_at table newer) l (number_at (slot_in chain (from + count)))) (sym read.gone_are)
    ∙ ap (λ (n : ℕ). nearby (linked_at table newer) gone (number_at n)) (sym read.behind_is)

-- what an unlink of a cut changes, where the cut is so read
pub unlink_told : (cells : Cells) (header : Header) (unlinked : Unlinked) (parts : Parts) (cut near : Near) → near_of parts ≡ near → cut ≡ near → header ≡ cells.header
    → unlinked.header ≡ near_header header cut → unlinked.slots.items ≡ near_slots header cut → pointer_content unlinked.pointer ≡ near_pointer header cut
    → IsUnlinkOf cells unlinked parts
unlink_told cells header unlinked parts cut near is cut_is same header_is slots pointer =
    let told = cut_is ∙ sym is in
    record {
      header = header_is ∙ ap (near_header header) told ∙ ap (λ (h : Header). near_header h (near_of parts)) same ∙ header_told cells.header parts;
      slots = slots ∙ ap (near_slots header) told ∙ ap (λ (h : Header). near_slots h (near_of parts)) same ∙ slots_told cells.header parts;
      pointer = pointer ∙ ap (near_pointer header) told ∙ ap (λ (h : Header). near_pointer h (near_of parts)) same ∙ pointer_told cells.header parts;
    }
