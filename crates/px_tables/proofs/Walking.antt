-- The walk along the chain of a row meets its versions and ends.
use Rattle.std.proofs.Common.{◌≡◌, ◌≢◌, ℕ, zero, suc, ◌+◌, ◌<◌, ◌≤◌, List, [], ◌∷◌, map, length, get_or, refl, sym, ap, subst, ◌∙◌, arith}
use Rattle.std.specs.Prelude.{All, Contains}
use Rattle.std.proofs.lemmas.Bool.{ne_eqb}
use Rattle.std.proofs.lemmas.List.{get_or_default}
use Rattle.std.proofs.lemmas.List.Elements.{All-head, All-tail, All-contains}
use Rattle.px_cells.specs.declared.pointer.Pointer.{Pointer}
use Rattle.px_cells.specs.declared.slot.Slot.{Slot}
use Rattle.px_chain.specs.declared.chain.Linked.{Linked}
use Rattle.px_chain.specs.Links.{chain_of}
use Rattle.px_chain.specs.Sound.{Walks, IsSlot, IsUsedRow, IsVariation, Layout, head_of}
use Rattle.px_chain.proofs.Walks.{all_from, walk_some}
use Rattle.px_chain.proofs.SoundLaws.{chain_once}
use Rattle.px_cells.specs.Unused.{free_pointer}
use Rattle.px_tables.specs.Held.{Cells, HasLayout, IsKept, slot_at, table_of}
use Rattle.px_tables.specs.Walked.{Ends, walked}
use Rattle.px_tables.proofs.Few.{few}

abbrev pub IsStep : List Slot → ℕ → Type 0
IsStep slots n = 1 ≤ n × n < length slots

abbrev pub linked_at : List Slot → ℕ → Linked
linked_at slots n = record { number = n; slot = slot_at slots n }

pub walked_none : (most : ℕ) (slots : List Slot) → walked most slots 0 ≡ []
unfolding walked
walked_none zero slots = refl
walked_none (suc most) slots = refl

walked_is : (most : ℕ) (slots : List Slot) (number : ℕ) (chain : List ℕ) → Walks (λ n. (slot_at slots n).next) number chain 0 → All (IsStep slots) chain
    → length chain ≤ most → walked most slots number ≡ map (linked_at slots) chain
unfolding walked
walked_is most slots number [] walk places short = ap (walked most slots) walk ∙ walked_none most slots
walked_is zero slots number (x ∷ xs) walk places short = absurd (omega (arith, short))
walked_is (suc most) slots number (x ∷ xs) walk places short =
    let from : 1 ≤ x = (All-head (IsStep slots) x xs places).0 in
    let some : x ≢ 0 = omega arith in
    ap (walked (suc most) slots) walk.0
    ∙ rw (ne_eqb x 0 some) (ap (λ (l : List Linked). linked_at slots x ∷ l)
    (walked_is most slots (slot_at slots x).next xs walk.1 (All-tail (IsStep slots) x xs places) (omega (arith, short))))

-- a walk that ends meets these slots
pub ends_walked : (slots : List Slot) (number : ℕ) (ends : Ends slots number) → walked (length slots) slots number ≡ map (linked_at slots) ends.chain
ends_walked slots number ends = walked_is (length slots) slots number ends.chain ends.walk ends.places ends.short

-- one that goes on meets its first slot and goes on behind it
pub record GoesOn (slots : List Slot) (number : ℕ) : Type 0 where
  pub within : number < length slots
  pub behind : Ends slots (slot_at slots number).next
  pub steps : walked (length slots) slots number ≡ linked_at slots number ∷ walked (length slots) slots (slot_at slots number).next

pub goes_on : (slots : List Slot) (number : ℕ) → Ends slots number → number ≢ 0 → GoesOn slots number
goes_on slots number ends on =
    let next : ℕ → ℕ = λ n. (slot_at slots n).next in
    let s = walk_some next number ends.chain ends.walk on in
    let rest = s.0 in
    let places : All (IsStep slots) (number ∷ rest) = subst (λ (l : List ℕ). All (IsStep slots) l) s.1 ends.places in
    let first = All-head (IsStep slots) number rest places in
    let len : length ends.chain ≡ length (number ∷ rest) = ap length s.1 in
    let short = ends.short in
    let behind : Ends slots (slot_at slots number).next = record { chain = rest; walk = s.2; places = All-tail (IsStep slots) number rest places; short = omega (arith, len, short) } in
    record {
      within = first.1;
      behind = behind;
      steps = ends_walked slots number ends ∙ ap (map (linked_at slots)) s.1
          ∙ ap (λ (l : List Linked). linked_at slots number ∷ l) (sym (ends_walked slots (slot_at slots number).next behind));
    }

-- the chain of a row
pub row_ends : (cells : Cells) (layout : Layout) (row : ℕ) → length cells.slots ≡ cells.header.slots + 1 → HasLayout cells layout → IsUsedRow (table_of cells) row
    → (ends : Ends cells.slots (head_of (table_of cells) row)) × (ends.chain ≡ layout.chain row)
row_ends cells layout row len sound used =
    let table = table_of cells in
    let c = sound.chains row used in
    let slot : (n : ℕ) → Contains (layout.chain row) n → IsSlot table n = λ n there. (All-contains (IsVariation table row) (layout.chain row) n c.variations there).place in
    let many : length (layout.chain row) ≤ cells.header.slots = few cells.header.slots (layout.chain row) (chain_once cells.short table layout row sound) slot in (
      record {
        chain = layout.chain row;
        walk = c.walk;
        places = all_from (IsStep cells.slots) (layout.chain row) (λ n there. let s = slot n there in (s.0, omega (arith, s.1, len)));
        short = omega (arith, many, len);
      },
      refl,
    )

pub row_walked : (cells : Cells) (layout : Layout) (row : ℕ) → length cells.slots ≡ cells.header.slots + 1 → HasLayout cells layout → IsUsedRow (table_of cells) row
    → walked (length cells.slots) cells.slots (head_of (table_of cells) row) ≡ chain_of (table_of cells) (layout.chain row)
row_walked cells layout row len sound used =
    let e = row_ends cells layout row len sound used in
    ends_walked cells.slots (head_of (table_of cells) row) e.0 ∙ ap (map (linked_at cells.slots)) e.1

-- a pointer that was read is that of its row
pub read_pointer : {cells : Cells} {keys : List (List ℕ × ℕ)} (row : ℕ) (pointer : Pointer) → IsKept cells keys → IsUsedRow (table_of cells) row
    → pointer ≡ get_or cells.pointers row pointer → pointer.head ≡ head_of (table_of cells) row
read_pointer {cells} row pointer kept used read =
    let len = kept.pointers in
    let place = used.0 in
    ap (λ (p : Pointer). p.head) (read ∙ get_or_default cells.pointers row pointer free_pointer (omega (arith, place.1, len)))

pub versions_end : {cells : Cells} {keys : List (List ℕ × ℕ)} (row : ℕ) (slots : List Slot) (pointer : Pointer) → IsKept cells keys → IsUsedRow (table_of cells) row
    → slots ≡ cells.slots → pointer ≡ get_or cells.pointers row pointer → Ends slots pointer.head
versions_end {cells} row slots pointer kept used same read =
    subst (λ (l : List Slot). Ends l pointer.head) (sym same) (subst (λ (n : ℕ). Ends cells.slots n) (sym (read_pointer row pointer kept used read))
    (row_ends cells kept.layout row kept.slots kept.sound used).0)

pub versions_are : {cells : Cells} {keys : List (List ℕ × ℕ)} (row : ℕ) (slots : List Slot) (pointer : Pointer) → IsKept cells keys → IsUsedRow (table_of cells) row
    → slots ≡ cells.slots → pointer ≡ get_or cells.pointers row pointer
    → (layout : Layout) → HasLayout cells layout → walked (length slots) slots pointer.head ≡ chain_of (table_of cells) (layout.chain row)
versions_are {cells} row slots pointer kept used same read layout sound =
    ap (λ (l : List Slot). walked (length l) l pointer.head) same ∙ ap (walked (length cells.slots) cells.slots) (read_pointer row pointer kept used read)
    ∙ row_walked cells layout row kept.slots sound used

-- one fewer are left
pub fewer_left : (old new : List Linked) (first : Linked) → old ≡ first ∷ new → length new < length old
fewer_left old new first is = omega (arith, ap length is)
