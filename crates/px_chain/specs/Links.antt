-- What a link and an unlink change of the cells, and of the places that stand in chains and on free lists.
use Rattle.std.specs.Prelude.{◌≡◌, ◌≢◌, ◌<◌, All, IsTrue, ℕ, Bool, true, false, ◌&&◌, nat_le, List, [], ◌∷◌, ◌++◌, ◌==◌, take, drop, map, fold, insert, Option, Some, None, if◌then◌else◌}
use Rattle.std.specs.List.{position_or_len}
use Rattle.px_cells.specs.declared.header.Header.{Header}
use Rattle.px_cells.specs.declared.pointer.Pointer.{Pointer}
use Rattle.px_cells.specs.declared.slot.Slot.{Slot}
use Rattle.px_cells.specs.declared.slot.SlotState.TheVariants.{Free}
use Rattle.px_chain.specs.declared.chain.Linked.{Linked}
use Rattle.px_cells.specs.Form.{is_slot}
use Rattle.px_free.specs.Places.{slots_of, rows_of, next_place, after_taking}
use Rattle.px_chain.specs.Sound.{Layout, IsUsedRow, head_of, key_of, next_slot}
use Rattle.px_chain.specs.Table.{Table, Content}

abbrev pub is_empty : {X : Type 0} → List X → Bool
is_empty [] = true
is_empty (x ∷ xs) = false

-- ---- link

-- the header after the slot was taken, the slot, and the row pointer that has it as its head
abbrev pub link_cells : Header → (number : ℕ) → Slot → List Content
link_cells header number slot =
    Content.header_is header ∷ (Content.slot_is number slot ∷ (Content.pointer_is slot.row (record { used = true; head = number }) ∷ []))

-- the slot in front of the row's chain
abbrev pub linked : Layout → (slot row : ℕ) → Layout
linked layout slot row = record layout { chain = λ r. if r == row then slot ∷ layout.chain row else layout.chain r }

abbrev pub slot_taken : Layout → Layout
slot_taken layout = record layout { free_slots = drop 1 layout.free_slots }

abbrev pub row_taken : Layout → Layout
row_taken layout = record layout { free_rows = drop 1 layout.free_rows }

-- the slot holds a row or a deletion, in a form that the store may have
pub record IsStored (short : ℕ) (slot : Slot) : Type 0 where
  pub form : IsTrue (is_slot short slot)
  pub used : slot.state ≢ Free

-- The slot begins a row that the table doesn't have: the header is the one after a slot and a row pointer were taken.
pub record BeginsRow (table : Table) (header : Header) (slot : Slot) : Type 0 where
  pub slots : slots_of header ≡ after_taking (slots_of table.header) (next_slot table table.header.free_slot)
  pub rows : rows_of header ≡ after_taking (rows_of table.header) (head_of table table.header.free_row)
  pub its_row : slot.row ≡ next_place (rows_of table.header)
  pub next : slot.next ≡ 0
  pub its_key : (row : ℕ) → IsUsedRow table row → key_of table row ≢ slot.key

-- The slot is a new version of a row of the table: the header is the one after a slot was taken.
pub record VariesRow (table : Table) (header : Header) (slot : Slot) : Type 0 where
  pub slots : slots_of header ≡ after_taking (slots_of table.header) (next_slot table table.header.free_slot)
  pub rows : rows_of header ≡ rows_of table.header
  pub its_row : IsUsedRow table slot.row
  pub next : slot.next ≡ head_of table slot.row
  pub its_key : slot.key ≡ key_of table slot.row

-- ---- unlink

-- a slot that leads elsewhere and else is the same
abbrev pub IsSameVariation : (old new : Slot) → Type 0
IsSameVariation old new = new ≡ record old { next = new.next }

-- the number of the first, else another one
abbrev pub first_or : List Linked → (other : ℕ) → ℕ
first_or [] other = other
first_or (first ∷ others) other = first.number

-- a free slot keeps its key and its tag
abbrev pub freed_slot : Slot → (next : ℕ) → Slot
freed_slot slot next = record slot { state = Free; xn = 0; next = next; row = 0; total = 0; log = 0; place = 0; short = [] }

-- The slots as they are on the free list, in their order, in front of what is there. The oldest is given back first.
abbrev pub freed : List Linked → (front : ℕ) → List Linked
freed [] front = []
freed (first ∷ others) front = record { number = first.number; slot = freed_slot first.slot (first_or others front) } ∷ freed others front

-- the last of the slots, with another `next`
abbrev pub relinked : List Linked → (next : ℕ) → List Linked
relinked [] next = []
relinked (last ∷ []) next = record { number = last.number; slot = record last.slot { next = next } } ∷ []
relinked (first ∷ (second ∷ others)) next = relinked (second ∷ others) next

-- slots in order of their numbers, and one more: it goes in front of the first that isn't below it
abbrev pub placed : List Linked → Linked → List Linked
placed slots linked = insert slots (position_or_len (λ other. nat_le linked.number other.number) slots) linked

-- the numbers rise
abbrev pub Rise : List Linked → Type 0
Rise [] = Unit {0}
Rise (first ∷ others) = All (λ other. first.number < other.number) others × Rise others

abbrev pub by_number : List Linked → List Linked
by_number slots = fold placed [] slots

-- the slots of a chain that stay in front, those that go, and those that stay behind
pub record Parts : Type 0 where
  pub before : List Linked
  pub gone : List Linked
  pub behind : List Linked

-- so many go, from a place on
abbrev pub parts_of : List Linked → (from count : ℕ) → Parts
parts_of chain from count = record { before = take from chain; gone = take count (drop from chain); behind = drop count (drop from chain) }

-- the row pointer that heads the chain
abbrev pub row_of : List Linked → ℕ
row_of [] = 0
row_of (first ∷ others) = first.slot.row

-- the slots that an unlink changes, in the order of their cells
abbrev pub unlinked_slots : Header → Parts → List Linked
unlinked_slots header parts = by_number (relinked parts.before (first_or parts.behind 0) ++ freed parts.gone header.free_slot)

-- no slot stays
abbrev pub is_emptied : Parts → Bool
is_emptied parts = is_empty parts.before && is_empty parts.behind

-- the header once the slots are given back, and the row pointer too where no slot stays
abbrev pub unlinked_header : Header → Parts → Header
unlinked_header header parts =
    record header { free_slot = first_or parts.gone header.free_slot; free_row = if is_emptied parts then row_of parts.gone else header.free_row }

-- the row pointer, where no slot stays in front
abbrev pub unlinked_pointer : Header → Parts → List Content
unlinked_pointer header parts =
    if is_empty parts.before then
    Content.pointer_is (row_of parts.gone) (if is_empty parts.behind then record { used = false; head = header.free_row } else record { used = true; head = first_or parts.behind 0 }) ∷ []
    else []

abbrev pub pointer_content : Option (ℕ × Pointer) → List Content
pointer_content None = []
pointer_content (Some named) = Content.pointer_is named.0 named.1 ∷ []

abbrev pub content_of : Linked → Content
content_of linked = Content.slot_is linked.number linked.slot

abbrev pub unlink_cells : Header → Parts → List Content
unlink_cells header parts =
    Content.header_is (unlinked_header header parts) ∷ (map content_of (unlinked_slots header parts) ++ unlinked_pointer header parts)

-- the slots of a chain with their numbers
abbrev pub chain_of : Table → List ℕ → List Linked
chain_of table slots = map (λ n. record { number = n; slot = table.slot n }) slots

-- so many places of a row's chain, from a place on, in front of the free list, and the row pointer too where no slot stays
abbrev pub unlinked : Layout → (row from count : ℕ) → Layout
unlinked layout row from count =
    let chain = layout.chain row in
    let left = take from chain ++ drop count (drop from chain) in
    record {
      chain = λ r. if r == row then left else layout.chain r;
      free_slots = take count (drop from chain) ++ layout.free_slots;
      free_rows = if is_empty left then row ∷ layout.free_rows else layout.free_rows;
    }
