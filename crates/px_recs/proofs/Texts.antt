-- The bytes of a header and of a row pointer are those of one value.
use Rattle.std.proofs.Common.{◌≡◌, ℕ, ◌<◌, ◌^◌, Bool, true, false, List, [], ◌∷◌, ◌++◌, length, replicate, take, drop, slice_index_or, refl, sym, ap, ◌∙◌, arith}
use Rattle.std.proofs.lemmas.List.{take_at, nil_from_length}
use Rattle.std.specs.Int.{w32, to_be_bytes}
use Rattle.px_bytes.proofs.Numbers.{one_u32}
use Rattle.px_cells.specs.declared.header.Header.{Header}
use Rattle.px_cells.specs.declared.pointer.Pointer.{Pointer}
use Rattle.px_cells.specs.declared.limits.TheConstants.{HEADER_SIZE, POINTER_SIZE}
use Rattle.px_recs.specs.declared.pointer.TheConstants.{GAP_SIZE}
use Rattle.px_recs.specs.Text.{header_text, pointer_text, used_code, HeaderFits, HeaderAt, PointerAt}

pub length-header : (header : Header) → length (header_text header) ≡ HEADER_SIZE
unfolding header_text
length-header header = refl

pub header_size : (bytes : List ℕ) (header : Header) → HeaderAt bytes header → length bytes ≡ HEADER_SIZE
header_size bytes header at = ap length at.text ∙ length-header header

header_of : (slots free_slot rows free_row : ℕ) → Header
header_of slots free_slot rows free_row = record {
  slots = slots;
  free_slot = free_slot;
  rows = rows;
  free_row = free_row;
}

same_header_of : (a b : Header) → a.slots ≡ b.slots → a.free_slot ≡ b.free_slot → a.rows ≡ b.rows → a.free_row ≡ b.free_row → header_of a.slots a.free_slot a.rows a.free_row ≡ header_of b.slots b.free_slot b.rows b.free_row
same_header_of a b slots free_slot rows free_row = cc

same_header : (a b : Header) → a.slots ≡ b.slots → a.free_slot ≡ b.free_slot → a.rows ≡ b.rows → a.free_row ≡ b.free_row → a ≡ b
unfolding header_of
same_header a b slots free_slot rows free_row = same_header_of a b slots free_slot rows free_row

pub one_header : (a b : Header) → HeaderFits a → HeaderFits b → header_text a ≡ header_text b → a ≡ b
unfolding header_text
one_header a b f g e =
    let slots = one_u32 a.slots b.slots _ _ f.slots g.slots e in
    let free_slot = one_u32 a.free_slot b.free_slot _ _ f.free_slot g.free_slot slots.1 in
    let rows = one_u32 a.rows b.rows _ _ f.rows g.rows free_slot.1 in
    let free_row = one_u32 a.free_row b.free_row [] [] f.free_row g.free_row rows.1 in
    same_header a b slots.0 free_slot.0 rows.0 free_row.0

pub length-pointer : (pointer : Pointer) → length (pointer_text pointer) ≡ POINTER_SIZE
unfolding pointer_text
length-pointer pointer = refl

pub pointer_size : (bytes : List ℕ) (pointer : Pointer) → PointerAt bytes pointer → length bytes ≡ POINTER_SIZE
pointer_size bytes pointer at = ap length at.text ∙ length-pointer pointer

one_use : (a b : Bool) → used_code a ≡ used_code b → a ≡ b
one_use true true e = refl
one_use false false e = refl
one_use true false e = absurd (omega (arith, e))
one_use false true e = absurd (omega (arith, e))

pointer_of : (used : Bool) (head : ℕ) → Pointer
pointer_of used head = record {
  used = used;
  head = head;
}

same_pointer_of : (a b : Pointer) → a.used ≡ b.used → a.head ≡ b.head → pointer_of a.used a.head ≡ pointer_of b.used b.head
same_pointer_of a b used head = cc

same_pointer : (a b : Pointer) → a.used ≡ b.used → a.head ≡ b.head → a ≡ b
unfolding pointer_of
same_pointer a b used head = same_pointer_of a b used head

pub one_pointer : (a b : Pointer) → a.head < 2 ^ 32 → b.head < 2 ^ 32 → pointer_text a ≡ pointer_text b → a ≡ b
unfolding pointer_text
one_pointer a b f g e =
    let used : a.used ≡ b.used = one_use a.used b.used (ap (λ (x : List ℕ). slice_index_or x 0 0) e) in
    let head = one_u32 a.head b.head [] [] f g (ap (λ (x : List ℕ). drop 4 x) e) in
    same_pointer a b used head.0

-- the code and the gap of bytes that are a row pointer's
pub pointer_front : (bytes : List ℕ) (code : ℕ) (gap rest : List ℕ) (pointer : Pointer) → PointerAt bytes pointer → bytes ≡ code ∷ (gap ++ rest) → length gap ≡ GAP_SIZE → (code ≡ used_code pointer.used) × (gap ≡ replicate GAP_SIZE 0)
unfolding pointer_text
pointer_front bytes code gap rest pointer at parts size =
    let e : code ∷ (gap ++ rest) ≡ pointer_text pointer = sym parts ∙ at.text in
    (ap (λ (x : List ℕ). slice_index_or x 0 0) e, sym (take_at gap rest GAP_SIZE size) ∙ ap (λ (x : List ℕ). take GAP_SIZE (drop 1 x)) e)

-- bytes with a row pointer's code and gap, which end behind its head
pub pointer_whole : (bytes : List ℕ) (code : ℕ) (gap rest : List ℕ) (head : ℕ) (left : List ℕ) (used : Bool) → bytes ≡ code ∷ (gap ++ rest) → gap ≡ replicate GAP_SIZE 0 → rest ≡ to_be_bytes w32 head ++ left → length left ≡ 0
    → code ≡ used_code used → bytes ≡ pointer_text (record { used = used; head = head })
unfolding pointer_text
pointer_whole bytes code gap rest head left used parts zero behind none is =
    parts
    ∙ ap (λ (x : ℕ). x ∷ (gap ++ rest)) is
    ∙ ap (λ (x : List ℕ). used_code used ∷ (x ++ rest)) zero
    ∙ ap (λ (x : List ℕ). used_code used ∷ (replicate GAP_SIZE 0 ++ x)) behind
    ∙ ap (λ (x : List ℕ). used_code used ∷ (replicate GAP_SIZE 0 ++ (to_be_bytes w32 head ++ x))) (nil_from_length left none)
