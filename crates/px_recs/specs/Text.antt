-- The bytes of cells (docs/FORMATS.md, 'Cells').
use Rattle.std.specs.Prelude.{◌≡◌, ℕ, ◌-◌, ◌<◌, ◌^◌, List, ◌∷◌, ◌++◌, length, replicate, Bool, true, false, IsTrue, All}
use Rattle.std.specs.Int.{w32, w64, to_be_bytes}
use Rattle.px_model.specs.declared.limits.TheConstants.{LONGEST_KEY}
use Rattle.px_cells.specs.declared.header.Header.{Header}
use Rattle.px_cells.specs.declared.pointer.Pointer.{Pointer}
use Rattle.px_cells.specs.declared.slot.Slot.{Slot}
use Rattle.px_cells.specs.declared.slot.SlotState.{SlotState}
use Rattle.px_cells.specs.declared.slot.SlotState.TheVariants.{Free, Row, Deletion}
use Rattle.px_cells.specs.Form.{is_slot}
use Rattle.px_recs.specs.declared.code.TheConstants.{FREE_STATE, ROW_STATE, DELETION_STATE, FREE_POINTER, USED_POINTER}

unfoldable pub header_text : Header → List ℕ
header_text header =
    to_be_bytes w32 header.slots ++ (to_be_bytes w32 header.free_slot ++ (to_be_bytes w32 header.rows ++ to_be_bytes w32 header.free_row))

abbrev pub used_code : Bool → ℕ
used_code true = USED_POINTER
used_code false = FREE_POINTER

unfoldable pub pointer_text : Pointer → List ℕ
pointer_text pointer = used_code pointer.used ∷ (0 ∷ (0 ∷ (0 ∷ to_be_bytes w32 pointer.head)))

abbrev pub state_code : SlotState → ℕ
state_code Free = FREE_STATE
state_code Row = ROW_STATE
state_code Deletion = DELETION_STATE

-- bytes in a field of that size, zero past their end
unfoldable pub padded : (size : ℕ) → List ℕ → List ℕ
padded size bytes = bytes ++ replicate (size - length bytes) 0

-- the bytes of a slot in a store with that short length
unfoldable pub slot_text : (short : ℕ) → Slot → List ℕ
slot_text short slot =
    state_code slot.state ∷ (length slot.key ∷ (0 ∷ (0
    ∷ (to_be_bytes w64 slot.xn ++ (to_be_bytes w32 slot.next ++ (to_be_bytes w32 slot.row ++ (to_be_bytes w32 slot.tag ++ (to_be_bytes w32 slot.total
    ++ (to_be_bytes w32 slot.log ++ (to_be_bytes w32 slot.place ++ (padded LONGEST_KEY slot.key ++ padded short slot.short)))))))))))

-- ---- each value fits its field

pub record HeaderFits (header : Header) : Type 0 where
  pub slots : header.slots < 2 ^ 32
  pub free_slot : header.free_slot < 2 ^ 32
  pub rows : header.rows < 2 ^ 32
  pub free_row : header.free_row < 2 ^ 32

pub record SlotFits (slot : Slot) : Type 0 where
  pub xn : slot.xn < 2 ^ 64
  pub next : slot.next < 2 ^ 32
  pub row : slot.row < 2 ^ 32
  pub tag : slot.tag < 2 ^ 32
  pub total : slot.total < 2 ^ 32
  pub log : slot.log < 2 ^ 32
  pub place : slot.place < 2 ^ 32
  pub key : All (λ (b : ℕ). b < 2 ^ 8) slot.key
  pub short : All (λ (b : ℕ). b < 2 ^ 8) slot.short

-- ---- the bytes are a cell

pub record HeaderAt (bytes : List ℕ) (header : Header) : Type 0 where
  pub fits : HeaderFits header
  pub text : bytes ≡ header_text header

pub record PointerAt (bytes : List ℕ) (pointer : Pointer) : Type 0 where
  pub fits : pointer.head < 2 ^ 32
  pub text : bytes ≡ pointer_text pointer

pub record SlotAt (short : ℕ) (bytes : List ℕ) (slot : Slot) : Type 0 where
  pub form : IsTrue (is_slot short slot)
  pub fits : SlotFits slot
  pub text : bytes ≡ slot_text short slot
