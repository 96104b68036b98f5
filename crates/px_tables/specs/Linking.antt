-- What prepares a version of a row, and what laying it needs.
use Rattle.std.specs.Prelude.{◌≡◌, ◌⊎◌, ℕ, ◌<◌, ◌≤◌, List, [], length}
use Rattle.px_model.specs.declared.limits.TheConstants.{LONGEST_KEY}
use Rattle.px_model.specs.declared.write.Write.{Write}
use Rattle.px_model.specs.declared.write.Write.TheVariants.{Put, Delete}
use Rattle.px_cells.specs.declared.header.Header.{Header}
use Rattle.px_cells.specs.declared.slot.Slot.{Slot}
use Rattle.px_cells.specs.declared.slot.SlotState.TheVariants.{Row, Deletion}
use Rattle.px_free.specs.Places.{AreFull, next_place, rows_of, slots_of}
use Rattle.px_chain.specs.Links.{BeginsRow, IsStored, VariesRow}
use Rattle.px_chain.specs.Table.{Table}
use Rattle.px_tables.specs.declared.linking.Linking.{Linking}
use Rattle.px_tables.specs.declared.linking.Place.{Place}
use Rattle.px_tables.specs.Held.{Held, table_of}
use Rattle.px_tables.specs.Keys.{HasNoRow, IsEntered}

abbrev pub bytes_of_key : Write → List ℕ
bytes_of_key (Put row) = row.key
bytes_of_key (Delete table key) = key

abbrev pub IsKey : List ℕ → Type 0
IsKey key = 1 ≤ length key × length key ≤ LONGEST_KEY

-- a write whose version has its place in a slot of that short length
abbrev pub FitsSlot : (short : ℕ) → Write → Type 0
FitsSlot short (Put row) = IsKey row.key × (length row.body ≤ short)
FitsSlot short (Delete table key) = IsKey key

-- the version that the transaction with this stored number writes
abbrev pub version_of : (xn next row : ℕ) → Write → Slot
version_of xn next row (Put put) =
    record { state = Row; xn = xn; next = next; row = row; tag = put.tag; total = length put.body; log = 0; place = 0; key = put.key; short = put.body }
version_of xn next row (Delete table key) =
    record { state = Deletion; xn = xn; next = next; row = row; tag = 0; total = 0; log = 0; place = 0; key = key; short = [] }

-- no slot is left for the key, or it has no row and no row pointer is left
abbrev pub IsFull : Table → (key : List ℕ) → Type 0
IsFull table key = AreFull (slots_of table.header) ⊎ (AreFull (rows_of table.header) × HasNoRow table key)

-- the slot begins a row, or is another version of one
abbrev pub IsLink : Table → Header → Slot → Type 0
IsLink table header slot = BeginsRow table header slot ⊎ VariesRow table header slot

-- the slot has the links of the place, and the key
pub record GoesTo (place : Place) (key : List ℕ) (slot : Slot) : Type 0 where
  pub its_row : slot.row ≡ place.row
  pub its_next : slot.next ≡ place.next
  pub its_key : slot.key ≡ key

-- the next version of the key goes to this place of what is held, and there is memory for it
pub record IsPlaceFor (held : Held) (key : List ℕ) (place : Place) : Type 0 where
  pub number_is : place.number ≡ next_place (slots_of held.cells.header)
  pub link : (slot : Slot) → GoesTo place key slot → IsLink (table_of held.cells) place.header slot
  pub slot_room : place.number < held.room.slots
  pub row_room : place.row < held.room.rows
  pub key_room : IsEntered held.room.keys key

-- the linking goes onto what is held, and there is memory for it
pub record IsPrepared (held : Held) (linking : Linking) : Type 0 where
  pub number : linking.number ≡ next_place (slots_of held.cells.header)
  pub link : IsLink (table_of held.cells) linking.header linking.slot
  pub stored : IsStored held.cells.short linking.slot
  pub slot_room : linking.number < held.room.slots
  pub row_room : linking.slot.row < held.room.rows
  pub key_room : IsEntered held.room.keys linking.slot.key
