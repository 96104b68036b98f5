-- The rows that a store shows: of each chain the newest version whose transaction is done.
use Rattle.std.specs.Prelude.{◌≡◌, ◌≢◌, ℕ, ◌==◌, ◌||◌, Bool, true, List, Option, Some, None, find, option_and_then, option_map}
use Rattle.px_cells.specs.declared.slot.Slot.{Slot}
use Rattle.px_cells.specs.declared.slot.SlotState.{SlotState}
use Rattle.px_cells.specs.declared.slot.SlotState.TheVariants as state
use Rattle.px_chain.specs.Sound.{IsUsedRow, key_of}
use Rattle.px_model.specs.declared.row.Row.{Row}
use Rattle.px_model.specs.declared.write.Write.{Write}
use Rattle.px_model.specs.declared.write.Write.TheVariants.{Put, Delete}
use Rattle.px_model.specs.Rows.{Key, in_order, row_at}
use Rattle.px_machine_laws.specs.Seen.{row_left}
use Rattle.px_shown.specs.Parts.{Parts, body_of}
use Rattle.px_shown.specs.Tables.{Tables, Layouts, slots_of_row}

-- of the stored numbers of transactions: what this one wrote counts
abbrev pub Done : Type 0
Done = ℕ → Bool

-- this one counts too
abbrev pub done_with : ℕ → Done → Done
done_with xn done = λ number. (number == xn) || done number

-- the row of a slot of this table
abbrev pub row_of : Parts → (table : ℕ) → Slot → Row
row_of parts table slot = record { table = table; key = slot.key; tag = slot.tag; body = body_of parts slot }

abbrev pub write_in : Parts → SlotState → (table : ℕ) → Slot → Write
write_in parts state.Row table slot = Put (row_of parts table slot)
write_in parts state.Deletion table slot = Delete table slot.key
write_in parts state.Free table slot = Delete table slot.key

-- what a slot of this table wrote; no chain has a free one
abbrev pub write_of : Parts → (table : ℕ) → Slot → Write
write_of parts table slot = write_in parts slot.state table slot

-- the first slot whose transaction is done
abbrev pub first_done : Done → List Slot → Option Slot
first_done done slots = find (λ slot. done slot.xn) slots

-- the row of that one: none where it is a deletion, or where there is none
abbrev pub row_shown : Parts → (table : ℕ) → Done → List Slot → Option Row
row_shown parts table done slots = row_left None (option_map (write_of parts table) (first_done done slots))

abbrev pub slot_in : SlotState → Slot → Option Slot
slot_in state.Row slot = Some slot
slot_in state.Deletion slot = None
slot_in state.Free slot = None

-- the slot of that row, whatever lies in the data logs
abbrev pub slot_shown : Done → List Slot → Option Slot
slot_shown done slots = option_and_then (λ slot. slot_in slot.state slot) (first_done done slots)

-- What the keys have is told by the chains: a key with a row has what its chain tells, another one has nothing.
pub record AreToldByChains {X : Type 0} (tables : Tables) (layouts : Layouts) (of_chain : (table : ℕ) → List Slot → Option X) (of_key : Key → Option X) : Type 0 where
  pub of_row : (t row : ℕ) → IsUsedRow (tables t) row → of_key (t, key_of (tables t) row) ≡ of_chain t (slots_of_row (tables t) (layouts t) row)
  pub of_none : (key : Key) → ((row : ℕ) → IsUsedRow (tables key.0) row → key_of (tables key.0) row ≢ key.1) → of_key key ≡ None

-- the tables show these rows where these transactions are done
pub record Shows (parts : Parts) (tables : Tables) (layouts : Layouts) (done : Done) (rows : List Row) : Type 0 where
  pub order : in_order rows ≡ true
  pub keys : AreToldByChains tables layouts (λ t slots. row_shown parts t done slots) (λ key. row_at key rows)
