-- The steps in which a slot is read: its fields, and the slot that they are.
use Rattle.std.specs.Prelude.{◌≡◌, ℕ, ◌<◌, ◌≤◌, ◌^◌, min, List, ◌∷◌, ◌++◌, length}
use Rattle.std.specs.Int.{w32, w64, to_be_bytes}
use Rattle.px_model.specs.declared.limits.TheConstants.{LONGEST_KEY}
use Rattle.px_cells.specs.declared.slot.Slot.{Slot}
use Rattle.px_cells.specs.declared.slot.SlotState.{SlotState}
use Rattle.px_recs.specs.declared.raw.Numbers.{Numbers}
use Rattle.px_recs.specs.Text.{slot_text, SlotFits}

unfoldable pub numbers_text : Numbers → List ℕ
numbers_text n =
    to_be_bytes w64 n.xn ++ (to_be_bytes w32 n.next ++ (to_be_bytes w32 n.row ++ (to_be_bytes w32 n.tag
    ++ (to_be_bytes w32 n.total ++ (to_be_bytes w32 n.log ++ to_be_bytes w32 n.place)))))

pub record NumbersFit (n : Numbers) : Type 0 where
  pub xn : n.xn < 2 ^ 64
  pub next : n.next < 2 ^ 32
  pub row : n.row < 2 ^ 32
  pub tag : n.tag < 2 ^ 32
  pub total : n.total < 2 ^ 32
  pub log : n.log < 2 ^ 32
  pub place : n.place < 2 ^ 32

-- the fields one after the other, whatever they are
unfoldable pub raw_text : (state key_length : ℕ) (gap : List ℕ) → Numbers → (key short : List ℕ) → List ℕ
raw_text state key_length gap n key short = state ∷ (key_length ∷ (gap ++ (numbers_text n ++ (key ++ short))))

-- the slot with these numbers
abbrev pub slot_of : SlotState → Numbers → (key short : List ℕ) → Slot
slot_of state n key short = record {
  state = state;
  xn = n.xn;
  next = n.next;
  row = n.row;
  tag = n.tag;
  total = n.total;
  log = n.log;
  place = n.place;
  key = key;
  short = short;
}

-- a slot's numbers
abbrev pub numbers_of : Slot → Numbers
numbers_of slot = record {
  xn = slot.xn;
  next = slot.next;
  row = slot.row;
  tag = slot.tag;
  total = slot.total;
  log = slot.log;
  place = slot.place;
}

-- the bytes are those of a slot whose parts are as long as it says, in the form or not
pub record PartsAt (short : ℕ) (bytes : List ℕ) (slot : Slot) : Type 0 where
  pub key_to : length slot.key ≤ LONGEST_KEY
  pub short_to : length slot.short ≡ min slot.total short
  pub fits : SlotFits slot
  pub text : bytes ≡ slot_text short slot
