-- Parts: bytes of a long row with their length, a sum, and the table and slot that they are of (docs/FORMATS.md, 'Part of a data log').
use Rattle.std.specs.Prelude.{◌≡◌, ℕ, ◌+◌, ◌^◌, ◌<◌, ◌≤◌, List, ◌++◌, length, drop}
use Rattle.std.specs.Int.{w32, to_be_bytes}
use Rattle.px_bytes.specs.Sum.{fnv_of}
use Rattle.px_dlog.specs.declared.part.TheConstants.{HEADER_SIZE, LONGEST_PART}

-- what the sum is taken of
abbrev pub summed : ℕ → ℕ → List ℕ → List ℕ
summed table slot bytes = to_be_bytes w32 table ++ (to_be_bytes w32 slot ++ bytes)

-- the part of these bytes
unfoldable pub part_text : ℕ → ℕ → List ℕ → List ℕ
part_text table slot bytes = to_be_bytes w32 (length bytes) ++ (to_be_bytes w32 (fnv_of (summed table slot bytes)) ++ summed table slot bytes)

-- how many bytes a part has that has so many of its own
abbrev pub part_size : ℕ → ℕ
part_size size = HEADER_SIZE + size

-- the bytes may stand in a part of this table and slot
pub record CanPart (table slot : ℕ) (bytes : List ℕ) : Type 0 where
  pub table_fits : table < 2 ^ 8
  pub slot_fits : slot < 2 ^ 32
  pub shortest : 1 ≤ length bytes
  pub longest : length bytes ≤ LONGEST_PART

-- A part of these bytes checks at the front of the text for this table and slot. Anything may follow it.
pub record PartAt (text : List ℕ) (table slot : ℕ) (bytes : List ℕ) : Type 0 where
  pub can : CanPart table slot bytes
  pub front : text ≡ part_text table slot bytes ++ drop (part_size (length bytes)) text
