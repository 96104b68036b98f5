-- The steps in which a part is read: its header, and whether the bytes behind the header fit it.
use Rattle.std.specs.Prelude.{◌≡◌, ℕ, ◌+◌, ◌^◌, ◌<◌, ◌≤◌, List, ◌++◌, length, drop, slice_range}
use Rattle.std.specs.Int.{w32, to_be_bytes}
use Rattle.px_bytes.specs.Sum.{fnv_of}
use Rattle.px_dlog.specs.declared.part.TheConstants.{HEADER_SIZE, LONGEST_PART}
use Rattle.px_dlog.specs.declared.header.TheConstants.{SUMMED_FROM}
use Rattle.px_dlog.specs.declared.header.Header.{Header}

-- the text begins with this header
pub record IsHeader (text : List ℕ) (header : Header) : Type 0 where
  pub front : text ≡ to_be_bytes w32 header.length ++ (to_be_bytes w32 header.sum ++ (to_be_bytes w32 header.table ++ (to_be_bytes w32 header.slot ++ drop HEADER_SIZE text)))
  pub length_fits : header.length < 2 ^ 32
  pub sum_fits : header.sum < 2 ^ 32
  pub table_fits : header.table < 2 ^ 32
  pub slot_fits : header.slot < 2 ^ 32

-- a text that begins with this header begins with a part of this length, table and slot
pub record Checks (text : List ℕ) (header : Header) (size table slot : ℕ) : Type 0 where
  pub same_size : header.length ≡ size
  pub same_table : header.table ≡ table
  pub same_slot : header.slot ≡ slot
  pub shortest : 1 ≤ header.length
  pub longest : header.length ≤ LONGEST_PART
  pub there : HEADER_SIZE + header.length ≤ length text
  pub right : fnv_of (slice_range text SUMMED_FROM (HEADER_SIZE + header.length)) ≡ header.sum
