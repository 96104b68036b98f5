-- Restart files (docs/FORMATS.md, 'Restart file').
use Rattle.std.specs.Prelude.{◌≡◌, ◌⊎◌, ℕ, ◌^◌, ◌<◌, ◌≤◌, List, ◌++◌, drop}
use Rattle.std.specs.Int.{w32, w64, to_be_bytes}
use Rattle.px_bytes.specs.Sum.{fnv_of}
use Rattle.px_restart.specs.declared.restart.Restart.{Restart}
use Rattle.px_restart.specs.declared.restart.TheConstants.{RESTART_SIZE}
use Rattle.px_model.specs.declared.limits.TheConstants.{MOST_TABLES, SHORTEST_SHORT, LONGEST_SHORT, STORED_NUMBERS_END}
use Rattle.px_bytes.specs.declared.limits.TheConstants.{NUMBER_LIMIT}
use Rattle.px_restart.specs.declared.text.TheConstants.{MAGIC, VERSION}

-- the fields behind the version, in their places
unfoldable pub fields_text : Restart → List ℕ
fields_text r =
    to_be_bytes w64 r.serial ++ (to_be_bytes w32 r.tables ++ (to_be_bytes w32 r.short
    ++ (to_be_bytes w64 r.commits ++ (to_be_bytes w64 r.next ++ (to_be_bytes w64 r.low ++ (to_be_bytes w64 r.first ++ (to_be_bytes w64 r.redo
    ++ (to_be_bytes w64 r.durable ++ to_be_bytes w32 r.segment))))))))

-- what the sum is taken of
abbrev pub summed : ℕ → Restart → List ℕ
summed version r = to_be_bytes w32 MAGIC ++ (to_be_bytes w32 version ++ fields_text r)

-- the bytes of a restart file of that version
unfoldable pub restart_text : ℕ → Restart → List ℕ
restart_text version r = summed version r ++ to_be_bytes w32 (fnv_of (summed version r))

-- each number fits its field
pub record FieldsFit (r : Restart) : Type 0 where
  pub serial : r.serial < 2 ^ 64
  pub tables : r.tables < 2 ^ 32
  pub short : r.short < 2 ^ 32
  pub commits : r.commits < 2 ^ 64
  pub next : r.next < 2 ^ 64
  pub low : r.low < 2 ^ 64
  pub first : r.first < 2 ^ 64
  pub redo : r.redo < 2 ^ 64
  pub durable : r.durable < 2 ^ 64
  pub segment : r.segment < 2 ^ 32

-- the bounds of the serial, the store's shape and the segment
pub record HasShape (r : Restart) : Type 0 where
  pub serial_from : 1 ≤ r.serial
  pub serial_to : r.serial < NUMBER_LIMIT
  pub tables_from : 1 ≤ r.tables
  pub tables_to : r.tables ≤ MOST_TABLES
  pub short_from : SHORTEST_SHORT ≤ r.short
  pub short_to : r.short ≤ LONGEST_SHORT
  pub segment_from : 1 ≤ r.segment
  pub segment_to : r.segment < 2 ^ 32

-- the bounds of the counts and numbers
pub record HasMarks (r : Restart) : Type 0 where
  pub commits_to : r.commits ≤ r.durable
  pub low_from : 1 ≤ r.low
  pub low_to : r.low ≤ r.next
  pub next_to : r.next ≤ STORED_NUMBERS_END
  pub first_to : r.first ≤ r.redo
  pub redo_to : r.redo ≤ r.durable
  pub durable_to : r.durable ≤ NUMBER_LIMIT

-- which restarts have a file
pub record CanRestart (r : Restart) : Type 0 where
  pub shape : HasShape r
  pub marks : HasMarks r

-- The bytes are a restart file that checks. More may follow.
pub record RestartAt (bytes : List ℕ) (r : Restart) : Type 0 where
  pub can : CanRestart r
  pub front : bytes ≡ restart_text VERSION r ++ drop RESTART_SIZE bytes

-- Which of two files counts: a, where no restart in b has a greater serial; else b.
abbrev pub IsPicked : List ℕ → List ℕ → Restart → Type 0
IsPicked a b r =
    (RestartAt a r × ((s : Restart) → RestartAt b s → s.serial ≤ r.serial))
    ⊎ (RestartAt b r × ((s : Restart) → RestartAt a s → s.serial < r.serial))
