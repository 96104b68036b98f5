-- The slots of a table, or its row pointers: places that are used, and free ones that wait to be used again.
use Rattle.std.specs.Prelude.{◌≡◌, ℕ, ◌+◌, ◌-◌, ◌^◌, ◌==◌, if◌then◌else◌}
use Rattle.px_cells.specs.declared.header.Header.{Header}

-- How many places were ever used, and the front of the free list, 0 where that is empty. The list is a stack: each free
-- place names the one behind it.
pub record Places : Type 0 where
  pub used : ℕ
  pub front : ℕ

abbrev pub slots_of : Header → Places
slots_of header = record { used = header.slots; front = header.free_slot }

abbrev pub rows_of : Header → Places
rows_of header = record { used = header.rows; front = header.free_row }

-- every number was used, and none is free
abbrev pub AreFull : Places → Type 0
AreFull places = (places.front ≡ 0) × (places.used ≡ 2 ^ 32 - 1)

-- the place that is taken next: the front of the free list, else the first that was never used
abbrev pub next_place : Places → ℕ
next_place places = if places.front == 0 then places.used + 1 else places.front

-- the places once it is taken, where `behind` is the one behind it on the free list
abbrev pub after_taking : Places → (behind : ℕ) → Places
after_taking places behind = if places.front == 0 then record places { used = places.used + 1 } else record places { front = behind }

-- the places once one is given back: it is the front
abbrev pub after_giving : Places → ℕ → Places
after_giving places place = record places { front = place }
