-- The chain of versions of a key, and the counts over all chains.
use Rattle.std.specs.Prelude.{ℕ, ◌+◌, ◌-◌, Bool, true, false, ◌&&◌, nat_lt, ◌==◌, List, [], ◌∷◌, ◌++◌, map, length, take, drop, filter, flat_map, count_by, sum_by, Option, Some, None, if◌then◌else◌}
use Rattle.std.specs.Option.{option_or}
use Rattle.px_model.specs.declared.row.Row.{Row}
use Rattle.px_model.specs.declared.write.Write.{Write}
use Rattle.px_model.specs.declared.write.Write.TheVariants.{Put, Delete}
use Rattle.px_model.specs.declared.machine.Flat.{Flat}
use Rattle.px_model.specs.declared.machine.Open.{Open}
use Rattle.px_model.specs.declared.machine.Variation.{Variation}
use Rattle.px_model.specs.Rows.{Key, key_written, same_key, row_at, after}
use Rattle.px_model.specs.Machine.{Machine, flat, committed_flat}

-- the rows after the swept commits: what the chains stand on
unfoldable pub base_rows : Machine → List Row
base_rows m = after m.opening (committed_flat (take m.swept (flat m)))

-- the writes of ended transactions that are not swept, rolled-back ones too
abbrev pub unswept_writes : Machine → List Write
unswept_writes m = map (λ w. w.write) (drop m.swept (flat m))

abbrev pub writes_of_slot : Option Open → List Write
writes_of_slot None = []
writes_of_slot (Some xact) = xact.writes

abbrev pub open_writes : Machine → List Write
open_writes m = flat_map writes_of_slot m.active

-- the last committed one of the key
abbrev pub last_committed : Key → List Flat → Option Flat
last_committed key [] = None
last_committed key (f ∷ all) =
    option_or (last_committed key all) (if f.committed && same_key key (key_written f.write) then Some f else None)

abbrev pub of_opening : Option Row → List Variation
of_opening None = []
of_opening (Some row) = record { xn = None; write = Put row } ∷ []

-- a version of an ended transaction
abbrev pub of_ended : ℕ → Flat → Variation
of_ended base f = record { xn = Some (base + f.number); write = f.write }

abbrev pub is_put : Write → Bool
is_put (Put row) = true
is_put (Delete table key) = false

-- the base of a key: the last swept write of it that committed, if it put a row, else the opening's row
abbrev pub base_or : ℕ → Option Row → Option Flat → List Variation
base_or base row None = of_opening row
base_or base row (Some f) = if is_put f.write then of_ended base f ∷ [] else []

abbrev pub of_slot : ℕ → Option Open → List Variation
of_slot base None = []
of_slot base (Some xact) = map (λ w. record { xn = Some (base + xact.number); write = w }) xact.writes

abbrev pub of_key : Key → List Variation → List Variation
of_key key all = filter (λ v. same_key key (key_written v.write)) all

-- the versions of a key, the oldest first: the base, the unswept writes, those of the open transaction
unfoldable pub chain : Machine → Key → List Variation
chain m key =
    base_or m.base (row_at key m.opening) (last_committed key (take m.swept (flat m)))
    ++ of_key key (map (of_ended m.base) (drop m.swept (flat m)))
    ++ of_key key (flat_map (of_slot m.base) m.active)

-- the versions of all keys: a key has one of the base where it has a row there
unfoldable pub all_variations : Machine → List Write
all_variations m = map Put (base_rows m) ++ unswept_writes m ++ open_writes m

unfoldable pub variations : Machine → ℕ
variations m = length (all_variations m)

abbrev pub in_table : ℕ → Write → Bool
in_table table write = (key_written write).0 == table

unfoldable pub variations_of_table : Machine → ℕ → ℕ
variations_of_table m table = count_by (in_table table) (all_variations m)

-- what stands before the bytes of a part in a data log
abbrev pub part_head : ℕ
part_head = 16

-- what a body that is longer than the short length takes in a data log: what is past that length, and a head
abbrev pub part_size : (short body : ℕ) → ℕ
part_size short body = part_head + body - short

abbrev pub long_size : ℕ → Write → ℕ
long_size short (Put row) = if nat_lt short (length row.body) then part_size short (length row.body) else 0
long_size short (Delete table key) = 0

unfoldable pub live : Machine → ℕ
live m = sum_by (long_size m.short) (all_variations m)

unfoldable pub unswept : Machine → ℕ
unswept m = length (flat m) - m.swept
