-- What a reader sees of a chain, and whom a writer meets there.
use Rattle.std.specs.Prelude.{ℕ, ◌+◌, ◌-◌, Bool, true, false, ◌||◌, ◌==◌, nat_le, map, reverse, find, Option, Some, None, if◌then◌else◌}
use Rattle.px_model.specs.declared.row.Row.{Row}
use Rattle.px_model.specs.declared.machine.Open.{Open}
use Rattle.px_model.specs.declared.machine.Variation.{Variation}
use Rattle.px_model.specs.Rows.{Key}
use Rattle.px_model.specs.Machine.{Machine}
use Rattle.px_model.specs.Chains.{chain}
use Rattle.px_model_laws.specs.Keys.{row_written}
use Rattle.px_model.specs.declared.standing.Standing.{Standing}
use Rattle.px_model.specs.declared.standing.Standing.TheVariants.{Before, Open as OpenYet, RolledBack, Committed}
use Rattle.px_chain.specs.Visible.{is_done}
use Rattle.px_xacts.specs.Transactions.{standing_from}
use Rattle.px_xacts_laws.specs.Mirrors.{outcome_of}

-- what became of the transaction with a stored number; what was there at the opening has none
abbrev pub standing_in : Machine → Option ℕ → Standing
standing_in m None = Before
standing_in m (Some xn) = if nat_le xn m.base then Before else standing_from 0 (map outcome_of m.ended) (xn - m.base)

-- ---- a reader

abbrev pub is_number_of : Machine → Open → Option ℕ → Bool
is_number_of m xact None = false
is_number_of m xact (Some xn) = xn == m.base + xact.number

-- a transaction sees what it wrote itself, and what was done before it began
abbrev pub sees : Machine → Open → Variation → Bool
sees m xact v = is_number_of m xact v.xn || is_done xact.snap (standing_in m v.xn)

-- the newest version of the key that it sees
unfoldable pub seen : Machine → Open → Key → Option Variation
seen m xact key = find (sees m xact) (reverse (chain m key))

abbrev pub row_seen : Option Variation → Option Row
row_seen None = None
row_seen (Some v) = row_written v.write

-- ---- a writer

abbrev pub is_committed : Standing → Bool
is_committed Before = false
is_committed OpenYet = false
is_committed RolledBack = false
is_committed (Committed place) = true

-- the newest version of the key whose transaction committed since the opening
unfoldable pub newest_committed : Machine → Key → Option Variation
newest_committed m key = find (λ v. is_committed (standing_in m v.xn)) (reverse (chain m key))

abbrev pub number_in : Machine → Option ℕ → Option ℕ
number_in m None = None
number_in m (Some xn) = Some (xn - m.base)

-- the number of the version's transaction, unless that was done before the snapshot
abbrev pub writer_past : Machine → (snap : ℕ) → Option Variation → Option ℕ
writer_past m snap None = None
writer_past m snap (Some v) = if is_done snap (standing_in m v.xn) then None else number_in m v.xn
