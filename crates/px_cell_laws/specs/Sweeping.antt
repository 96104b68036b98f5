-- Where the version stands that is swept next, and which unlink goes with it.
use Rattle.std.specs.Prelude.{◌≡◌, ◌<◌, ℕ, ◌+◌, ◌-◌, Bool, ◌&&◌, length, Some, slice_get, if◌then◌else◌}
use Rattle.px_chain.specs.Sound.{IsUsedRow, key_of}
use Rattle.px_chain_laws.specs.Sweeping.{base_of}
use Rattle.px_history.specs.Steps.{Step}
use Rattle.px_history.specs.Store.{Store, versions_of}
use Rattle.px_model.specs.declared.machine.Flat.{Flat}
use Rattle.px_model.specs.Chains.{is_put}
use Rattle.px_model.specs.Machine.{Machine, flat, horizon}
use Rattle.px_model.specs.Rows.{key_written}

-- The write is swept next, and its version stands at this place of a row, where 0 is the newest: of the versions of its key only
-- the base stands behind it, if there is one.
pub record IsSweptAt (m : Machine) (store : Store) (w : Flat) (t row place : ℕ) : Type 0 where
  pub next : slice_get (flat m) m.swept ≡ Some w
  pub due : w.place < horizon m
  pub used : IsUsedRow (store.tables t) row
  pub its_key : (t, key_of (store.tables t) row) ≡ key_written w.write
  pub behind : length (versions_of store t row) ≡ place + 1 + length (base_of m (key_written w.write))

-- From where on versions go: behind a row that committed; else from the version itself on, which was rolled back or is a deletion.
abbrev pub sweep_from : (committed put : Bool) → (place : ℕ) → ℕ
sweep_from committed put place = if committed && put then place + 1 else place

-- How many go, of so many in all: a version that was rolled back alone; else all from there on.
abbrev pub sweep_count : (committed put : Bool) → (place versions : ℕ) → ℕ
sweep_count committed put place versions = if committed then versions - sweep_from committed put place else 1

-- how many versions of the row go with the sweep of this write, whose version stands at this place
abbrev pub sweep_count_of : Store → Flat → (t row place : ℕ) → ℕ
sweep_count_of store w t row place = sweep_count w.committed (is_put w.write) place (length (versions_of store t row))

-- the unlink of these
abbrev pub sweep_of : Store → Flat → (t row place : ℕ) → Step
sweep_of store w t row place = Step.unlink t row (sweep_from w.committed (is_put w.write) place) (sweep_count_of store w t row place)
