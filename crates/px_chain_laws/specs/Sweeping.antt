-- What a step of the sweeper makes of a chain.
use Rattle.std.specs.Prelude.{◌≡◌, List, [], ◌∷◌, ◌++◌, take, if◌then◌else◌}
use Rattle.px_model.specs.declared.machine.Flat.{Flat}
use Rattle.px_model.specs.declared.machine.Variation.{Variation}
use Rattle.px_model.specs.Rows.{Key, key_written, row_at}
use Rattle.px_model.specs.Machine.{Machine, flat}
use Rattle.px_model.specs.Chains.{chain, base_or, last_committed, of_ended, is_put}
use Rattle.px_calls.specs.Sweeps.{swept_state}

-- the base of a key's chain, if it has one: what every reader sees where it sees nothing newer
abbrev pub base_of : Machine → Key → List Variation
base_of m key = base_or m.base (row_at key m.opening) (last_committed key (take m.swept (flat m)))

-- What is left of a write that is swept and of the base below it: one that was rolled back goes, one that committed becomes
-- the base, unless it is a deletion.
abbrev pub base_left : Machine → Flat → (base : List Variation) → List Variation
base_left m w base =
    if w.committed then (if is_put w.write then of_ended m.base w ∷ [] else []) else base

-- The swept write is the oldest version of its key above the base.
pub record IsSweptFrom (m : Machine) (w : Flat) : Type 0 where
  pub newer : List Variation
  pub was : chain m (key_written w.write) ≡ base_of m (key_written w.write) ++ of_ended m.base w ∷ newer
  pub now : chain (swept_state m) (key_written w.write) ≡ base_of (swept_state m) (key_written w.write) ++ newer
  pub base : base_of (swept_state m) (key_written w.write) ≡ base_left m w (base_of m (key_written w.write))
