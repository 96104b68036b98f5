-- What a fresh machine has.
use Rattle.std.proofs.Common.{◌≡◌, ℕ, List, refl}
use Rattle.px_model.specs.Machine.{fresh}
use Rattle.px_model.specs.declared.row.Row.{Row}

pub base_of_fresh : (tables short : ℕ) (rows : List Row) (before base : ℕ) → (fresh tables short rows before base).base ≡ base
unfolding fresh
base_of_fresh tables short rows before base = refl

pub opening_of_fresh : (tables short : ℕ) (rows : List Row) (before base : ℕ) → (fresh tables short rows before base).opening ≡ rows
unfolding fresh
opening_of_fresh tables short rows before base = refl
