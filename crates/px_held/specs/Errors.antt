-- Why a call gives up.
use Rattle.std.specs.Prelude.{◌≡◌, ⊤, ℕ}
use Rattle.px_site.specs.Cause.{Counts, Rose}
use Rattle.px_site.specs.declared.error.Fault.TheVariants.{Read}
use Rattle.px_site.specs.declared.name.FileName.{FileName}
use Rattle.px_held.specs.declared.error.HeldError.{HeldError}
use Rattle.px_held.specs.declared.error.HeldError.TheVariants.{OutOfMemory, Fault as FaultOf, Damaged}

-- a fault is one of a read, and was counted
abbrev pub HasReadCause : (old new : Counts) → HeldError → Type 0
HasReadCause old new OutOfMemory = ⊤
HasReadCause old new (FaultOf fault) = (fault ≡ Read) × Rose (old.faults Read) (new.faults Read)
HasReadCause old new (Damaged file place) = ⊤

-- the error says nothing of the cells
abbrev pub IsPassing : HeldError → Type 0
IsPassing OutOfMemory = ⊤
IsPassing (FaultOf fault) = ⊤
IsPassing (Damaged file place) = ⊥

abbrev pub IsDamage : HeldError → Type 0
IsDamage OutOfMemory = ⊥
IsDamage (FaultOf fault) = ⊥
IsDamage (Damaged file place) = ⊤

-- where it is damage, this holds of its file and its place there
abbrev pub IfDamage : (FileName → ℕ → Type 0) → HeldError → Type 0
IfDamage P OutOfMemory = ⊤
IfDamage P (FaultOf fault) = ⊤
IfDamage P (Damaged file place) = P file place
