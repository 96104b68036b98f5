-- Why a call gives up.
use Rattle.std.specs.Prelude.{◌≡◌, ⊤}
use Rattle.px_site.specs.Cause.{Counts, Rose}
use Rattle.px_site.specs.declared.error.Fault.TheVariants.{Read}
use Rattle.px_index.specs.declared.error.EntriesError.{EntriesError}
use Rattle.px_index.specs.declared.error.EntriesError.TheVariants.{OutOfMemory, Fault as FaultOf, Damaged}

-- a fault is one of a read, and was counted
abbrev pub HasReadCause : (old new : Counts) → EntriesError → Type 0
HasReadCause old new OutOfMemory = ⊤
HasReadCause old new (FaultOf fault) = (fault ≡ Read) × Rose (old.faults Read) (new.faults Read)
HasReadCause old new (Damaged file place) = ⊤

-- the error says nothing of the entries
abbrev pub IsPassing : EntriesError → Type 0
IsPassing OutOfMemory = ⊤
IsPassing (FaultOf fault) = ⊤
IsPassing (Damaged file place) = ⊥
