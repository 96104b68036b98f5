-- What errors of the data logs say, and what they leave.
use Rattle.std.specs.Prelude.{◌≡◌, ◌⊎◌, ⊤, ℕ, List, length, drop, Option, Some, Ok}
use Rattle.px_site.specs.Cause.{Counts, Rose}
use Rattle.px_site.specs.State.{State}
use Rattle.px_site.specs.declared.error.Fault.{Fault}
use Rattle.px_site.specs.declared.error.Fault.TheVariants.{List as Listing, Read, Sync, Write}
use Rattle.px_site.specs.declared.error.SiteError.{SiteError}
use Rattle.px_site.specs.declared.error.SiteError.TheVariants.{OutOfMemory as SiteShort, Fault as SiteFault}
use Rattle.px_site.specs.declared.name.FileName.TheVariants.{Dlog}
use Rattle.px_dlog.specs.declared.error.LogError.{LogError}
use Rattle.px_dlog.specs.declared.error.LogError.TheVariants.{OutOfMemory, Fault as FaultOf, Damaged, LogFull}
use Rattle.px_dlog.specs.declared.part_ref.PartRef.{PartRef}
use Rattle.px_dlog.specs.Part.{PartAt}
use Rattle.px_dlog.specs.Logs.{Logs, SyncsLog, full_at}

abbrev pub of_site : SiteError → LogError
of_site SiteShort = OutOfMemory
of_site (SiteFault fault) = FaultOf fault

-- P holds, but where a call of the site failed
abbrev pub UnlessFault : Type 0 → LogError → Type 0
UnlessFault P OutOfMemory = P
UnlessFault P (FaultOf fault) = ⊤
UnlessFault P (Damaged file place) = P
UnlessFault P (LogFull n) = P

-- a fault is one of a write or a sync, and was counted; LogFull says the number that no log may have
abbrev pub HasCause : Logs → Counts → Counts → LogError → Type 0
HasCause logs old new OutOfMemory = ⊤
HasCause logs old new (FaultOf fault) = ((fault ≡ Write) ⊎ (fault ≡ Sync)) × Rose (old.faults fault) (new.faults fault)
HasCause logs old new (Damaged file place) = ⊥
HasCause logs old new (LogFull n) = full_at logs ≡ Some n

-- a fault is one of this kind, and was counted; it is the only cause beside want of memory
abbrev pub HasCauseOf : Fault → Counts → Counts → LogError → Type 0
HasCauseOf kind old new OutOfMemory = ⊤
HasCauseOf kind old new (FaultOf fault) = (fault ≡ kind) × Rose (old.faults kind) (new.faults kind)
HasCauseOf kind old new (Damaged file place) = ⊥
HasCauseOf kind old new (LogFull n) = ⊥

-- a fault is one of a listing or a read, and was counted; it is the only cause beside want of memory
abbrev pub HasListCause : Counts → Counts → LogError → Type 0
HasListCause old new OutOfMemory = ⊤
HasListCause old new (FaultOf fault) = ((fault ≡ Listing) ⊎ (fault ≡ Read)) × Rose (old.faults fault) (new.faults fault)
HasListCause old new (Damaged file place) = ⊥
HasListCause old new (LogFull n) = ⊥

-- a fault is one of a read, and was counted
abbrev pub HasReadCause : Counts → Counts → LogError → Type 0
HasReadCause old new OutOfMemory = ⊤
HasReadCause old new (FaultOf fault) = (fault ≡ Read) × Rose (old.faults Read) (new.faults Read)
HasReadCause old new (Damaged file place) = ⊤
HasReadCause old new (LogFull n) = ⊥

-- no part with bytes of this length checks there for this table and slot
abbrev pub HasNoPart : PartRef → List ℕ → Type 0
HasNoPart part content = (bytes : List ℕ) → length bytes ≡ part.length → PartAt (drop part.place content) part.table part.slot bytes → ⊥

-- Damaged names the place of the part, and no part checks there
abbrev pub FindsNoPart : PartRef → List ℕ → LogError → Type 0
FindsNoPart part content OutOfMemory = ⊤
FindsNoPart part content (FaultOf fault) = ⊤
FindsNoPart part content (Damaged file place) = (file ≡ Dlog part.log) × (place ≡ part.place) × HasNoPart part content
FindsNoPart part content (LogFull n) = ⊤

-- it says nothing of the bytes
abbrev pub IsPassing : LogError → Type 0
IsPassing OutOfMemory = ⊤
IsPassing (FaultOf fault) = ⊤
IsPassing (Damaged file place) = ⊥
IsPassing (LogFull n) = ⊤

-- the site is as before, but at a fault; where a call wanted memory, the full log may be synced
abbrev pub LeavesUntouched : (full : Option ℕ) → State → State → LogError → Type 0
LeavesUntouched full before now OutOfMemory = (now ≡ before) ⊎ SyncsLog {T = Unit {0}} full before now (Ok tt)
LeavesUntouched full before now (FaultOf fault) = ⊤
LeavesUntouched full before now (Damaged file place) = now ≡ before
LeavesUntouched full before now (LogFull n) = now ≡ before
