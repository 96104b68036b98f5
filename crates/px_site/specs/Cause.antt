-- The counts of what went wrong, and when a call may answer an error.
use Rattle.std.specs.Prelude.{◌≡◌, ℕ, ◌+◌, ◌-◌, ◌^◌, ◌≤◌, min, Bool, true, false, cond, Result, Ok, Err, IfErr}
use Rattle.px_site.specs.declared.error.Fault.{Fault}
use Rattle.px_site.specs.declared.error.Fault.TheVariants.{Read, Write, Sync, Remove, List, Tell}
use Rattle.px_site.specs.declared.error.SiteError.{SiteError}
use Rattle.px_site.specs.declared.error.SiteError.TheVariants.{OutOfMemory, Fault as Failed}

-- how many file calls answered each kind of fault, how many calls of `tell` one, and how many calls want of memory
pub record Counts : Type 0 where
  pub faults : Fault → ℕ
  pub tell_faults : ℕ
  pub shorts : ℕ
  -- where the site is a reference to another one, which reference it is
  pub reference : ℕ

-- before the first call
abbrev pub no_counts : Counts
no_counts = record { faults = λ _. 0; tell_faults = 0; shorts = 0; reference = 0 }

-- a count after one more; at the greatest u64 it stands still
abbrev pub one_more : ℕ → ℕ
one_more count = min (count + 1) (2 ^ 64 - 1)

-- a count rose; where it stands still, it counts as risen
abbrev pub Rose : ℕ → ℕ → Type 0
Rose before now = one_more before ≤ now

-- no count fell, and no other site was put in the place of a reference
pub record NoneFell (old new : Counts) : Type 0 where
  pub faults : (fault : Fault) → old.faults fault ≤ new.faults fault
  pub tell_faults : old.tell_faults ≤ new.tell_faults
  pub shorts : old.shorts ≤ new.shorts
  pub same : new.reference ≡ old.reference

-- an error of file calls has its cause: the count of its kind rose
pub record HasCause (old new : Counts) (error : SiteError) : Type 0 where
  pub fault : (fault : Fault) → error ≡ Failed fault → Rose (old.faults fault) (new.faults fault)
  pub short : error ≡ OutOfMemory → Rose old.shorts new.shorts

-- an error of `tell` has its cause
pub record HasTellCause (old new : Counts) (error : SiteError) : Type 0 where
  pub fault : (fault : Fault) → error ≡ Failed fault → Rose old.tell_faults new.tell_faults
  pub short : error ≡ OutOfMemory → Rose old.shorts new.shorts

-- the error is want of memory, or this fault
abbrev pub IsOwn : Fault → SiteError → Type 0
IsOwn own OutOfMemory = Unit {0}
IsOwn own (Failed fault) = fault ≡ own

abbrev pub same_fault : Fault → Fault → Bool
same_fault Read Read = true
same_fault Write Write = true
same_fault Sync Sync = true
same_fault Remove Remove = true
same_fault List List = true
same_fault Tell Tell = true
same_fault a b = false

-- the counts of faults after one more of this kind
abbrev pub with_fault : Fault → (Fault → ℕ) → Fault → ℕ
with_fault kind faults fault = cond (same_fault kind fault) (one_more (faults fault)) (faults fault)

-- the counts after the answer of a file call: that of its error is one more, and no other moves
abbrev pub counts_after : {T : Type 0} → Result T SiteError → Counts → Counts
counts_after (Ok _) counts = counts
counts_after (Err OutOfMemory) counts = record counts { shorts = one_more counts.shorts }
counts_after (Err (Failed kind)) counts = record counts { faults = with_fault kind counts.faults }

-- and after that of `tell`
abbrev pub counts_after_tell : {T : Type 0} → Result T SiteError → Counts → Counts
counts_after_tell (Ok _) counts = counts
counts_after_tell (Err OutOfMemory) counts = record counts { shorts = one_more counts.shorts }
counts_after_tell (Err (Failed _)) counts = record counts { tell_faults = one_more counts.tell_faults }

-- a file call counts what goes wrong, which is want of memory or its own fault
pub record Counted {T : Type 0} (fault : Fault) (old new : Counts) (result : Result T SiteError) : Type 0 where
  pub none_fell : NoneFell old new
  pub cause : IfErr result (HasCause old new)
  pub own : IfErr result (IsOwn fault)
  pub exact : new ≡ counts_after result old

-- and so does `tell`
pub record TellCounted {T : Type 0} (old new : Counts) (result : Result T SiteError) : Type 0 where
  pub none_fell : NoneFell old new
  pub cause : IfErr result (HasTellCause old new)
  pub own : IfErr result (IsOwn Tell)
  pub exact : new ≡ counts_after_tell result old

-- whichever file call it was; a search finds the named kinds by themselves
pub record CountedByAny {T : Type 0} (old new : Counts) (result : Result T SiteError) : Type 0 where
  pub each : (kind : Fault) → Counted kind old new result
  pub read : Counted Read old new result
  pub write : Counted Write old new result
  pub sync : Counted Sync old new result
  pub remove : Counted Remove old new result
  pub list : Counted List old new result
