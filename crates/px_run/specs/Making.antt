-- `make`: what it told, and what it left.
use Rattle.std.specs.Prelude.{◌≡◌, ℕ, false, List, [], ◌∷◌}
use Rattle.px_site.specs.declared.error.Fault.TheVariants.{Read, List as ListFault}
use Rattle.px_site.specs.declared.name.FileName.{FileName}
use Rattle.px_site.specs.Names.{same_file}
use Rattle.px_site.specs.Disk.{at_rest}
use Rattle.px_site.specs.State.{State, EachMoment}
use Rattle.px_site.specs.Cause.{Counts}
use Rattle.px_calls.specs.declared.status.Status.{Status}
use Rattle.px_calls.specs.declared.status.Status.TheVariants.{Done, NotEmpty, DiskFault, OutputFault, OutOfMemory}
use Rattle.px_calls.specs.Texts.{made_line}
use Rattle.px_cell_standing.specs.Images.{CanMake}
use Rattle.px_cell_standing.specs.Settled.{Settled}
use Rattle.px_recovery.specs.Making.{IsFree, first_file, first_saved, with_restart}
use Rattle.px_run.specs.Told.{HasFilesOf, OnlyTells, TellsInAll}

abbrev pub made_pieces : (tables short : ℕ) → List (List ℕ)
made_pieces tables short = made_line tables short ∷ []

-- the first restart file with the new restart at its front
abbrev pub made_bytes : (tables short : ℕ) → State → List ℕ
made_bytes tables short old = with_restart (first_saved tables short) (old.content first_file)

-- the site was free, and has the first restart now, all of it on the disk; its other files are as they were
pub record Made (tables short : ℕ) (old new : State) : Type 0 where
  pub was_free : IsFree old.content
  pub content : new.content first_file ≡ made_bytes tables short old
  pub durable : new.now.files first_file ≡ at_rest (made_bytes tables short old)
  pub others : (name : FileName) → same_file first_file name ≡ false → new.content name ≡ old.content name
  pub others_files : (name : FileName) → same_file first_file name ≡ false → new.now.files name ≡ old.now.files name
  pub settled : CanMake old → Settled new 0 []

-- there was a store or another file, and all is as it was
pub record RefusesStore (old new : State) : Type 0 where
  pub used : IsFree old.content → ⊥
  pub content : new.content ≡ old.content
  pub files : EachMoment (HasFilesOf old.now) old new

-- the line was told whole, or not, by the status; where a read or a listing failed, all is as it was
abbrev pub MakeEnds : (tables short : ℕ) → (old new : State) → (whole : ℕ) → Status → Type 0
MakeEnds tables short old new whole Done = (whole ≡ 1) × Made tables short old new
MakeEnds tables short old new whole OutputFault = (whole ≡ 0) × Made tables short old new
MakeEnds tables short old new whole NotEmpty = (whole ≡ 0) × RefusesStore old new
MakeEnds tables short old new whole (DiskFault Read) = (whole ≡ 0) × OnlyTells old new
MakeEnds tables short old new whole (DiskFault ListFault) = (whole ≡ 0) × OnlyTells old new
MakeEnds tables short old new whole (DiskFault fault) = whole ≡ 0
MakeEnds tables short old new whole OutOfMemory = whole ≡ 0
MakeEnds tables short old new whole _ = ⊥

pub record MakesRight (tables short : ℕ) (old new : State) (counts counts_now : Counts) (status : Status) : Type 0 where
  pub whole : ℕ
  pub ends : MakeEnds tables short old new whole status
  -- a site that isn't free is as it was
  pub spared : (IsFree old.content → ⊥) → OnlyTells old new
  pub told : TellsInAll (made_pieces tables short) whole status old new counts counts_now
