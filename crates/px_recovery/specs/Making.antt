-- Where a store may be made, and what making it leaves at each moment.
use Rattle.std.specs.Prelude.{◌≡◌, ◌⊎◌, ℕ, Bool, false, List, [], Option, Some, None}
use Rattle.px_site.specs.declared.name.FileName.{FileName}
use Rattle.px_site.specs.declared.name.FileName.TheVariants.{Restart as RestartFile}
use Rattle.px_site.specs.Names.{same_file, is_before}
use Rattle.px_site.specs.Disk.{Wrote, FileState, overlay, at_rest, pending_more}
use Rattle.px_site.specs.State.{State, Moment, OnFile, Stands}
use Rattle.px_restart.specs.declared.restart.Restart.{Restart}
use Rattle.px_restart.specs.declared.text.TheConstants.{VERSION}
use Rattle.px_restart.specs.Restart.{IsPicked, restart_text}
use Rattle.px_cell_standing.specs.Images.{ImagesAreNew}
use Rattle.px_standing.specs.Files.{Files, HasNoRestart, first_restart, second_restart}
use Rattle.px_cell_standing.specs.Settled.{HasNothing, IsAtRest, Settled}
use Rattle.px_cell_standing.specs.Standing.{StandsFor}

abbrev pub first_file : FileName
first_file = RestartFile 0

abbrev pub second_file : FileName
second_file = RestartFile 1

-- ---- where

-- no file other than the two restart files has a byte
abbrev pub HasNoOthers : Files → Type 0
HasNoOthers files = (name : FileName) → same_file first_file name ≡ false → same_file second_file name ≡ false → files name ≡ []

-- no store is here: no other file has a byte, and neither restart file checks
pub record IsFree (files : Files) : Type 0 where
  pub others : HasNoOthers files
  pub no_restart : HasNoRestart files

-- there is a name, and it stands before those of the restart files
abbrev pub precedes : Option FileName → Bool
precedes None = false
precedes (Some name) = is_before name first_file

-- ---- what

-- the restart of a store without commits
abbrev pub first_saved : (tables short : ℕ) → Restart
first_saved tables short = record { serial = 1; tables = tables; short = short; commits = 0; next = 1; low = 1; first = 0; redo = 0; durable = 0; segment = 1 }

-- a content with the restart at its front
abbrev pub with_restart : Restart → List ℕ → List ℕ
with_restart restart content = overlay content 0 (restart_text VERSION restart)

-- the first restart file has the restart at its front, all of it on the disk, and nothing else changed
abbrev pub IsWritten : Restart → State → State → Type 0
IsWritten restart old new = let bytes = with_restart restart (old.content first_file) in Stands first_file old (at_rest bytes) bytes new

abbrev pub IsMade : (tables short : ℕ) → State → State → Type 0
IsMade tables short old new = IsWritten (first_saved tables short) old new

-- ---- at each moment

-- the file, as it was before, has the restart's write begun, or has all of it on the disk
pub record IsWriting (restart : Restart) (before : FileState) (content : List ℕ) (file : FileState) : Type 0 where
  pub which : (file ≡ pending_more (Wrote 0 (restart_text VERSION restart)) before) ⊎ (file ≡ at_rest (with_restart restart content))

-- of all files only the first restart file is written, and nothing is told meanwhile
abbrev pub WritesFirstFile : Restart → State → Moment → Type 0
WritesFirstFile restart before = OnFile first_file before.now (IsWriting restart (before.now.files first_file) (before.content first_file))

-- whatever a crash leaves has no restart, or stands for no commits and no rows; and nothing is told meanwhile
pub record StaysNew (before m : Moment) : Type 0 where
  pub images : ImagesAreNew m
  pub told : m.told ≡ before.told
  pub telling : m.telling ≡ []

-- ---- why

-- a restart that was just made, over files without a byte, stands for no commits and no rows
abbrev pub NewStands : Type 0
NewStands =
    (files : Files) (restart : Restart) → IsPicked (first_restart files) (second_restart files) restart → restart.next ≡ 1 → restart.durable ≡ 0 → HasNothing files
    → StandsFor files 0 []

-- so it is settled, once all its bytes are on the disk
abbrev pub NewSettles : Type 0
NewSettles =
    (s : State) (restart : Restart) → IsPicked (first_restart s.content) (second_restart s.content) restart → restart.next ≡ 1 → restart.durable ≡ 0 → restart.segment ≡ 1
    → HasNothing s.content → IsAtRest s.content s → Settled s 0 []
