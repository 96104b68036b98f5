-- A site that a run may leave: it stands for a store, whatever a crash then leaves of it.
use Rattle.std.specs.Prelude.{◌≡◌, ℕ, ◌≤◌, List, []}
use Rattle.std.specs.List.{AllByRecursion}
use Rattle.px_cells.specs.declared.cell.CellKind.{CellKind}
use Rattle.px_model.specs.declared.row.Row.{Row}
use Rattle.px_recs.specs.Place.{table_file}
use Rattle.px_restart.specs.declared.restart.Restart.{Restart}
use Rattle.px_restart.specs.Restart.{IsPicked}
use Rattle.px_site.specs.Disk.{at_rest}
use Rattle.px_site.specs.State.{Moment, State}
use Rattle.px_site.specs.declared.name.FileName.{FileName}
use Rattle.px_site.specs.declared.name.FileName.TheVariants.{Xlog}
use Rattle.px_standing.specs.Images.{IsPlainImage}
use Rattle.px_standing.specs.Files.{Files, first_restart, second_restart}
use Rattle.px_xlog.specs.Contents.{the_log}
use Rattle.px_xlog.specs.Written.{IsBehind}
use Rattle.px_cell_standing.specs.Images.{ImagesStandFor}

-- ---- until there are segments, and the table files are written

-- the log is one file, and all its frames are laid again
pub record IsFromStart (restart : Restart) : Type 0 where
  pub segment : restart.segment ≡ 1
  pub first : restart.first ≡ 0
  pub redo : restart.redo ≡ 0

-- so says the restart that counts
abbrev pub BeginsAtStart : Files → Type 0
BeginsAtStart files = (restart : Restart) → IsPicked (first_restart files) (second_restart files) restart → IsFromStart restart

-- All frames stand in the first segment: no other one has a byte, nor has a table file.
pub record IsOneFile (files : Files) : Type 0 where
  pub cells : (what : CellKind) (table : ℕ) → files (table_file what table) ≡ []
  pub segments : (segment : ℕ) → 2 ≤ segment → files (Xlog segment) ≡ []
  pub begins : BeginsAtStart files

-- no table file has a byte on the disk, nor is a change of one pending
abbrev pub HasEmptyTables : Moment → Type 0
HasEmptyTables now = (what : CellKind) (table : ℕ) → now.files (table_file what table) ≡ at_rest []

-- So it is at this moment, and no change of those other files is pending; whichever restart a crash leaves begins at the start too.
pub record KeepsOneFile (now : Moment) : Type 0 where
  pub tables : HasEmptyTables now
  pub segments : (segment : ℕ) → 2 ≤ segment → now.files (Xlog segment) ≡ at_rest []
  pub begins : (image : Files) → IsPlainImage now image → BeginsAtStart image

-- What is read lies in one file, and no change of another one is pending, but of a restart file.
pub record IsAlone (s : State) : Type 0 where
  pub content : IsOneFile s.content
  pub tables : HasEmptyTables s.now
  pub segments : (segment : ℕ) → 2 ≤ segment → s.now.files (Xlog segment) ≡ at_rest []

-- neither the log nor a table file has a byte, as in a store that was just made
pub record HasNothing (files : Files) : Type 0 where
  pub frames : (segment : ℕ) → files (Xlog segment) ≡ []
  pub cells : (what : CellKind) (table : ℕ) → files (table_file what table) ≡ []

-- ---- a site

-- the site stands for these commits and rows, and so does whatever a crash now leaves of it; its log only grew since its last sync, and
-- has all its frames
pub record Settled (s : State) (commits : ℕ) (rows : List Row) : Type 0 where
  pub plain : IsPlainImage s.now s.content
  pub images : ImagesStandFor commits rows s.now
  pub grew : AllByRecursion (IsBehind (s.now.files the_log).synced) (s.now.files the_log).pending
  pub alone : KeepsOneFile s.now

-- the site has just these files, and all their bytes are on the disk, as when the machine is up again behind a crash
pub record IsAtRest (files : Files) (s : State) : Type 0 where
  pub content : s.content ≡ files
  pub rests : (name : FileName) → s.now.files name ≡ at_rest (files name)
