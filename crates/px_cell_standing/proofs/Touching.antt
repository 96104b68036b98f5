-- Where only a run's own files were touched, whatever a crash leaves lies in one file.
use Rattle.std.proofs.Common.{◌≡◌, ℕ, ◌≤◌, Bool, true, false, cond, List, refl, sym, ap, subst, ◌∙◌, inl, inr, arith}
use Rattle.std.proofs.lemmas.Bool.{ne_eqb}
use Rattle.px_cells.specs.declared.cell.CellKind.{CellKind}
use Rattle.px_cells.specs.declared.cell.CellKind.TheVariants as kind
use Rattle.px_log.proofs.AtRest.{image_of_rest}
use Rattle.px_model.specs.declared.row.Row.{Row}
use Rattle.px_recs.specs.Place.{table_file}
use Rattle.px_site.proofs.Files.{same_file_is}
use Rattle.px_site.specs.Disk.{FileState, IsImage, at_rest}
use Rattle.px_site.specs.Names.{same_file}
use Rattle.px_site.specs.State.{Moment, State, with_file}
use Rattle.px_site.specs.declared.name.FileName.{FileName}
use Rattle.px_site.specs.declared.name.FileName.TheVariants.{Restart as RestartFile, Xlog}
use Rattle.px_standing.specs.Images.{IsPlainImage, IsPlainRestart, LeavesOthers}
use Rattle.px_standing.specs.Files.{Files}
use Rattle.px_xlog.specs.Contents.{the_log}
use Rattle.px_cell_standing.specs.Settled.{BeginsAtStart, IsAtRest, IsOneFile, KeepsOneFile, Settled}
use Rattle.px_cell_standing.specs.Standing.{StandsFor}
use Rattle.px_cell_standing.specs.Touching.{IsAsRead, TouchesOwn}
use Rattle.px_cell_standing.proofs.Resting.{image_is_one, rest_settles}

-- ---- names that are none of the restart files' and not the log's

table_away : (what : CellKind) (table : ℕ) → same_file the_log (table_file what table) ≡ false
table_away kind.Header table = refl
table_away kind.Slot table = refl
table_away kind.Pointer table = refl

restart_away : (which : ℕ) (what : CellKind) (table : ℕ) → same_file (RestartFile which) (table_file what table) ≡ false
restart_away which kind.Header table = refl
restart_away which kind.Slot table = refl
restart_away which kind.Pointer table = refl

segment_away : (segment : ℕ) → 2 ≤ segment → same_file the_log (Xlog segment) ≡ false
segment_away segment past = ne_eqb 1 segment (λ is. omega (arith, past, is))

-- ---- the restart that counts in an image is one that counted in an image before

module _ (before : State) (now : Moment) (commits : ℕ) (rows : List Row) (settled : Settled before commits rows) (touches : TouchesOwn before now) (image : Files)
    (plain : IsPlainImage now image) where
  -- what holds of the file as it read, and of what a crash now leaves of it, held of that before
  was : (P : FileState → List ℕ → Type 0) (name : FileName) → IsAsRead name before now → P (now.files name) (image name)
      → P (before.now.files name) (before.content name) → P (before.now.files name) (image name)
  was P name (inl same) there here = subst (λ (f : FileState). P f (image name)) same there
  was P name (inr rests) there here =
      subst (P (before.now.files name))
      (sym (image_of_rest (before.content name) (image name) (subst (λ (f : FileState). IsImage f (image name)) rests (plain.each name)))) here

  -- the files as they read, with the restart files of the image
  abbrev swap : Files
  swap = with_file (RestartFile 0) (image (RestartFile 0)) (with_file (RestartFile 1) (image (RestartFile 1)) before.content)

  swap_image : (name : FileName) → IsImage (before.now.files name) (swap name)
  swap_image name = by_first (same_file (RestartFile 0) name) refl
    where
      by_second : (b : Bool) → same_file (RestartFile 1) name ≡ b → IsImage (before.now.files name) (cond b (image (RestartFile 1)) (before.content name))
      by_second true same = subst (λ (n : FileName). IsImage (before.now.files n) (image (RestartFile 1))) (same_file_is (RestartFile 1) name same)
          (was IsImage (RestartFile 1) touches.second (plain.each (RestartFile 1)) (settled.plain.each (RestartFile 1)))
      by_second false apart = settled.plain.each name

      by_first : (b : Bool) → same_file (RestartFile 0) name ≡ b
          → IsImage (before.now.files name) (cond b (image (RestartFile 0)) (with_file (RestartFile 1) (image (RestartFile 1)) before.content name))
      by_first true same = subst (λ (n : FileName). IsImage (before.now.files n) (image (RestartFile 0))) (same_file_is (RestartFile 0) name same)
          (was IsImage (RestartFile 0) touches.first (plain.each (RestartFile 0)) (settled.plain.each (RestartFile 0)))
      by_first false apart = by_second (same_file (RestartFile 1) name) refl

  begins_there : BeginsAtStart image
  begins_there = settled.alone.begins swap (record {
    each = swap_image;
    first = was IsPlainRestart (RestartFile 0) touches.first plain.first settled.plain.first;
    second = was IsPlainRestart (RestartFile 1) touches.second plain.second settled.plain.second;
    log = settled.plain.log;
  })

pub own_one_file : (before : State) (now : Moment) (commits : ℕ) (rows : List Row) → Settled before commits rows → TouchesOwn before now → KeepsOneFile now
own_one_file before now commits rows settled touches = record {
  tables = λ what table.
      touches.others (table_file what table) (table_away what table) (restart_away 0 what table) (restart_away 1 what table) ∙ settled.alone.tables what table;
  segments = λ segment past. touches.others (Xlog segment) (segment_away segment past) refl refl ∙ settled.alone.segments segment past;
  begins = λ image plain. begins_there before now commits rows settled touches image plain;
}

-- ---- the machine is up again

pub one_file_settles : (now : Moment) (later : State) (image : Files) (commits : ℕ) (rows : List Row) → KeepsOneFile now → IsPlainImage now image
    → StandsFor image commits rows → IsAtRest image later → Settled later commits rows
one_file_settles now later image commits rows one plain stands rests =
    rest_settles later commits rows
    (record { content = refl; rests = λ name. rests.rests name ∙ ap (λ (files : Files). at_rest (files name)) (sym rests.content) })
    (subst IsOneFile (sym rests.content) (image_is_one now image one plain))
    (subst (λ (files : Files). StandsFor files commits rows) (sym rests.content) stands)

-- ---- the log alone was touched

pub log_own : (before : State) (now : Moment) → LeavesOthers before.now now → TouchesOwn before now
log_own before now others =
    record { first = inl (others (RestartFile 0) refl); second = inl (others (RestartFile 1) refl); others = λ name away first second. others name away }
