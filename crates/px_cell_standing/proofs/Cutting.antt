-- A store stands for the same while its log is read and cut.
use Rattle.std.proofs.Common.{◌≡◌, ℕ, ◌-◌, ◌≤◌, Bool, true, false, cond, List, [], drop, refl, sym, ap, subst, ◌∙◌, arith}
use Rattle.std.proofs.Math.Path.{fun_ext}
use Rattle.std.proofs.lemmas.Bool.{ne_eqb}
use Rattle.px_cells.specs.declared.cell.CellKind.{CellKind}
use Rattle.px_cells.specs.declared.cell.CellKind.TheVariants as kind
use Rattle.px_filed.specs.Filed.{file_places}
use Rattle.px_laid.specs.Places.{Places}
use Rattle.px_log.specs.Log.{ReadsAsBefore}
use Rattle.px_model.specs.declared.row.Row.{Row}
use Rattle.px_opened.specs.Opened.{Opens, changes_over}
use Rattle.px_scan.specs.Scan.{frames_of}
use Rattle.px_site.proofs.Files.{same_file_is}
use Rattle.px_site.specs.Disk.{FileState, IsImage}
use Rattle.px_site.specs.Names.{same_file}
use Rattle.px_site.specs.State.{Moment, OnFile, with_file}
use Rattle.px_site.specs.declared.name.FileName.{FileName}
use Rattle.px_site.specs.declared.name.FileName.TheVariants.{Restart as RestartFile, Xlog}
use Rattle.px_standing.specs.Images.{IsPlainImage, IsPlainRestart}
use Rattle.px_standing.specs.Files.{Files}
use Rattle.px_xlog.specs.Contents.{the_log}
use Rattle.px_cell_standing.specs.Images.{ImagesStandFor, KeepsStanding}
use Rattle.px_cell_standing.specs.Settled.{IsOneFile, KeepsOneFile}
use Rattle.px_cell_standing.specs.Standing.{StandsFor}
use Rattle.px_cell_standing.proofs.Resting.{image_is_one}
use Rattle.px_cell_standing.proofs.Scanning.{last_from_segment, scan_alone}

-- the cells don't lie in the log
same_cells : (image : Files) (other : List ℕ) (short : ℕ) (what : CellKind) (table number : ℕ)
    → file_places short (with_file the_log other image) what table number ≡ file_places short image what table number
same_cells image other short kind.Header table number = refl
same_cells image other short kind.Slot table number = refl
same_cells image other short kind.Pointer table number = refl

same_places : (image : Files) (other : List ℕ) (short : ℕ) → file_places short (with_file the_log other image) ≡ file_places short image
same_places image other short = fun_ext (λ what. fun_ext (λ table. fun_ext (λ number. same_cells image other short what table number)))

-- only what the log is read as counts
stands_alike : (image : Files) (other : List ℕ) (commits : ℕ) (rows : List Row) → IsOneFile (with_file the_log other image) → frames_of (image the_log) 0 ≡ frames_of other 0
    → StandsFor (with_file the_log other image) commits rows → StandsFor image commits rows
stands_alike image other commits rows one same stands =
    let finds = stands.finds in
    let restart = stands.restart in
    let start = one.begins restart finds.picked in
    let second : image (Xlog 2) ≡ [] = one.segments 2 (omega arith) in
    record {
      restart = restart;
      changes = stands.changes;
      found = stands.found;
      layouts = stands.layouts;
      finds = record {
        picked = finds.picked;
        scanned = scan_alone restart image start.segment start.first second
            ∙ same
            ∙ sym (scan_alone restart (with_file the_log other image) start.segment start.first second)
            ∙ finds.scanned;
        held = finds.held;
        reached = finds.reached;
        behind = λ segment past. empty segment (omega (arith, past, last_from_segment restart image, start.segment));
        opens = subst (λ (places : Places). Opens restart.short restart.tables (changes_over places (drop (restart.redo - restart.first) stands.changes)) stands.found stands.layouts)
            (same_places image other restart.short) finds.opens;
        numbers = finds.numbers;
      };
      shows = stands.shows;
      commits_are = stands.commits_are;
    }
  where
    empty : (segment : ℕ) → 2 ≤ segment → image (Xlog segment) ≡ []
    empty segment past =
        let apart : same_file the_log (Xlog segment) ≡ false = ne_eqb 1 segment (λ is. omega (arith, past, is)) in
        ap (λ (b : Bool). cond b other (image (Xlog segment))) (sym apart) ∙ one.segments segment past

-- the files with another log
swapped_image : (before now : Moment) (image : Files) (other : List ℕ) → ((name : FileName) → same_file the_log name ≡ false → now.files name ≡ before.files name)
    → ((name : FileName) → IsImage (now.files name) (image name)) → IsImage (before.files the_log) other → (name : FileName) → IsImage (before.files name) (with_file the_log other image name)
swapped_image before now image other others each this name = by_name (same_file the_log name) refl
  where
    by_name : (b : Bool) → same_file the_log name ≡ b → IsImage (before.files name) (cond b other (image name))
    by_name true same = subst (λ (n : FileName). IsImage (before.files n) other) (same_file_is the_log name same) this
    by_name false apart = subst (λ (f : FileState). IsImage f (image name)) (others name apart) (each name)

pub cut_stands : (commits : ℕ) (rows : List Row) (before now : Moment) → ImagesStandFor commits rows before → KeepsOneFile before
    → OnFile the_log before (ReadsAsBefore (before.files the_log)) now → KeepsStanding commits rows before now
cut_stands commits rows before now images one on = record { images = record { each = stands }; told = on.told; telling = on.telling }
  where
    stands : (image : Files) → IsPlainImage now image → StandsFor image commits rows
    stands image plain =
        let read = on.this.each (image the_log) (plain.each the_log) plain.log in
        let other = read.0 in
        let swap : Files = with_file the_log other image in
        let is_plain : IsPlainImage before swap = record {
          each = swapped_image before now image other on.others plain.each read.1;
          first = subst (λ (f : FileState). IsPlainRestart f (image (RestartFile 0))) (on.others (RestartFile 0) refl) plain.first;
          second = subst (λ (f : FileState). IsPlainRestart f (image (RestartFile 1))) (on.others (RestartFile 1) refl) plain.second;
          log = read.2;
        } in
        stands_alike image other commits rows (image_is_one before swap one is_plain) read.3 (images.each swap is_plain)
