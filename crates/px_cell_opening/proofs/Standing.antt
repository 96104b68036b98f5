-- What files in which all frames stand in one file stand for, by the bytes of their log alone.
use Rattle.std.proofs.Common.{◌≡◌, ℕ, ◌-◌, List, drop, sym, ap, subst, ◌∙◌, arith}
use Rattle.px_change.specs.declared.change.Change.{Change}
use Rattle.px_filed.specs.Filed.{file_places}
use Rattle.px_laid.specs.Places.{Places, none_laid}
use Rattle.px_life.specs.Front.{AreStored, commits_by, done_by}
use Rattle.px_life.specs.Life as life
use Rattle.px_log.proofs.AtRest.{image_of_rest}
use Rattle.px_log.specs.Contents.{Scans}
use Rattle.px_model.specs.declared.row.Row.{Row}
use Rattle.px_opened.specs.Opened.{Opens, changes_over}
use Rattle.px_reached.specs.Scanned.{scan}
use Rattle.px_reached.specs.Stands.{Finds}
use Rattle.px_restart.specs.Restart.{IsPicked}
use Rattle.px_restart.specs.declared.restart.Restart.{Restart}
use Rattle.px_scan.specs.Scan.{frames_of}
use Rattle.px_shown.specs.Parts.{no_parts}
use Rattle.px_shown.specs.Shown.{Shows}
use Rattle.px_shown.specs.Tables.{Layouts, Tables}
use Rattle.px_site.specs.Disk.{FileState, IsImage, at_rest}
use Rattle.px_site.specs.State.{State}
use Rattle.px_site.specs.declared.name.FileName.{FileName}
use Rattle.px_site.specs.declared.name.FileName.TheVariants.{Restart as RestartFile}
use Rattle.px_standing.specs.Files.{Files}
use Rattle.px_standing.specs.Resting.{ReadsImages}
use Rattle.px_xlog.specs.Contents.{the_log}
use Rattle.px_cell_standing.proofs.One.{one_picked}
use Rattle.px_cell_standing.proofs.Scanning.{last_from_segment, scan_alone}
use Rattle.px_cell_standing.specs.Settled.{IsFromStart, IsOneFile}
use Rattle.px_cell_standing.specs.Standing.{StandsFor}
use Rattle.px_cell_opening.proofs.NoCells.{no_places}
use Rattle.px_cell_opening.proofs.Numbers.{life_stand, log_stand}
use Rattle.px_cell_opening.specs.Opened.{MayOpen}

-- ---- the log's bytes

-- the bytes of the log say a store with these commits and rows
pub record Says (restart : Restart) (commits : ℕ) (rows : List Row) (bytes : List ℕ) : Type 0 where
  pub changes : List Change
  pub scan : Scans restart bytes changes
  pub found : Tables
  pub layouts : Layouts
  pub opens : Opens restart.short restart.tables (changes_over none_laid changes) found layouts
  pub numbers : AreStored found layouts
  pub shows : Shows no_parts found layouts (done_by restart changes) rows
  pub commits_are : commits ≡ commits_by restart changes

-- the files beside them: this restart counts, and all frames stand in one file
pub record IsBeside (restart : Restart) (files : Files) : Type 0 where
  pub picked : IsPicked (files (RestartFile 0)) (files (RestartFile 1)) restart
  pub one : IsOneFile files

module _ (restart : Restart) (files : Files) (beside : IsBeside restart files) where
  start : IsFromStart restart
  start = beside.one.begins restart beside.picked

  scanned : scan restart files ≡ frames_of (files the_log) 0
  scanned = scan_alone restart files start.segment start.first (beside.one.segments 2 (omega arith))

  none_less : 0 ≡ restart.redo - restart.first
  none_less = omega (arith, start.redo)

  -- all frames are laid, over nothing
  all_laid : (changes : List Change) → changes_over (file_places restart.short files) (drop (restart.redo - restart.first) changes) ≡ changes_over none_laid changes
  all_laid changes =
      ap (λ (n : ℕ). changes_over (file_places restart.short files) (drop n changes)) (sym none_less)
      ∙ ap (λ (places : Places). changes_over places changes) (no_places restart.short files beside.one.cells)

pub finds_by : (restart : Restart) (files : Files) (changes : List Change) (found : Tables) (layouts : Layouts) → IsBeside restart files → Scans restart (files the_log) changes
    → Opens restart.short restart.tables (changes_over none_laid changes) found layouts → AreStored found layouts → Finds files restart changes found layouts
finds_by restart files changes found layouts beside scan opens numbers =
    let from = start restart files beside in
    record {
      picked = beside.picked;
      scanned = scanned restart files beside ∙ scan.scanned;
      held = subst (λ (n : ℕ). life.MayStand restart.tables n restart.short changes) (sym from.first) (life_stand restart.tables 0 restart.short changes scan.held);
      reached = omega (arith, scan.reached);
      behind = λ segment past. beside.one.segments segment (omega (arith, past, last_from_segment restart files, from.segment));
      opens = subst (λ (places : Places). Opens restart.short restart.tables places found layouts) (sym (all_laid restart files beside changes)) opens;
      numbers = numbers;
    }

found_says : (restart : Restart) (commits : ℕ) (rows : List Row) (files : Files) (changes : List Change) (found : Tables) (layouts : Layouts) → IsBeside restart files
    → Finds files restart changes found layouts → Shows no_parts found layouts (done_by restart changes) rows → commits ≡ commits_by restart changes
    → Says restart commits rows (files the_log)
found_says restart commits rows files changes found layouts beside finds shows count =
    let from = start restart files beside in
    record {
      changes = changes;
      scan = record {
        scanned = sym (scanned restart files beside) ∙ finds.scanned;
        held = log_stand restart.tables 0 restart.short changes (subst (λ (n : ℕ). life.MayStand restart.tables n restart.short changes) from.first finds.held);
        reached = omega (arith, finds.reached, from.first);
      };
      found = found;
      layouts = layouts;
      opens = subst (λ (places : Places). Opens restart.short restart.tables places found layouts) (all_laid restart files beside changes) finds.opens;
      numbers = finds.numbers;
      shows = shows;
      commits_are = count;
    }

pub says_of : (restart : Restart) (commits : ℕ) (rows : List Row) (files : Files) → IsBeside restart files → StandsFor files commits rows → Says restart commits rows (files the_log)
says_of restart commits rows files beside its =
    let one : its.restart ≡ restart = one_picked (files (RestartFile 0)) (files (RestartFile 1)) its.restart restart its.finds.picked beside.picked in
    found_says restart commits rows files its.changes its.found its.layouts beside
    (subst (λ (r : Restart). Finds files r its.changes its.found its.layouts) one its.finds)
    (subst (λ (r : Restart). Shows no_parts its.found its.layouts (done_by r its.changes) rows) one its.shows)
    (its.commits_are ∙ ap (λ (r : Restart). commits_by r its.changes) one)

-- ---- a site that may be opened

module _ (restart : Restart) (commits : ℕ) (rows : List Row) (s : State) (may : MayOpen restart commits rows s) (reads : ReadsImages s) where
  -- a file that rests reads as it does
  reads_as : (name : FileName) (content : List ℕ) → s.now.files name ≡ at_rest content → content ≡ s.content name
  reads_as name content rests = sym (image_of_rest content (s.content name) (subst (λ (f : FileState). IsImage f (s.content name)) rests (reads name)))

  pub may_beside : IsBeside restart s.content
  may_beside = record {
    picked =
        subst (λ (b : List ℕ). IsPicked (s.content (RestartFile 0)) b restart) (reads_as (RestartFile 1) may.valid.second may.valid.second_rests)
        (subst (λ (a : List ℕ). IsPicked a may.valid.second restart) (reads_as (RestartFile 0) may.valid.first may.valid.first_rests) may.valid.picked);
    one = may.alone.content;
  }

  pub may_says : Says restart commits rows (s.content the_log)
  may_says = says_of restart commits rows s.content may_beside may.stands
