-- What was found of a store that may be opened rests there, begins a life, and works once it was tidied.
use Rattle.std.proofs.Common.{◌≡◌, ℕ, ◌+◌, ◌-◌, ◌≤◌, Bool, true, false, List, [], length, map, refl, sym, ap, subst, ◌∙◌, inl, inr, arith}
use Rattle.std.proofs.lemmas.Bool.Decides.{nat_tests}
use Rattle.px_beginning.proofs.Lasting.{found_store, no_cells_rest}
use Rattle.px_beginning.specs.Found.{HasNoCells, IsFound, Reading, life_of, marks_of}
use Rattle.px_beginning.specs.Found as beginning
use Rattle.px_beginning.specs.Numbers.{IsNext}
use Rattle.px_beginning.specs.Tidied.{tidied}
use Rattle.px_cells.specs.declared.cell.CellKind.{CellKind}
use Rattle.px_cells.specs.declared.cell.CellKind.TheVariants as kind
use Rattle.px_change.specs.Text.{change_text}
use Rattle.px_change.specs.declared.change.Change.{Change}
use Rattle.px_held.specs.Serving.{HeldTables}
use Rattle.px_history.specs.Store.{Store}
use Rattle.px_laid.specs.Places.{none_laid}
use Rattle.px_life.proofs.Found.{OpensShow}
use Rattle.px_life.specs.Front.{commits_by, done_by}
use Rattle.px_life.specs.Life.{Life, end_of}
use Rattle.px_log.proofs.FramesOfChanges.{can_frames}
use Rattle.px_log.proofs.Touching.{last_moment, touches_less, touches_then}
use Rattle.px_log.specs.Contents.{Scans, log_text}
use Rattle.px_log.specs.Log.{IsLogOf, Log}
use Rattle.px_log.specs.Touching.{LogAlone, TouchesLog}
use Rattle.px_model.specs.Machine.{Machine, commits, fresh}
use Rattle.px_model.specs.declared.limits.TheConstants.{STORED_NUMBERS_END}
use Rattle.px_model.specs.declared.row.Row.{Row}
use Rattle.px_opened.specs.Opened.{Opens, changes_over}
use Rattle.px_reached.specs.Reachable.{Marks}
use Rattle.px_recs.specs.Place.{table_file}
use Rattle.px_restart.specs.Restart.{CanRestart, IsPicked}
use Rattle.px_restart.specs.declared.restart.Restart.{Restart}
use Rattle.px_scan.proofs.Scans.{frames_of-frames}
use Rattle.px_scan.specs.Scan.{frames_of}
use Rattle.px_shown.specs.Parts.{Parts, no_parts}
use Rattle.px_shown.specs.Shown.{Done, Shows}
use Rattle.px_site.proofs.Files.{same_file_is}
use Rattle.px_site.proofs.Images.{image_at_rest}
use Rattle.px_site.proofs.Moments.{then_moments, weaker_moments}
use Rattle.px_site.specs.Disk.{FileState, IsImage, at_rest}
use Rattle.px_site.specs.Names.{same_file}
use Rattle.px_site.specs.State.{EachMoment, Moment, OnFile, Stands, State}
use Rattle.px_site.specs.declared.name.FileName.{FileName}
use Rattle.px_site.specs.declared.name.FileName.TheVariants.{Restart as RestartFile, Xlog}
use Rattle.px_standing.specs.Files.{Files}
use Rattle.px_standing.specs.Resting.{ReadsImages}
use Rattle.px_tidying.specs.Opening.{HasLife, HasStore, LastsStill, LastsThrough, Opening, opening}
use Rattle.px_working.specs.Follows.{last_store}
use Rattle.px_working.specs.Lasts.{Lasts}
use Rattle.px_working.specs.Works.{Works}
use Rattle.px_xlog.specs.Contents.{the_log}
use Rattle.px_cell_standing.specs.Found.{CanBeFound, IsReadIn, found_in}
use Rattle.px_cell_standing.specs.Found as standing
use Rattle.px_cell_standing.specs.Images.{ImagesStandFor, KeepsStanding}
use Rattle.px_cell_standing.specs.Settled.{HasEmptyTables, IsFromStart}
use Rattle.px_cell_opening.proofs.Numbers.{done_below, few_commits}
use Rattle.px_cell_opening.proofs.One.{one_scan}
use Rattle.px_cell_opening.proofs.Standing.{IsBeside, Says, finds_by, may_beside, may_says}
use Rattle.px_cell_opening.proofs.Tables.{has_store}
use Rattle.px_cell_opening.specs.Found.{HasFound, Rests, reading_of}
use Rattle.px_cell_opening.specs.Opened.{IsTidiedOf, MayOpen, OpensAs, TouchesAsOpened, WorksFrom, machine_of, store_of, tidied_count, tidied_store}
use Rattle.px_cell_opening.specs.declared.opening.Cells.{Cells}
use Rattle.px_cell_opening.specs.declared.opening.Found.{Found}

-- ---- what is used of the laws below

abbrev pub ReadLasts : Type 0
ReadLasts = (parts : Parts) (read : Reading) (s : State) → IsFound parts read s
    → Lasts parts (commits_by read.restart read.changes) (beginning.machine_of read) (life_of read s.content) read.restart (marks_of read) s.now

abbrev pub TidiedWorks : Type 0
TidiedWorks = (parts : Parts) (read : Reading) (s : State) (least : ℕ) (marks : Marks) (now : Moment) → IsFound parts read s
    → Lasts parts least (beginning.machine_of read) (tidied read.restart (life_of read s.content)) read.restart marks now → read.next ≤ STORED_NUMBERS_END
    → Works parts (beginning.machine_of read) (tidied read.restart (life_of read s.content)) read.restart

-- ---- a fresh machine

pub fresh_commits : (tables short : ℕ) (rows : List Row) (before base : ℕ) → commits (fresh tables short rows before base) ≡ before
unfolding fresh commits
fresh_commits tables short rows before base = omega arith

-- ---- it rests

table_file_away : (what : CellKind) (table : ℕ) → same_file the_log (table_file what table) ≡ false
table_file_away kind.Header table = refl
table_file_away kind.Slot table = refl
table_file_away kind.Pointer table = refl

segment_away : (segment : ℕ) → 2 ≤ segment → same_file the_log (Xlog segment) ≡ false
segment_away segment past = grind (arith, nat_tests)

module _ (show : OpensShow) (restart : Restart) (commits : ℕ) (rows : List Row) (found : Found) (before now : State) (may : MayOpen restart commits rows before)
    (reads : ReadsImages before) (has : HasFound restart found) (scan : Scans restart (before.content the_log) found.changes) (logged : IsLogOf found.log found.changes now)
    (left : Stands the_log before (at_rest (log_text found.changes)) (log_text found.changes) now) where
  says : Says restart commits rows (before.content the_log)
  says = may_says restart commits rows before may reads

  same : says.changes ≡ found.changes
  same = one_scan restart (before.content the_log) says.changes found.changes says.scan scan

  shows : Shows no_parts has.holds.found has.holds.layouts (done_by restart found.changes) rows
  shows =
      show no_parts restart.short restart.tables (changes_over none_laid found.changes) says.found has.holds.found says.layouts has.holds.layouts (done_by restart found.changes) rows
      (subst (λ (l : List Change). Opens restart.short restart.tables (changes_over none_laid l) says.found says.layouts) same says.opens) has.holds.opens
      (subst (λ (l : List Change). Shows no_parts says.found says.layouts (done_by restart l) rows) same says.shows)

  its_count : commits ≡ commits_by restart found.changes
  its_count = says.commits_are ∙ ap (commits_by restart) same

  was : IsBeside restart before.content
  was = may_beside restart commits rows before may reads

  from : IsFromStart restart
  from = was.one.begins restart was.picked

  -- the restart files read as they did
  abbrev PicksBefore : Restart → Type 0
  PicksBefore other = IsPicked (before.content (RestartFile 0)) (before.content (RestartFile 1)) other

  abbrev PicksNow : Restart → Type 0
  PicksNow other = IsPicked (now.content (RestartFile 0)) (now.content (RestartFile 1)) other

  picks_before : (other : Restart) → PicksNow other → PicksBefore other
  picks_before other picked =
      subst (λ (b : List ℕ). IsPicked (before.content (RestartFile 0)) b other) (left.others_content (RestartFile 1) refl)
      (subst (λ (a : List ℕ). IsPicked a (now.content (RestartFile 1)) other) (left.others_content (RestartFile 0) refl) picked)

  picks_now : (other : Restart) → PicksBefore other → PicksNow other
  picks_now other picked =
      subst (λ (b : List ℕ). IsPicked (now.content (RestartFile 0)) b other) (sym (left.others_content (RestartFile 1) refl))
      (subst (λ (a : List ℕ). IsPicked a (before.content (RestartFile 1)) other) (sym (left.others_content (RestartFile 0) refl)) picked)

  beside : IsBeside restart now.content
  beside = record {
    picked = picks_now restart was.picked;
    one = record {
      cells = λ what table. left.others_content (table_file what table) (table_file_away what table) ∙ was.one.cells what table;
      segments = λ segment past. left.others_content (Xlog segment) (segment_away segment past) ∙ was.one.segments segment past;
      begins = λ other picked. was.one.begins other (picks_before other picked);
    };
  }

  scanned : Scans restart (now.content the_log) found.changes
  unfolding log_text
  scanned = record {
    scanned = ap (λ (bytes : List ℕ). frames_of bytes 0) left.content
        ∙ frames_of-frames 0 (map change_text found.changes)
        (can_frames restart.tables 0 restart.short found.changes has.stand (omega (arith, has.frames, has.room)));
    held = has.stand;
    reached = omega (arith, has.reached, has.frames);
  }

  none : HasNoCells now
  none what table = (left.others (table_file what table) (table_file_away what table) ∙ may.alone.tables what table, beside.one.cells what table)

  images : (name : FileName) → IsImage (now.now.files name) (now.content name)
  images name = by_name (same_file the_log name) refl
    where
      here : IsImage (now.now.files the_log) (now.content the_log)
      here = subst (λ (f : FileState). IsImage f (now.content the_log)) (sym (left.this ∙ ap at_rest (sym left.content))) (image_at_rest (now.content the_log))

      by_name : (b : Bool) → same_file the_log name ≡ b → IsImage (now.now.files name) (now.content name)
      by_name true is = subst (λ (n : FileName). IsImage (now.now.files n) (now.content n)) (same_file_is the_log name is) here
      by_name false apart =
          subst (λ (f : FileState). IsImage f (now.content name)) (sym (left.others name apart))
          (subst (λ (c : List ℕ). IsImage (before.now.files name) c) (sym (left.others_content name apart)) (reads name))

  pub found_rests : Rests restart commits rows found now
  found_rests = record {
    has = has;
    is_found = record {
      finds = finds_by restart now.content found.changes has.holds.found has.holds.layouts beside scanned has.holds.opens has.stored;
      shows = shows;
      number = has.next.unnamed;
      valid = record {
        first = may.valid.first;
        second = may.valid.second;
        first_rests = left.others (RestartFile 0) refl ∙ may.valid.first_rests;
        second_rests = left.others (RestartFile 1) refl ∙ may.valid.second_rests;
        picked = may.valid.picked;
      };
      segment = record {
        known = from.first;
        segment = from.segment;
        first = from.first;
        others = λ segment past. left.others (Xlog segment) (segment_away segment past) ∙ may.alone.segments segment past;
      };
      log = left.this ∙ ap at_rest (sym left.content);
      files = no_cells_rest (reading_of restart found has rows) now none;
      images = images;
    };
    commits_are = its_count;
    logged = logged;
    tables = λ what table. (none what table).0;
    redo = from.redo;
  }

-- ---- it has a life

module _ (restart : Restart) (count : ℕ) (rows : List Row) (found : Found) (s : State) (can : CanRestart restart) (rests : Rests restart count rows found s) where
  abbrev read : Reading
  read = reading_of restart found rests.has rows

  abbrev its_store : Store
  its_store = store_of restart found.changes found.next rests.has.holds.found rests.has.holds.layouts

  pub its_last : last_store (life_of (reading_of restart found rests.has rows) s.content)
      ≡ store_of restart found.changes found.next rests.has.holds.found rests.has.holds.layouts
  its_last = found_store read s.content (end_of (life_of read s.content))

  pub read_has_life : ReadLasts
      → HasLife no_parts count (machine_of restart count rows (found.next - 1)) (life_of (reading_of restart found rests.has rows) s.content) restart
      (marks_of (reading_of restart found rests.has rows)) (opening s found.held found.log)
  read_has_life lasts = record {
    lasts = subst (λ (n : ℕ). Lasts no_parts n (machine_of restart n rows (found.next - 1)) (life_of read s.content) restart (marks_of read) s.now) (sym rests.commits_are)
        (lasts no_parts read s rests.is_found);
    store = subst (λ (store : Store). HasStore store (opening s found.held found.log)) (sym its_last) (has_store restart found rests.has s can);
    logged = rests.logged;
    durable = (let first = rests.is_found.segment.first in omega (arith, rests.has.durable, rests.has.frames, first));
    tables = rests.has.log_tables;
    short = rests.has.log_short;
  }

-- who is done there
pub done_there : (restart : Restart) (found : Found) (has : HasFound restart found) → CanRestart restart
    → (store_of restart found.changes found.next has.holds.found has.holds.layouts).done ≡ done_by restart found.changes
done_there restart found has can =
    done_below restart found.changes found.next (omega (arith, can.marks.low_to, has.next.unnamed.restart_is)) has.next.unnamed.frames

-- and once it was tidied a machine works
pub tidied_goes_on : TidiedWorks → (restart : Restart) (count : ℕ) (rows : List Row) (found : Found) (s : State) (rests : Rests restart count rows found s) (least : ℕ) (marks : Marks) (now : Moment)
    → let life = life_of (reading_of restart found rests.has rows) s.content in
    Lasts no_parts least (machine_of restart count rows (found.next - 1)) (tidied restart life) restart marks now
    → Works no_parts (machine_of restart count rows (found.next - 1)) (tidied restart life) restart
tidied_goes_on works restart count rows found s rests least marks now lasts =
    let read = reading_of restart found rests.has rows in
    let life = life_of read s.content in
    subst (λ (n : ℕ). Works no_parts (machine_of restart n rows (found.next - 1)) (tidied restart life) restart) (sym rests.commits_are)
    (works no_parts read s least marks now rests.is_found
    (subst (λ (n : ℕ). Lasts no_parts least (machine_of restart n rows (found.next - 1)) (tidied restart life) restart marks now) rests.commits_are lasts) rests.has.end)

-- ---- meanwhile

-- while the machine that starts in what was found does nothing, all stands for that
abbrev pub FoundStands : Type 0
FoundStands = (found : standing.Found) (life : Life) (restart : Restart) (marks : Marks) (now : Moment)
    → Lasts no_parts found.commits (standing.machine_of found) life restart marks now → ImagesStandFor found.commits found.rows now

still_stands : FoundStands → (restart : Restart) (count : ℕ) (rows : List Row) (base : ℕ) (before now : Moment)
    → LastsStill no_parts count (machine_of restart count rows base) restart before now → KeepsStanding count rows before now
still_stands stand restart count rows base before now still = record {
  images = stand (record { tables = restart.tables; short = restart.short; rows = rows; commits = count; base = base; redone = 0; frames = 0 }) still.life restart still.marks now still.lasts;
  told = still.told;
  telling = still.telling;
}

-- no table file gets a byte while only the log is written
pub still_empty : (old new : State) → EachMoment (LogAlone old.now) old new → HasEmptyTables old.now → HasEmptyTables new.now
still_empty old new alone empty what table =
    last_moment (λ (m : Moment). m.files (table_file what table) ≡ at_rest []) (empty what table)
    (weaker_moments (λ m on. on.others (table_file what table) (table_file_away what table) ∙ empty what table) alone)

-- ---- what the laws of this crate say of it

abbrev pub HasItsLife : Type 0
HasItsLife = (restart : Restart) (count : ℕ) (rows : List Row) (found : Found) (s : State) → CanRestart restart → (rests : Rests restart count rows found s)
    → let read = reading_of restart found rests.has rows in
    HasLife no_parts count (machine_of restart count rows (found.next - 1)) (life_of read s.content) restart (marks_of read) (opening s found.held found.log)

abbrev pub GoesOn : Type 0
GoesOn = (restart : Restart) (count : ℕ) (rows : List Row) (found : Found) (s : State) (rests : Rests restart count rows found s) (least : ℕ) (marks : Marks) (now : Moment)
    → let life = life_of (reading_of restart found rests.has rows) s.content in
    Lasts no_parts least (machine_of restart count rows (found.next - 1)) (tidied restart life) restart marks now
    → Works no_parts (machine_of restart count rows (found.next - 1)) (tidied restart life) restart

abbrev pub CanFind : Type 0
CanFind = (files : Files) (read : Reading) (now : Moment) → IsReadIn files read → HasEmptyTables now → read.restart.redo ≡ 0
    → CanBeFound (standing.machine_of (found_in read)) (tidied read.restart (life_of read files)) read.restart now

-- ---- the tidying

module _ (restart : Restart) (count : ℕ) (rows : List Row) (found : Found) (s : State) (can : CanRestart restart) (rests : Rests restart count rows found s) where
  abbrev its_read : Reading
  its_read = reading_of restart found rests.has rows

  abbrev its_life : Life
  its_life = life_of its_read s.content

  abbrev its_machine : Machine
  its_machine = machine_of restart count rows (found.next - 1)

  pub tidy_stands : {tells : Type 0} (new : Opening) → HasItsLife → FoundStands
      → LastsThrough tells (store_of restart found.changes found.next rests.has.holds.found rests.has.holds.layouts) (opening s found.held found.log) new
      → tells → EachMoment (KeepsStanding count rows s.now) s new.site
  tidy_stands new has stand through t =
      weaker_moments (λ now still. still_stands stand restart count rows (found.next - 1) s.now now still)
      (through t no_parts count its_machine its_life restart (marks_of its_read) (its_last restart count rows found s can rests) (has restart count rows found s can rests))

  -- who is done in the last store of its life
  pub its_done : (done : Done) → done ≡ done_by restart found.changes → (last_store (life_of (reading_of restart found rests.has rows) s.content)).done ≡ done
  its_done done is = ap (λ (store : Store). store.done) (its_last restart count rows found s can rests) ∙ done_there restart found rests.has can ∙ sym is

  reads : IsReadIn s.content (reading_of restart found rests.has rows)
  reads = record { finds = rests.is_found.finds; shows = rests.is_found.shows; number = rests.has.next }

  pub works_from : (marks : Marks) (number redone : ℕ) (now : State) (held : HeldTables) (log : Log) → GoesOn → CanFind → HasEmptyTables now.now
      → number ≡ commits_by restart found.changes
      → marks.durable ≡ end_of (tidied restart (life_of (reading_of restart found rests.has rows) s.content))
      → HasLife no_parts (commits (machine_of restart count rows (found.next - 1))) (machine_of restart count rows (found.next - 1))
      (tidied restart (life_of (reading_of restart found rests.has rows) s.content)) restart marks (opening now held log)
      → WorksFrom restart count rows now (record { held = held; log = log; base = found.next - 1; commits = number; redone = redone })
  works_from marks number redone now held log goes can_find empty number_is durable has = record {
    commits_are = number_is ∙ sym rests.commits_are;
    life = tidied restart its_life;
    marks = marks;
    has = subst (λ (n : ℕ). HasLife no_parts n its_machine (tidied restart its_life) restart marks (opening now held log))
        (fresh_commits restart.tables restart.short rows count (found.next - 1)) has;
    works = goes restart count rows found s rests (commits its_machine) marks now.now has.lasts;
    found = subst (λ (n : ℕ). CanBeFound (machine_of restart n rows (found.next - 1)) (tidied restart its_life) restart now.now) (sym rests.commits_are)
        (can_find s.content its_read now.now reads empty rests.redo);
    durable = (
        let known = has.lasts.segment.known in
        let frames = has.logged.count in
        let its = has.durable in
        omega (arith, known, frames, its, durable)
        );
  }

-- ---- who is done

pub is_done : (restart : Restart) (found : Found) (has : HasFound restart found) → CanRestart restart → (slice : List Change) (done : Done) → slice ≡ found.changes
    → done ≡ done_by restart slice → (store_of restart found.changes found.next has.holds.found has.holds.layouts).done ≡ done
is_done restart found has can slice done same is = done_there restart found has can ∙ ap (done_by restart) (sym same) ∙ sym is

-- ---- what is touched

pub opened_touches : (restart : Restart) (bytes : List ℕ) (found : Found) (has : HasFound restart found) (a b c : State) → Scans restart bytes found.changes → TouchesLog 2 a b
    → TouchesLog (tidied_count restart.tables (store_of restart found.changes found.next has.holds.found has.holds.layouts) + 1) b c → TouchesAsOpened restart bytes a c
opened_touches restart bytes found has a b c scan cut tidied = record {
  count = tidied_count restart.tables (store_of restart found.changes found.next has.holds.found has.holds.layouts);
  unlinked = inr (record {
    changes = found.changes;
    scan = scan;
    found = has.holds.found;
    layouts = has.holds.layouts;
    opens = has.holds.opens;
    stored = has.stored;
    next = found.next;
    is_next = has.next;
    count_is = refl;
  });
  touches = touches_less (omega arith) (touches_then cut tidied);
}

pub none_unlinked : (restart : Restart) (bytes : List ℕ) (a b : State) → TouchesLog 2 a b → TouchesAsOpened restart bytes a b
none_unlinked restart bytes a b cut = record { count = 0; unlinked = inl refl; touches = touches_less (omega arith) cut }

-- ---- what is told of it

pub is_tidied : (restart : Restart) (found : Found) (has : HasFound restart found) (slice : List Change) (number redone count : ℕ) (now : State) (held : HeldTables) (log : Log) → CanRestart restart
    → slice ≡ found.changes → number ≡ commits_by restart slice → redone ≡ length slice - restart.redo
    → HasStore (tidied_store restart.tables (store_of restart found.changes found.next has.holds.found has.holds.layouts)) (opening now held log)
    → log.frames ≡ found.log.frames + count → count ≡ tidied_count restart.tables (store_of restart found.changes found.next has.holds.found has.holds.layouts)
    → IsTidiedOf restart found now (record { held = held; log = log; base = found.next - 1; commits = number; redone = redone })
is_tidied restart found has slice number redone count now held log can same number_is redone_is after frames count_is = record {
  was = has;
  has = after;
  frames = frames ∙ ap (λ (n : ℕ). found.log.frames + n) count_is;
  base = (
      let low = can.marks.low_from in
      let next = can.marks.low_to in
      let from = has.next.unnamed.restart_is in
      omega (arith, low, next, from)
      );
  commits_are = number_is ∙ ap (commits_by restart) same;
  redone_are = redone_is ∙ ap (λ (l : List Change). length l - restart.redo) same;
}

pub opens_as : (restart : Restart) (bytes : List ℕ) (found : Found) (now : State) (cells : Cells) → Scans restart bytes found.changes → IsTidiedOf restart found now cells
    → OpensAs restart bytes cells now
opens_as restart bytes found now cells scan is =
    let holds = is.was.holds in
    record {
      changes = found.changes;
      scan = scan;
      found = holds.found;
      layouts = holds.layouts;
      opens = holds.opens;
      stored = is.was.stored;
      next = subst (λ (n : ℕ). IsNext restart found.changes holds.found holds.layouts n) (sym is.base) is.was.next;
      has = subst (λ (n : ℕ). HasStore (tidied_store restart.tables (store_of restart found.changes n holds.found holds.layouts)) (opening now cells.held cells.log)) (sym is.base) is.has;
      frames = is.frames ∙ ap (λ (n : ℕ). n + tidied_count restart.tables (store_of restart found.changes found.next holds.found holds.layouts)) is.was.frames
          ∙ ap (λ (n : ℕ). length found.changes + tidied_count restart.tables (store_of restart found.changes n holds.found holds.layouts)) (sym is.base);
      commits_are = is.commits_are;
      redone_are = is.redone_are;
    }

pub within : (restart : Restart) (found : Found) (now : State) (cells : Cells) → CanRestart restart → IsTidiedOf restart found now cells → cells.commits ≤ cells.log.frames
within restart found now cells can is =
    let few = few_commits restart found.changes found.log.frames can is.was.stand is.was.reached is.was.frames in
    let same = is.commits_are in
    let more = is.frames in
    omega (arith, few, same, more)

-- ---- at each moment

pub all_stand : (count : ℕ) (rows : List Row) (before middle now : State) → middle.now.told ≡ before.now.told → EachMoment (KeepsStanding count rows before.now) before middle
    → EachMoment (KeepsStanding count rows middle.now) middle now → EachMoment (KeepsStanding count rows before.now) before now
all_stand count rows before middle now told first second =
    then_moments first (weaker_moments (λ m keeps. record { images = keeps.images; told = keeps.told ∙ told; telling = keeps.telling }) second)
