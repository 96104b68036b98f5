-- What an opening finds lasts.
use Rattle.std.proofs.Common.{◌≡◌, ℕ, zero, suc, ◌+◌, ◌-◌, ◌<◌, ◌≤◌, max, All, Bool, false, Some, None, Option, is_some, List, [], ◌++◌, drop, length, map, take, replicate, refl, sym, ap, subst, ◌∙◌, arith, inl, inr}
use Rattle.std.specs.Prelude.{nat_lt, if◌then◌else◌, cond}
use Rattle.std.proofs.lemmas.Bool.{false≢true, le-ltb}
use Rattle.std.proofs.lemmas.List.{drop_all, length-drop, take_all}
use Rattle.px_apply.specs.Contents.{Contents}
use Rattle.px_cells.specs.declared.cell.Cell.{Cell}
use Rattle.px_cells.specs.declared.cell.CellKind.{CellKind}
use Rattle.px_cells.specs.declared.cell.CellKind.TheVariants as kind
use Rattle.px_change.specs.Text.{change_text}
use Rattle.px_change.specs.declared.change.Change.{Change}
use Rattle.px_filed.proofs.Filed.{image_of_rest}
use Rattle.px_filed.specs.Filed.{KeepsFiles, file_places}
use Rattle.px_history.specs.Steps.{Step, after_steps}
use Rattle.px_history.specs.Store.{Store}
use Rattle.px_laid.specs.Places.{Places}
use Rattle.px_life.proofs.Found.{counted_extend}
use Rattle.px_life.proofs.Over.{away}
use Rattle.px_life.specs.Found.{AreBelow, counted_places, is_counted, life_found}
use Rattle.px_life.specs.Front.{AreStored, KnowsDone, commits_at, commits_by, done_by}
use Rattle.px_life.specs.Laid.{cells_by, is_laid_by}
use Rattle.px_life.specs.Life.{IsLife, Life, MayStand, between, committed_by, end_of, places_at, store_at}
use Rattle.px_model.specs.Machine.{fresh}
use Rattle.px_model.specs.declared.row.Row.{Row}
use Rattle.px_opened.specs.Opened.{Opens, changes_over}
use Rattle.px_reached.specs.Reachable.{IsReachable, KeepsLog, Marks}
use Rattle.px_recs.specs.Place.{place_of, size_of, table_file}
use Rattle.px_restart.specs.Restart.{CanRestart, IsPicked}
use Rattle.px_restart.specs.declared.restart.Restart.{Restart}
use Rattle.px_scan.specs.Scan.{frames_of}
use Rattle.px_shown.specs.Parts.{Parts}
use Rattle.px_shown.specs.Shown.{Done, Shows}
use Rattle.px_shown.specs.Tables.{Layouts, Tables}
use Rattle.px_site.specs.Disk.{FileState, IsImage, at_rest}
use Rattle.px_site.specs.State.{Moment, State}
use Rattle.px_site.specs.declared.name.FileName.TheVariants.{Restart as RestartFile, Xlog}
use Rattle.px_standing.specs.Images.{IsPlainImage}
use Rattle.px_working.specs.Follows.{last_store}
use Rattle.px_working.specs.Lasts.{IsOneSegment, IsValid, Lasts, LeavesFronts}
use Rattle.px_xlog.specs.Contents.{the_log}
use Rattle.px_xlog.specs.Written.{IsPlainLog}
use Rattle.px_beginning.specs.Found.{HasNoCells, IsFound, Reading, life_of, machine_of, marks_of}
use Rattle.px_beginning.proofs.Frames.{committed_below, scanned_alone}

take_none : {X : Type 0} (n : ℕ) → take {A = X} n [] ≡ []
take_none zero = refl
take_none (suc n) = refl

-- ---- what is used of the laws below

abbrev pub Begins : Type 0
Begins = (parts : Parts) (short tables next first redo : ℕ) (rows : List Row) (changes : List Change) (files : Places) (found : Tables) (layouts : Layouts) (done : Done)
    → first ≤ redo → redo ≤ first + length changes → MayStand tables first short changes → All (λ xn. xn < next) (committed_by changes)
    → Opens short tables (changes_over files (drop (redo - first) changes)) found layouts → Shows parts found layouts done rows
    → AreBelow next found layouts → IsLife parts short tables next rows (life_found next first redo changes files found layouts done)

abbrev pub Knows : Type 0
Knows = (short tables next redo : ℕ) (restart : Restart) (changes : List Change) (files : Places) (found : Tables) (layouts : Layouts)
    → Opens short tables (changes_over files (drop (redo - restart.first) changes)) found layouts → AreBelow next found layouts → AreStored found layouts
    → let life = life_found next restart.first redo changes files found layouts (done_by restart changes) in
    KnowsDone restart life life.start

abbrev pub KeepsFronts : Type 0
KeepsFronts = (life : Life) (restart : Restart) (marks : Marks) (now : Moment) → IsOneSegment restart life now
    → LeavesFronts marks.durable life.changes (now.files the_log) → KeepsLog IsPlainImage restart life marks now

abbrev pub FoundLasts : Type 0
FoundLasts = (parts : Parts) (rows : List Row) (base : ℕ) (life : Life) (restart : Restart) (marks : Marks) (now : Moment)
    → let store = last_store life in let found = commits_at restart life (end_of life) in
    IsLife parts restart.short restart.tables (base + 1) rows life → Shows parts store.tables store.layouts store.done rows
    → IsOneSegment restart life now → IsValid restart now → IsReachable IsPlainImage restart.short restart life marks now → marks.durable ≡ end_of life
    → Lasts parts found (fresh restart.tables restart.short rows found base) life restart marks now

-- ---- the life

pub can_of : (a b : List ℕ) (restart : Restart) → IsPicked a b restart → CanRestart restart
can_of a b restart picked = elim picked [ inl one ↦ one.0.can | inr one ↦ one.0.can ]

pub can_restart : {parts : Parts} (read : Reading) (s : State) → IsFound parts read s → CanRestart read.restart
can_restart read s is = can_of (s.content (RestartFile 0)) (s.content (RestartFile 1)) read.restart is.finds.picked

pub found_is_life : Begins → (parts : Parts) (read : Reading) (s : State) → IsFound parts read s
    → IsLife parts read.restart.short read.restart.tables read.next read.rows (life_of read s.content)
found_is_life begins parts read s is =
    let marks = (can_restart read s is).marks in
    begins parts read.restart.short read.restart.tables read.next read.restart.first read.restart.redo read.rows read.changes (file_places read.restart.short s.content)
    read.found read.layouts (done_by read.restart read.changes)
    marks.first_to (omega (arith, marks.redo_to, is.finds.reached)) is.finds.held (committed_below read.next read.changes is.number.frames)
    is.finds.opens is.shows is.number.versions

-- no step of it was made yet
pub found_store : (read : Reading) (files : Contents) (frame : ℕ) → store_at (life_of read files) frame ≡ (life_of read files).base
found_store read files frame = ap (after_steps (life_of read files).base) (take_none {X = Step} (frame - (life_of read files).start))

-- and all its frames were read
found_between : (read : Reading) (files : Contents) → between (life_of read files) read.restart.first (end_of (life_of read files)) ≡ read.changes
found_between read files =
    let first = read.restart.first in
    let none : first - first ≡ 0 = omega arith in
    let all : length read.changes ≤ first + length read.changes - first = omega arith in
    ap (λ (n : ℕ). take (first + length read.changes - first) (drop n read.changes)) none
    ∙ take_all (first + length read.changes - first) read.changes all

commits_found : (read : Reading) (files : Contents) → commits_at read.restart (life_of read files) (end_of (life_of read files)) ≡ commits_by read.restart read.changes
commits_found read files = ap (commits_by read.restart) (found_between read files)

-- ---- it lasts

module _ (parts : Parts) (read : Reading) (s : State) (is : IsFound parts read s) where
  abbrev life : Life
  life = life_of read s.content

  -- the only frame up to which a crash leaves the log
  at_end : (frame : ℕ) → read.restart.first + length read.changes ≤ frame → frame ≤ read.restart.first + length read.changes
      → frame ≡ read.restart.first + length read.changes
  at_end frame from to = omega (arith, from, to)

  next_some : read.next - 1 + 1 ≡ read.next
  next_some =
      let marks = (can_restart read s is).marks in
      omega (arith, marks.low_from, marks.low_to, is.number.restart_is)

  fronts : LeavesFronts (read.restart.first + length read.changes) read.changes (s.now.files the_log)
  fronts image leaves plain =
      let whole : image ≡ s.content the_log = image_of_rest (s.content the_log) image (subst (λ (f : FileState). IsImage f image) is.log leaves) in
      let second : s.content (Xlog 2) ≡ [] = image_of_rest [] (s.content (Xlog 2)) (subst (λ (f : FileState). IsImage f (s.content (Xlog 2))) (is.segment.others 2 (omega arith)) (is.images (Xlog 2))) in
      let scanned = scanned_alone read.restart s.content read.changes is.segment.segment is.segment.first second is.finds.scanned in
      let first = is.segment.first in (
        length read.changes,
        omega (arith, first),
        omega arith,
        ap (λ (bytes : List ℕ). frames_of bytes 0) whole ∙ scanned ∙ sym (ap (map change_text) (take_all (length read.changes) read.changes (omega arith))),
      )

  reachable : Knows → KeepsFronts → IsReachable IsPlainImage read.restart.short read.restart life (marks_of read) s.now
  reachable knows keeps =
      let marks = (can_restart read s is).marks in
      record {
        first = omega arith;
        redo_from = omega arith;
        redo_to = omega arith;
        applied = omega (arith, marks.redo_to, is.finds.reached);
        durable = is.finds.reached;
        start = omega arith;
        end = omega arith;
        log = keeps life read.restart (marks_of read) s.now is.segment fronts;
        files = is.files;
        prefix = λ frame from to. subst (KnowsDone read.restart life) (sym (at_end frame from to))
            (knows read.restart.short read.restart.tables read.next read.restart.redo read.restart read.changes (file_places read.restart.short s.content) read.found read.layouts
            is.finds.opens is.number.versions is.finds.numbers);
      }

  pub read_lasts : Begins → Knows → KeepsFronts → FoundLasts
      → Lasts parts (commits_by read.restart read.changes) (machine_of read) (life_of read s.content) read.restart (marks_of read) s.now
  read_lasts begins knows keeps lasts =
      let whole = found_is_life begins parts read s is in
      let store_is = found_store read s.content (end_of life) in
      subst (λ (n : ℕ). Lasts parts n (fresh read.restart.tables read.restart.short read.rows n (read.next - 1)) life read.restart (marks_of read) s.now)
      (commits_found read s.content)
      (lasts parts read.rows (read.next - 1) life read.restart (marks_of read) s.now
      (subst (λ (n : ℕ). IsLife parts read.restart.short read.restart.tables n read.rows life) (sym next_some) whole)
      (subst (λ (store : Store). Shows parts store.tables store.layouts store.done read.rows) (sym store_is) whole.base.shows)
      is.segment is.valid (reachable knows keeps) refl)

-- ---- without cells in files

no_cells : (short : ℕ) (s : State) → HasNoCells s → (what : CellKind) (table number : ℕ) → file_places short s.content what table number ≡ None
no_cells short s none what table number =
    let place = place_of short what number in
    let size = size_of short what in
    ap (λ (file : List ℕ). if nat_lt place (length file) then Some (take size (drop place file ++ replicate size 0)) else None) (none what table).1
    ∙ ap (λ (b : Bool). cond b (Some (take size (drop {A = ℕ} place [] ++ replicate size 0))) None) (le-ltb place 0 (omega arith))

nothing_there : {X : Type 0} {x : X} → None ≡ Some x → ⊥
nothing_there e = false≢true (ap is_some e)

module _ (read : Reading) (s : State) (none : HasNoCells s) where
  abbrev its_life : Life
  its_life = life_of read s.content

  abbrev places : Places
  places = file_places read.restart.short s.content

  -- the changes that were laid over the files
  abbrev behind : List Change
  behind = drop (read.restart.redo - read.restart.first) read.changes

  abbrev upto : ℕ
  upto = max read.restart.redo its_life.start

  -- no frame was laid over what was found
  nothing_laid : places_at its_life upto ≡ its_life.below
  nothing_laid =
      let whole : length read.changes ≤ its_life.start - read.restart.first = omega arith in
      ap (λ (l : List Change). changes_over its_life.below (take (upto - its_life.start) l)) (drop_all (its_life.start - read.restart.first) read.changes whole)
      ∙ ap (changes_over its_life.below) (take_none {X = Change} (upto - its_life.start))

  all_laid : between its_life read.restart.redo upto ≡ behind
  all_laid =
      let size = length-drop (read.restart.redo - read.restart.first) read.changes in
      take_all (upto - read.restart.redo) behind (omega (arith, size))

  no_place : (cell : Cell) → places_at its_life upto cell.what cell.table cell.number ≡ Some cell.bytes
      → is_laid_by (cells_by (between its_life read.restart.redo upto)) cell.what cell.table cell.number ≡ false → ⊥
  no_place cell there clear =
      let laid = (counted_extend read.found (changes_over places behind)).laid cell.what cell.table cell.number cell.bytes
      (subst (λ (p : Places). p cell.what cell.table cell.number ≡ Some cell.bytes) nothing_laid there) in
      let below = away places behind cell.what cell.table cell.number
      (subst (λ (l : List Change). is_laid_by (cells_by l) cell.what cell.table cell.number ≡ false) all_laid clear) in
      nothing_there (sym (no_cells read.restart.short s none cell.what cell.table cell.number) ∙ sym below ∙ laid)

  pub no_cells_rest : KeepsFiles read.restart.short (life_of read s.content) read.restart.redo read.restart.redo s.now.files
  no_cells_rest = record {
    rest = λ cell there clear. absurd (no_place cell there clear);
    none = λ table header laid. ((none kind.Slot table).0, (none kind.Pointer table).0);
  }
