-- What was opened of files is what is found in them.
use Rattle.std.proofs.Common.{◌≡◌, ℕ, ◌+◌, ◌-◌, ◌<◌, All, List, refl, sym, ap, subst, ◌∙◌, arith}
use Rattle.px_beginning.specs.Found.{Reading}
use Rattle.px_beginning.specs.Numbers.{IsNext}
use Rattle.px_change.specs.declared.change.Change.{Change}
use Rattle.px_laid.specs.Places.{Places, none_laid}
use Rattle.px_log.specs.Contents.{Scans}
use Rattle.px_life.specs.Front.{AreStored, HasStoredNumber, commits_by, done_by}
use Rattle.px_model.specs.Machine.{fresh}
use Rattle.px_opened.proofs.One.{IsSameRow, all_sound, same_row}
use Rattle.px_opened.specs.Opened.{Opens, changes_over}
use Rattle.px_restart.specs.Restart.{IsPicked}
use Rattle.px_restart.specs.declared.restart.Restart.{Restart}
use Rattle.px_shown.specs.Parts.{no_parts}
use Rattle.px_shown.specs.Shown.{Shows}
use Rattle.px_shown.specs.Tables.{Layouts, Tables}
use Rattle.px_site.specs.State.{State}
use Rattle.px_standing.specs.Files.{Files, first_restart, second_restart}
use Rattle.px_xlog.specs.Contents.{the_log}
use Rattle.px_cell_opening.proofs.One.{one_scan}
use Rattle.px_cell_opening.proofs.Standing.{IsBeside, Says, finds_by, says_of}
use Rattle.px_cell_opening.specs.Errors.{HasNoRoom}
use Rattle.px_cell_opening.specs.Opened.{OpensAs}
use Rattle.px_cell_opening.specs.declared.opening.Cells.{Cells}
use Rattle.px_cell_standing.proofs.One.{SameLayouts, SameShown, SameTables}
use Rattle.px_cell_standing.specs.Found.{Found, IsFound, IsReadIn, found_in, machine_of}
use Rattle.px_cell_standing.specs.Settled.{IsOneFile}
use Rattle.px_cell_standing.specs.Standing.{StandsFor}
use Rattle.px_recovery.specs.Cells.{AreCellsOf}
use Rattle.px_recovery.specs.Errors.{HasNoRoomIn}
use Rattle.px_recovery.proofs.Sound.{IsSound}

-- ---- what is used of the laws below

abbrev pub OneFound : Type 0
OneFound = (files : Files) (found other : Found) → IsFound found files → IsFound other files → found ≡ other

abbrev pub FoundStands : Type 0
FoundStands = (files : Files) (found : Found) → IsFound found files → StandsFor files found.commits found.rows

-- ---- two openings of the same places

stored_alike : SameTables → SameLayouts → (short tables : ℕ) (places : Places) (a b : Tables) (of_a of_b : Layouts) → Opens short tables places a of_a → Opens short tables places b of_b
    → AreStored a of_a → AreStored b of_b
stored_alike tables_are layouts_are short tables places a b of_a of_b opens_a opens_b stored t row used =
    let its : IsSameRow (a t) (b t) (of_a t) (of_b t) row =
    same_row short (a t) (b t) (of_a t) (of_b t) row (all_sound short tables places a of_a opens_a t)
    (tables_are short tables places a b of_a of_b t opens_a opens_b) (layouts_are short tables places a b of_a of_b t opens_a opens_b) used in
    subst (All HasStoredNumber) its.slots (stored t row its.used)

-- ---- what the log opens to is what is found

-- the bytes of the log open to these tables, of which this is the next number
pub record IsOpened (restart : Restart) (bytes : List ℕ) (changes : List Change) (tables : Tables) (layouts : Layouts) (next : ℕ) : Type 0 where
  pub scan : Scans restart bytes changes
  pub opens : Opens restart.short restart.tables (changes_over none_laid changes) tables layouts
  pub is_next : IsNext restart changes tables layouts next

-- what is found by this restart
abbrev pub reading : (found : Found) → Restart → List Change → Tables → Layouts → (next : ℕ) → Reading
reading found restart changes tables layouts next =
    record { restart = restart; changes = changes; found = tables; layouts = layouts; rows = found.rows; next = next }

module _ (tables_are : SameTables) (layouts_are : SameLayouts) (shown : SameShown) (stands : FoundStands) (one : OneFound) (files : Files) (found : Found) (restart : Restart)
    (is_found : IsFound found files) (one_file : IsOneFile files) (picked : IsPicked (first_restart files) (second_restart files) restart) where
  beside : IsBeside restart files
  beside = record { picked = picked; one = one_file }

  says : Says restart found.commits found.rows (files the_log)
  says = says_of restart found.commits found.rows files beside (stands files found is_found)

  first : restart.first ≡ 0
  first = (one_file.begins restart picked).first

  module _ (changes : List Change) (tables : Tables) (layouts : Layouts) (next : ℕ) (opened : IsOpened restart (files the_log) changes tables layouts next) where
    same : says.changes ≡ changes
    same = one_scan restart (files the_log) says.changes changes says.scan opened.scan

    abbrev places : Places
    places = changes_over none_laid changes

    says_opens : Opens restart.short restart.tables places says.found says.layouts
    says_opens = subst (λ (l : List Change). Opens restart.short restart.tables (changes_over none_laid l) says.found says.layouts) same says.opens

    shows : Shows no_parts tables layouts (done_by restart changes) found.rows
    shows =
        shown no_parts restart.short restart.tables places says.found tables says.layouts layouts (done_by restart changes) found.rows says_opens opened.opens
        (subst (λ (l : List Change). Shows no_parts says.found says.layouts (done_by restart l) found.rows) same says.shows)

    reads : IsReadIn files (reading found restart changes tables layouts next)
    reads = record {
      finds =
          finds_by restart files changes tables layouts beside opened.scan opened.opens
          (stored_alike tables_are layouts_are restart.short restart.tables places says.found tables says.layouts layouts says_opens opened.opens says.numbers);
      shows = shows;
      number = opened.is_next;
    }

    found_is : found ≡ found_in (reading found restart changes tables layouts next)
    found_is = one files found (found_in (reading found restart changes tables layouts next)) is_found
        (record { read = reading found restart changes tables layouts next; reads = reads; is = refl })

  -- ---- cells that were opened

  module _ (opened : Cells) (s : State) (opens : OpensAs restart (files the_log) opened s) where
    its_opened : IsOpened restart (files the_log) opens.changes opens.found opens.layouts (opened.base + 1)
    its_opened = record { scan = opens.scan; opens = opens.opens; is_next = opens.next }

    is_so : found ≡ found_in (reading found restart opens.changes opens.found opens.layouts (opened.base + 1))
    is_so = found_is opens.changes opens.found opens.layouts (opened.base + 1) its_opened

    base_is : opened.base + 1 - 1 ≡ opened.base
    base_is = omega arith

    commits_are : found.commits ≡ commits_by restart opens.changes
    commits_are = ap (λ (f : Found). f.commits) is_so

    machine_is : machine_of found ≡ fresh restart.tables restart.short found.rows found.commits opened.base
    machine_is =
        ap machine_of is_so
        ∙ ap (λ (base : ℕ). fresh restart.tables restart.short found.rows (commits_by restart opens.changes) base) base_is
        ∙ ap (λ (commits : ℕ). fresh restart.tables restart.short found.rows commits opened.base) (sym commits_are)

    pub are_cells : AreCellsOf found restart opened
    are_cells = record {
      machine = machine_is;
      commits_are = commits_are ∙ sym opens.commits_are;
      redone_are = omega (arith, ap (λ (f : Found). f.redone) is_so, first, opens.redone_are);
      frames = omega (arith, ap (λ (f : Found). f.frames) is_so, first, opens.frames);
    }

  -- ---- no room

  pub below_frames : (frame : ℕ) → HasNoRoom restart (files the_log) frame → frame < found.frames
  below_frames frame none =
      omega (
        arith,
        ap (λ (f : Found). f.frames)
            (found_is none.changes none.found none.layouts none.next (record { scan = none.scan; opens = none.opens; is_next = none.is_next })),
        first,
        none.below,
      )

pub finds_no_room : SameTables → SameLayouts → SameShown → FoundStands → OneFound → (files : Files) (found : Found) (frame : ℕ) → IsFound found files → IsOneFile files
    → HasNoRoomIn files frame → frame < found.frames
finds_no_room tables_are layouts_are shown stands one files found frame is_found one_file none =
    below_frames tables_are layouts_are shown stands one files found none.restart is_found one_file none.picked frame none.no_room

-- ---- what is found is sound

pub found_sound : FoundStands → (files : Files) (found : Found) (is_found : IsFound found files) → IsOneFile files
    → (changes : List Change) × (tables : Tables) × (layouts : Layouts) × IsSound is_found.read.restart (files the_log) changes tables layouts
found_sound stands files found is_found one_file =
    let says = says_of is_found.read.restart found.commits found.rows files (record { picked = is_found.reads.finds.picked; one = one_file }) (stands files found is_found) in
    (says.changes, says.found, says.layouts, record { scan = says.scan; opens = says.opens; stored = says.numbers })
