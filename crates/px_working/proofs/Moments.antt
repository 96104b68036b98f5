-- What lasts goes on with each step, each frame and each sync.
use Rattle.std.proofs.Common.{◌≡◌, ℕ, ◌+◌, ◌-◌, ◌≤◌, max, false, List, refl, sym, ap, subst, ◌∙◌, arith, inl, inr}
use Rattle.std.proofs.lemmas.Bool.{ne_eqb}
use Rattle.px_apply.specs.Contents.{Contents}
use Rattle.px_apply.specs.Writes.{file_of}
use Rattle.px_cells.specs.declared.cell.Cell.{Cell}
use Rattle.px_cells.specs.declared.cell.CellKind.{CellKind}
use Rattle.px_cells.specs.declared.cell.CellKind.TheVariants as kinds
use Rattle.px_filed.proofs.Filed.{image_of_rest}
use Rattle.px_filed.specs.Filed.{KeepCells, Rests}
use Rattle.px_laid.specs.Places.{Places}
use Rattle.px_life.specs.Front.{commits_at}
use Rattle.px_life.specs.Laid.{cells_by}
use Rattle.px_life.specs.Life.{IsLife, Life, between, end_of, places_at, store_at}
use Rattle.px_logged.specs.Growing.{KeepsOpening}
use Rattle.px_model.specs.Machine.{Machine, commits, published}
use Rattle.px_model.specs.declared.row.Row.{Row}
use Rattle.px_reached.specs.Reachable.{IsReachable, Marks, PublishesFronts}
use Rattle.px_reached.specs.Stands.{StandsFor}
use Rattle.px_recs.specs.Place.{table_file}
use Rattle.px_restart.specs.Restart.{CanRestart, IsPicked}
use Rattle.px_restart.specs.declared.restart.Restart.{Restart}
use Rattle.px_shown.specs.Parts.{Parts}
use Rattle.px_shown.specs.Shown.{Shows}
use Rattle.px_site.specs.Disk.{FileState, IsImage, at_rest}
use Rattle.px_site.specs.Names.{same_file}
use Rattle.px_site.specs.State.{Moment}
use Rattle.px_site.specs.declared.name.FileName.{FileName}
use Rattle.px_site.specs.declared.name.FileName.TheVariants.{Restart as RestartFile, Xlog}
use Rattle.px_standing.specs.Images.{IsPlainImage}
use Rattle.px_xlog.specs.Contents.{the_log}
use Rattle.px_working.specs.Follows.{KeepsPublished}
use Rattle.px_working.specs.Lasts.{HasBetween, HasOthersOf, IsOneSegment, IsValid, Lasts, LeavesFronts}
use Rattle.px_working.proofs.Log.{log_kept}

-- ---- the files

pub same_valid : (restart : Restart) (before now : Moment) → HasOthersOf before now → IsValid restart before → IsValid restart now
same_valid restart before now others valid = record {
  first = valid.first;
  second = valid.second;
  first_rests = others (RestartFile 0) refl ∙ valid.first_rests;
  second_rests = others (RestartFile 1) refl ∙ valid.second_rests;
  picked = valid.picked;
}

no_log : (what : CellKind) (table : ℕ) → same_file the_log (table_file what table) ≡ false
no_log kinds.Header table = refl
no_log kinds.Slot table = refl
no_log kinds.Pointer table = refl

pub same_segment : (restart : Restart) (life other : Life) (before now : Moment) → other.first ≡ life.first → HasOthersOf before now
    → IsOneSegment restart life before → IsOneSegment restart other now
same_segment restart life other before now same others one = record {
  known = same ∙ one.known;
  segment = one.segment;
  first = one.first;
  others = λ segment past. others (Xlog segment) (ne_eqb 1 segment (λ is. omega (arith, past, is))) ∙ one.others segment past;
}

-- whether a cell rests is said of its file alone
abbrev RestsIn : (short : ℕ) → Cell → FileState → Type 0
RestsIn short cell file = Rests short (λ name. file) cell

-- the table files are as they were
pub same_cells : (short : ℕ) (below : Places) (later : List Cell) (before now : Moment) → HasOthersOf before now → KeepCells short below later before.files → KeepCells short below later now.files
same_cells short below later before now others keep = record {
  rest = λ cell lies away.
      let rests = keep.rest cell lies away in
      let same : now.files (file_of cell) ≡ before.files (file_of cell) = others (file_of cell) (no_log cell.what cell.table) in
      moved cell rests same;
  none = λ table lies away.
      let was = keep.none table lies away in (
        others (table_file kinds.Header table) refl ∙ was.0,
        others (table_file kinds.Pointer table) refl ∙ was.1,
      );
}
  where
    moved : (cell : Cell) → Rests short before.files cell → now.files (file_of cell) ≡ before.files (file_of cell) → Rests short now.files cell
    moved cell rests same =
        let was : RestsIn short cell (before.files (file_of cell)) = record { size = rests.size; synced = rests.synced; untouched = rests.untouched; there = rests.there } in
        let is = subst (RestsIn short cell) (sym same) was in
        record { size = is.size; synced = is.synced; untouched = is.untouched; there = is.there }

can_of : (a b : List ℕ) (restart : Restart) → IsPicked a b restart → CanRestart restart
can_of a b restart picked = elim picked [ inl one ↦ one.0.can | inr one ↦ one.0.can ]

pub can_restart : (restart : Restart) (now : Moment) → IsValid restart now → CanRestart restart
can_restart restart now valid = can_of valid.first valid.second restart valid.picked

-- ---- an image

-- what is used of the law below
abbrev pub Stands : Type 0
Stands = (parts : Parts) (next : ℕ) (rows : List Row) (life : Life) (restart : Restart) (marks : Marks) (machine : Machine) (m : Moment) (image : Contents)
    → IsLife parts restart.short restart.tables next rows life
    → IsReachable IsPlainImage restart.short restart life marks m → PublishesFronts parts restart life marks machine
    → IsPlainImage m image → IsPicked (image (RestartFile 0)) (image (RestartFile 1)) restart
    → (frame : ℕ) × (marks.durable ≤ frame) × (frame ≤ end_of life)
    × StandsFor parts image (commits_at restart life frame) (published machine (commits_at restart life frame - machine.before))

picked_in : (restart : Restart) (now : Moment) (image : Contents) → IsValid restart now → IsPlainImage now image → IsPicked (image (RestartFile 0)) (image (RestartFile 1)) restart
picked_in restart now image valid plain =
    subst (λ (a : List ℕ). IsPicked a (image (RestartFile 1)) restart) (sym (there (RestartFile 0) valid.first valid.first_rests))
    (subst (λ (b : List ℕ). IsPicked valid.first b restart) (sym (there (RestartFile 1) valid.second valid.second_rests)) valid.picked)
  where
    there : (name : FileName) (bytes : List ℕ) → now.files name ≡ at_rest bytes → image name ≡ bytes
    there name bytes rests = image_of_rest bytes (image name) (subst (λ (file : FileState). IsImage file (image name)) rests (plain.each name))

pub crash_leaves : Stands → (parts : Parts) (least : ℕ) (m : Machine) (life : Life) (restart : Restart) (marks : Marks) (now : Moment) (image : Contents)
    → Lasts parts least m life restart marks now → IsPlainImage now image → HasBetween parts least (commits m) m image
crash_leaves stands parts least m life restart marks now image lasts plain =
    let met = stands parts (m.base + 1) m.opening life restart marks m now image lasts.is_life lasts.reachable lasts.publishes plain (picked_in restart now image lasts.valid plain) in
    record {
      count = commits_at restart life met.0;
      no_less = lasts.acknowledged met.0 met.1 met.2;
      no_more = lasts.made met.0 met.1 met.2;
      stands = met.3;
    }

-- ---- another machine

pub same_rows : (m later : Machine) → KeepsOpening m later → KeepsPublished m later → (count : ℕ) → count ≤ commits m → published later (count - later.before) ≡ published m (count - m.before)
same_rows m later opening stays count within =
    ap (λ (before : ℕ). published later (count - before)) opening.before ∙ stays (count - m.before) (omega (arith, within))

pub same_life : (parts : Parts) (short tables : ℕ) (m later : Machine) (life : Life) → KeepsOpening m later → IsLife parts short tables (m.base + 1) m.opening life
    → IsLife parts short tables (later.base + 1) later.opening life
same_life parts short tables m later life opening is =
    subst (λ (base : ℕ). IsLife parts short tables (base + 1) later.opening life) (sym opening.base)
    (subst (λ (rows : List Row). IsLife parts short tables (m.base + 1) rows life) (sym opening.opening) is)

pub another_lasts : (parts : Parts) (least : ℕ) (m later : Machine) (life : Life) (restart : Restart) (marks : Marks) (now : Moment)
    → Lasts parts least m life restart marks now → KeepsOpening m later → commits later ≡ commits m → KeepsPublished m later
    → Lasts parts least later life restart marks now
another_lasts parts least m later life restart marks now lasts opening same stays = record {
  is_life = same_life parts restart.short restart.tables m later life opening lasts.is_life;
  segment = lasts.segment;
  valid = lasts.valid;
  reachable = lasts.reachable;
  publishes = λ frame from to. subst (Shows parts (store_at life frame).tables (store_at life frame).layouts (store_at life frame).done)
      (sym (same_rows m later opening stays (commits_at restart life frame) (lasts.made frame from to))) (lasts.publishes frame from to);
  acknowledged = lasts.acknowledged;
  made = λ frame from to. omega (arith, lasts.made frame from to, same);
  all_commits = lasts.all_commits ∙ sym same;
}

-- ---- a sync

pub synced_meanwhile : (parts : Parts) (least durable : ℕ) (m : Machine) (life : Life) (restart : Restart) (marks : Marks) (before now : Moment)
    → Lasts parts least m life restart marks before → HasOthersOf before now → marks.durable ≤ durable → durable ≤ end_of life
    → LeavesFronts durable life.changes (now.files the_log)
    → Lasts parts least m life restart (record marks { durable = durable }) now
synced_meanwhile parts least durable m life restart marks before now lasts others rose within leaves =
    let one = same_segment restart life life before now refl others lasts.segment in
    let reach = lasts.reachable in
    record {
      is_life = lasts.is_life;
      segment = one;
      valid = same_valid restart before now others lasts.valid;
      reachable = record {
        first = reach.first;
        redo_from = reach.redo_from;
        redo_to = reach.redo_to;
        applied = omega (arith, reach.applied, rose);
        durable = omega (arith, reach.durable, rose);
        start = omega (arith, reach.start, rose);
        end = within;
        log = log_kept life restart (record marks { durable = durable }) now one leaves;
        files = same_cells restart.short (places_at life (max restart.redo life.start)) (cells_by (between life restart.redo (max marks.applied life.start))) before now others reach.files;
        prefix = λ frame from to. reach.prefix frame (omega (arith, from, rose)) to;
      };
      publishes = λ frame from to. lasts.publishes frame (omega (arith, from, rose)) to;
      acknowledged = λ frame from to. lasts.acknowledged frame (omega (arith, from, rose)) to;
      made = λ frame from to. lasts.made frame (omega (arith, from, rose)) to;
      all_commits = lasts.all_commits;
    }

pub synced_all : (parts : Parts) (least : ℕ) (m : Machine) (life : Life) (restart : Restart) (marks : Marks) (before now : Moment)
    → Lasts parts least m life restart marks before → HasOthersOf before now → LeavesFronts (end_of life) life.changes (now.files the_log)
    → Lasts parts (commits m) m life restart (record marks { durable = end_of life }) now
synced_all parts least m life restart marks before now lasts others leaves =
    let more = synced_meanwhile parts least (end_of life) m life restart marks before now lasts others lasts.reachable.end (omega arith) leaves in
    record {
      is_life = more.is_life;
      segment = more.segment;
      valid = more.valid;
      reachable = more.reachable;
      publishes = more.publishes;
      acknowledged = λ frame from to.
          let whole : frame ≡ end_of life = omega (arith, from, to) in
          omega (arith, ap (commits_at restart life) whole, lasts.all_commits);
      made = more.made;
      all_commits = more.all_commits;
    }
