-- A site on which a machine's store lasts is a settled store with all that the machine has committed.
use Rattle.std.proofs.Common.{◌≡◌, ℕ, ◌+◌, ◌-◌, List, [], drop, length, map, take, refl, sym, ap, subst, ◌∙◌, arith}
use Rattle.std.proofs.lemmas.List.{take_all}
use Rattle.std.specs.List.{AllByRecursion}
use Rattle.px_beginning.proofs.Lasting.{KeepsFronts}
use Rattle.px_beginning.proofs.Unlinks.{FrontsHold}
use Rattle.px_beginning.specs.Found.{Reading}
use Rattle.px_change.specs.Text.{change_text}
use Rattle.px_change.specs.declared.change.Change.{Change}
use Rattle.px_filed.specs.Filed.{file_places}
use Rattle.px_history.specs.Store.{Store}
use Rattle.px_life.proofs.Between.{all_between}
use Rattle.px_life.specs.Front.{commits_by, done_at, done_by}
use Rattle.px_life.specs.Life.{Life, MayStand, between, end_of, places_at}
use Rattle.px_log.proofs.Appending.{appended_behind}
use Rattle.px_log.proofs.AtRest.{image_of_rest}
use Rattle.px_log.proofs.FramesOfChanges.{can_frames}
use Rattle.px_log.specs.Contents.{log_text}
use Rattle.px_log.specs.Log.{grown_file}
use Rattle.px_logged.specs.Recounting.{rows_now}
use Rattle.px_model.specs.Machine.{Machine, commits, published}
use Rattle.px_opened.specs.Opened.{Opens, changes_over}
use Rattle.px_reached.proofs.Standing.{FilesLie, MoreOpens, OnlyNumbers}
use Rattle.px_reached.specs.Reachable.{KeepsLog, Marks}
use Rattle.px_reached.specs.Scanned.{scan}
use Rattle.px_reached.specs.Stands.{Finds}
use Rattle.px_restart.specs.Restart.{IsPicked}
use Rattle.px_restart.specs.declared.restart.Restart.{Restart}
use Rattle.px_scan.proofs.Scans.{frames_of-frames}
use Rattle.px_scan.specs.Scan.{frames_of}
use Rattle.px_shown.specs.Parts.{Parts, no_parts}
use Rattle.px_shown.specs.Shown.{Shows}
use Rattle.px_site.proofs.Images.{image_at_rest}
use Rattle.px_site.specs.Disk.{FileState, IsImage, at_rest}
use Rattle.px_site.specs.State.{Moment}
use Rattle.px_site.specs.declared.name.FileName.{FileName}
use Rattle.px_site.specs.declared.name.FileName.TheVariants.{Restart as RestartFile, Xlog}
use Rattle.px_standing.specs.Images.{IsPlainImage}
use Rattle.px_standing.specs.Files.{Files}
use Rattle.px_standing.specs.Resting.{ReadsImages}
use Rattle.px_tidying.specs.Opening.{HasLife, Opening}
use Rattle.px_working.specs.Follows.{last_store}
use Rattle.px_working.specs.Lasts.{HasBetween, IsOneSegment, IsValid, Lasts, LeavesFronts}
use Rattle.px_working.specs.Works.{Works}
use Rattle.px_xlog.specs.Contents.{the_log}
use Rattle.px_xlog.specs.Written.{IsBehind, IsPlainLog}
use Rattle.px_cell_standing.specs.Found.{CanBeFound, HoldsStore, found_in}
use Rattle.px_cell_standing.specs.Settled.{HasEmptyTables, IsFromStart, Settled}
use Rattle.px_cell_standing.specs.Standing.{StandsFor}
use Rattle.px_cell_standing.proofs.Next.{next_is}
use Rattle.px_cell_standing.proofs.One.{one_picked}
use Rattle.px_cell_standing.proofs.Plain.{log_is_plain, plain_restart, rest_is_plain}

-- ---- what is used of the laws below

abbrev pub CrashLeaves : Type 0
CrashLeaves = (parts : Parts) (least : ℕ) (m : Machine) (life : Life) (restart : Restart) (marks : Marks) (now : Moment) (image : Files)
    → Lasts parts least m life restart marks now → IsPlainImage now image → HasBetween parts least (commits m) m image

-- ---- what reads as what a crash may leave

left_of_rest : (file : FileState) (content image : List ℕ) → file ≡ at_rest content → IsImage file image → image ≡ content
left_of_rest file content image rests is = image_of_rest content image (subst (λ (f : FileState). IsImage f image) rests is)

-- the restart that counts is the one that counts in whatever a crash leaves
picked_in : (restart : Restart) (now : Moment) (image : Files) → IsValid restart now → ((name : FileName) → IsImage (now.files name) (image name))
    → IsPicked (image (RestartFile 0)) (image (RestartFile 1)) restart
picked_in restart now image valid images =
    subst (λ (a : List ℕ). IsPicked a (image (RestartFile 1)) restart) (sym (left_of_rest _ valid.first (image (RestartFile 0)) valid.first_rests (images (RestartFile 0))))
    (subst (λ (b : List ℕ). IsPicked valid.first b restart) (sym (left_of_rest _ valid.second (image (RestartFile 1)) valid.second_rests (images (RestartFile 1)))) valid.picked)

-- a moment at which all that reads so is on the disk
abbrev pub resting : Files → Moment
resting files = record { files = λ name. at_rest (files name); told = []; telling = [] }

pub rest_image : (files : Files) → IsPlainImage (resting files) files
rest_image files = record {
  each = λ name. image_at_rest (files name);
  first = plain_restart (at_rest (files (RestartFile 0))) (files (RestartFile 0)) refl;
  second = plain_restart (at_rest (files (RestartFile 1))) (files (RestartFile 1)) refl;
  log = rest_is_plain (files the_log);
}

module _ (least : ℕ) (m : Machine) (life : Life) (restart : Restart) (marks : Marks) (o : Opening) (has : HasLife no_parts least m life restart marks o) (reads : ReadsImages o.site) where
  abbrev content : Files
  content = o.site.content

  abbrev now : Moment
  now = o.site.now

  abbrev store : Store
  store = last_store life

  lasts : Lasts no_parts least m life restart marks o.site.now
  lasts = has.lasts

  known : life.first ≡ 0
  known = has.lasts.segment.known

  first : restart.first ≡ 0
  first = has.lasts.segment.first

  -- ---- the log

  whole : frames_of (o.site.content the_log) 0 ≡ map change_text life.changes
  unfolding log_text
  whole =
      ap (λ (bytes : List ℕ). frames_of bytes 0) has.logged.content
      ∙ frames_of-frames 0 (map change_text life.changes)
      (can_frames o.log.tables 0 o.log.short life.changes has.logged.held (omega (arith, has.logged.count, has.store.room)))

  -- once all that reads is on the disk, a crash leaves all frames
  fronts : LeavesFronts (end_of life) life.changes (at_rest (o.site.content the_log))
  fronts image left plain = (
    length life.changes,
    omega (arith, known),
    omega arith,
    ap (λ (bytes : List ℕ). frames_of bytes 0) (image_of_rest (o.site.content the_log) image left)
        ∙ whole
        ∙ sym (ap (map change_text) (take_all (length life.changes) life.changes (omega arith))),
  )

  alone : IsOneSegment restart life (resting o.site.content)
  alone = record {
    known = known;
    segment = has.lasts.segment.segment;
    first = first;
    others = λ segment past. ap at_rest (left_of_rest _ [] (o.site.content (Xlog segment)) (has.lasts.segment.others segment past) (reads (Xlog segment)));
  }

  all_is : between life restart.first (end_of life) ≡ life.changes
  all_is =
      all_between life restart.first (omega (arith, known, first)) (omega (arith, known, first))
      ∙ (let none : restart.first - life.first ≡ 0 = omega (arith, known, first) in ap (λ (n : ℕ). drop n life.changes) none)

  module _ (fronts_kept : KeepsFronts) where
    kept : KeepsLog IsPlainImage restart life (record marks { durable = end_of life }) (resting o.site.content)
    kept = fronts_kept life restart (record marks { durable = end_of life }) (resting o.site.content) alone fronts

    scanned : scan restart o.site.content ≡ map change_text life.changes
    scanned =
        let met = kept.each o.site.content (rest_image o.site.content) in
        let last : met.0 ≡ end_of life = omega (arith, met.1, met.2) in
        met.3 ∙ ap (λ (n : ℕ). map change_text (between life restart.first n)) last ∙ ap (map change_text) all_is

  -- ---- what is read

  -- the cells of the last front lie in the files, under the frames from `redo` on
  opens : FilesLie → FrontsHold → MoreOpens
      → Opens restart.short restart.tables (changes_over (file_places restart.short o.site.content) (drop (restart.redo - restart.first) life.changes)) store.tables store.layouts
  opens lie hold more =
      let life_is = has.lasts.is_life in
      let reach = has.lasts.reachable in
      let none : restart.redo - life.first ≡ restart.redo - restart.first = omega (arith, known, first) in
      let laid : between life restart.redo (end_of life) ≡ drop (restart.redo - restart.first) life.changes =
      all_between life restart.redo (omega (arith, known)) (omega (arith, reach.redo_to, reach.applied, reach.end))
      ∙ ap (λ (n : ℕ). drop n life.changes) none in
      subst (λ (changes : List Change). Opens restart.short restart.tables (changes_over (file_places restart.short o.site.content) changes) store.tables store.layouts) laid
      (more restart.short restart.tables store (places_at life (end_of life)) (changes_over (file_places restart.short o.site.content) (between life restart.redo (end_of life)))
      (hold no_parts restart.short restart.tables (m.base + 1) m.opening life (end_of life) life_is (omega (arith, reach.start, reach.end)) (omega arith))
      (lie no_parts restart.short restart.tables (m.base + 1) m.opening life restart.redo marks.applied marks.durable o.site.now.files o.site.content (end_of life) life_is reach.files
      reach.redo_from reach.redo_to reach.applied reach.start reach.end (omega arith) reads))

  shows : OnlyNumbers → Shows no_parts store.tables store.layouts (done_by restart life.changes) (rows_now m)
  shows only =
      let here = has.lasts.publishes (end_of life) has.lasts.reachable.end (omega arith) in
      let now_is : Shows no_parts store.tables store.layouts store.done (rows_now m) =
      subst (λ (n : ℕ). Shows no_parts store.tables store.layouts store.done (published m (n - m.before))) has.lasts.all_commits here in
      subst (λ (changes : List Change). Shows no_parts store.tables store.layouts (done_by restart changes) (rows_now m)) all_is
      (only no_parts store.tables store.layouts store.done (done_at restart life (end_of life)) (rows_now m)
      (has.lasts.reachable.prefix (end_of life) has.lasts.reachable.end (omega arith)).done now_is)

  commits_are : commits_by restart life.changes ≡ commits m
  commits_are = sym (ap (commits_by restart) all_is) ∙ has.lasts.all_commits

  finds : KeepsFronts → FilesLie → FrontsHold → MoreOpens → Finds o.site.content restart life.changes store.tables store.layouts
  finds fronts_kept lie hold more =
      let reach = has.lasts.reachable in
      record {
        picked = picked_in restart o.site.now o.site.content has.lasts.valid reads;
        scanned = scanned fronts_kept;
        held = subst (λ (n : ℕ). MayStand restart.tables n restart.short life.changes) (known ∙ sym first) has.lasts.is_life.stand;
        reached = omega (arith, reach.durable, reach.end, known);
        behind = (kept fronts_kept).behind o.site.content (rest_image o.site.content);
        opens = opens lie hold more;
        numbers = (reach.prefix (end_of life) reach.end (omega arith)).numbers;
      }

  -- ---- a settled site

  stands : CrashLeaves → least ≡ commits m → (image : Files) → IsPlainImage o.site.now image → StandsFor image (commits m) (rows_now m)
  stands leaves all image plain =
      let has_some = leaves no_parts least m life restart marks o.site.now image has.lasts plain in
      let count : has_some.count ≡ commits m = omega (arith, has_some.no_less, has_some.no_more, all) in
      subst (λ (n : ℕ). StandsFor image n (published m (n - m.before))) count has_some.stands

  settles : CrashLeaves → least ≡ commits m → HasEmptyTables o.site.now → restart.redo ≡ 0 → Settled o.site (commits m) (rows_now m)
  settles leaves all empty redo =
      let valid = has.lasts.valid in
      record {
        plain = record {
          each = reads;
          first = plain_restart (o.site.now.files (RestartFile 0)) (o.site.content (RestartFile 0))
              (valid.first_rests ∙ ap at_rest (sym (left_of_rest _ valid.first (o.site.content (RestartFile 0)) valid.first_rests (reads (RestartFile 0)))));
          second = plain_restart (o.site.now.files (RestartFile 1)) (o.site.content (RestartFile 1))
              (valid.second_rests ∙ ap at_rest (sym (left_of_rest _ valid.second (o.site.content (RestartFile 1)) valid.second_rests (reads (RestartFile 1)))));
          log = subst (λ (f : FileState). IsPlainLog f (o.site.content the_log)) (sym has.logged.file)
              (subst (λ (c : List ℕ). IsPlainLog (grown_file o.log.durable life.changes) c) (sym has.logged.content) (log_is_plain o.log.durable life.changes has.logged.durable));
        };
        images = record { each = stands leaves all };
        grew = subst (λ (f : FileState). AllByRecursion (IsBehind f.synced) f.pending) (sym has.logged.file)
            (appended_behind (log_text (take o.log.durable life.changes)) [] (length (log_text (take o.log.durable life.changes))) o.log.durable
            (map change_text (drop o.log.durable life.changes)) tt (omega arith));
        alone = record {
          tables = empty;
          segments = has.lasts.segment.others;
          begins = λ image plain other picked.
              subst IsFromStart (one_picked (image (RestartFile 0)) (image (RestartFile 1)) restart other (picked_in restart o.site.now image valid plain.each) picked)
              (record { segment = has.lasts.segment.segment; first = first; redo = redo });
        };
      }

  -- ---- with all that the machine has committed

  pub lasting_holds : KeepsFronts → FilesLie → FrontsHold → MoreOpens → OnlyNumbers → CrashLeaves
      → least ≡ commits m → Works no_parts m life restart → CanBeFound m life restart o.site.now → HoldsStore m o.site
  lasting_holds fronts_kept lie hold more only leaves all works can =
      let next = next_is restart.short restart.tables (changes_over (file_places restart.short o.site.content) (drop (restart.redo - restart.first) life.changes))
      restart life.changes store.tables store.layouts (opens lie hold more) in
      let read : Reading = record {
        restart = restart;
        changes = life.changes;
        found = store.tables;
        layouts = store.layouts;
        rows = rows_now m;
        next = next.0;
      } in
      let from = can.names.from next.0 next.1.unnamed in
      let to = next.1.least (m.base + m.begun + 1) can.names.to in
      record {
        found = found_in read;
        store = record {
          is_found = record {
            read = read;
            reads = record { finds = finds fronts_kept lie hold more; shows = shows only; number = next.1 };
            is = refl;
          };
          settled = subst (λ (n : ℕ). Settled o.site n (rows_now m)) (sym commits_are) (settles leaves all can.tables can.redo);
        };
        has_all = record {
          tables = works.tables;
          short = works.short;
          commits_are = commits_are;
          rows_are = refl;
          base_from = omega (arith, from);
          base_to = omega (arith, to);
        };
      }
