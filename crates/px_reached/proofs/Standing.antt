-- Whatever a crash leaves that can be reached stands for a front.
use Rattle.std.proofs.Common.{◌≡◌, ℕ, ◌+◌, ◌-◌, ◌≤◌, List, All, drop, length, map, take, refl, sym, ap, subst, ◌∙◌, arith, inl, inr}
use Rattle.std.proofs.lemmas.List.{drop-take, length-drop, length-take}
use Rattle.px_site.specs.State.{Moment}
use Rattle.px_change.specs.declared.change.Change.{Change}
use Rattle.px_change.specs.Text.{change_text}
use Rattle.px_chain.specs.Sound.{IsUsedRow}
use Rattle.px_history.specs.Store.{Store}
use Rattle.px_laid.specs.Places.{Places}
use Rattle.px_model.specs.declared.row.Row.{Row}
use Rattle.px_model.specs.Machine.{Machine, published}
use Rattle.px_opened.specs.Kept.{HoldsStore}
use Rattle.px_opened.specs.Opened.{Opens, changes_over}
use Rattle.px_restart.specs.declared.restart.Restart.{Restart}
use Rattle.px_restart.specs.Restart.{CanRestart, IsPicked}
use Rattle.px_shown.specs.Shown.{Done, Shows}
use Rattle.px_shown.specs.Tables.{Layouts, Tables, slots_of_row}
use Rattle.px_site.specs.Disk.{FileState, IsImage}
use Rattle.px_site.specs.declared.name.FileName.{FileName}
use Rattle.px_site.specs.declared.name.FileName.TheVariants.{Restart as RestartFile}
use Rattle.px_apply.specs.Contents.{Contents}
use Rattle.px_shown.specs.Parts.{Parts}
use Rattle.px_life.specs.Extends.{Extends}
use Rattle.px_filed.specs.Filed.{KeepsFiles, file_places}
use Rattle.px_life.specs.Front.{commits_at, done_at}
use Rattle.px_life.specs.Life.{IsLife, Life, MayStand, between, end_of, places_at, store_at}
use Rattle.px_reached.specs.Reachable.{IsReachable, Marks, PublishesFronts}
use Rattle.px_reached.specs.Scanned.{scan}
use Rattle.px_reached.specs.Stands.{StandsFor}
use Rattle.px_life.proofs.Between.{drop_drop}
use Rattle.px_life.proofs.Fronts.{StepsHold, front_held, stand_drop, stand_take}

-- what is used of the laws below

abbrev pub OnlyNumbers : Type 0
OnlyNumbers = (parts : Parts) (tables : Tables) (layouts : Layouts) (done other : Done) (rows : List Row)
    → ((t row : ℕ) → IsUsedRow (tables t) row → All (λ slot. done slot.xn ≡ other slot.xn) (slots_of_row (tables t) (layouts t) row))
    → Shows parts tables layouts done rows → Shows parts tables layouts other rows

abbrev pub MoreOpens : Type 0
MoreOpens = (short tables : ℕ) (store : Store) (below above : Places) → HoldsStore short tables store below → Extends below above
    → Opens short tables above store.tables store.layouts

-- what a crash leaves of the table files has all cells of the front
abbrev pub FilesLie : Type 0
FilesLie = (parts : Parts) (short tables next : ℕ) (rows : List Row) (life : Life) (redo applied durable : ℕ) (files : FileName → FileState) (image : Contents) (frame : ℕ)
    → IsLife parts short tables next rows life → KeepsFiles short life redo applied files
    → life.redo ≤ redo → redo ≤ applied → applied ≤ durable → life.start ≤ durable → durable ≤ frame → frame ≤ end_of life
    → ((name : FileName) → IsImage (files name) (image name))
    → Extends (places_at life frame) (changes_over (file_places short image) (between life redo frame))

-- what is left where no torn record's sum matches by chance is an image
abbrev pub ArePlain : (Moment → Contents → Type 0) → Type 0
ArePlain IsPlain = (m : Moment) (image : Contents) → IsPlain m image → (name : FileName) → IsImage (m.files name) (image name)

can_of : (a b : List ℕ) (r : Restart) → IsPicked a b r → CanRestart r
can_of a b r picked = elim picked [ inl one ↦ one.0.can | inr one ↦ one.0.can ]

-- what lies between, from a later frame on
later_between : {X : Type 0} (first redo frame start : ℕ) (xs : List X) → start ≤ first → first ≤ redo → redo ≤ frame
    → drop (redo - first) (take (frame - first) (drop (first - start) xs)) ≡ take (frame - redo) (drop (redo - start) xs)
later_between first redo frame start xs a b c =
    let whole : frame - first ≡ (redo - first) + (frame - redo) = omega (arith, b, c) in
    let place : (first - start) + (redo - first) ≡ redo - start = omega (arith, a, b) in
    ap (λ (n : ℕ). drop (redo - first) (take n (drop (first - start) xs))) whole
    ∙ drop-take (redo - first) (frame - redo) (drop (first - start) xs)
    ∙ ap (take (frame - redo)) (drop_drop (first - start) (redo - first) xs ∙ ap (λ (n : ℕ). drop n xs) place)

pub reachable_stands : StepsHold → OnlyNumbers → MoreOpens → FilesLie
    → (IsPlain : Moment → Contents → Type 0) → ArePlain IsPlain
    → (parts : Parts) (next : ℕ) (rows : List Row) (life : Life) (restart : Restart) (marks : Marks) (machine : Machine) (m : Moment) (image : Contents)
    → IsLife parts restart.short restart.tables next rows life
    → IsReachable IsPlain restart.short restart life marks m → PublishesFronts parts restart life marks machine
    → IsPlain m image → IsPicked (image (RestartFile 0)) (image (RestartFile 1)) restart
    → (frame : ℕ) × (marks.durable ≤ frame) × (frame ≤ end_of life)
    × StandsFor parts image (commits_at restart life frame) (published machine (commits_at restart life frame - machine.before))
reachable_stands hold only more lie IsPlain images parts next rows life restart marks machine m image is reach publishes plain picked = (
  frame,
  from,
  to,
  record {
    restart = restart;
    changes = between life restart.first frame;
    found = (store_at life frame).tables;
    layouts = (store_at life frame).layouts;
    finds = record {
      picked = picked;
      scanned = met.3;
      held = subst (λ (n : ℕ). MayStand restart.tables n restart.short (between life restart.first frame)) at
          (stand_take restart.tables (life.first + (restart.first - life.first)) restart.short (frame - restart.first) (drop (restart.first - life.first) life.changes)
          (stand_drop restart.tables life.first restart.short (restart.first - life.first) life.changes within is.stand));
      reached = omega (arith, reach.durable, reach.first, can.marks.first_to, reach.redo_to, reach.applied, from, to, length-take (frame - restart.first) (drop (restart.first - life.first) life.changes), length-drop (restart.first - life.first) life.changes);
      behind = reach.log.behind image plain;
      opens = subst (λ (changes : List Change). Opens restart.short restart.tables (changes_over (file_places restart.short image) changes) (store_at life frame).tables (store_at life frame).layouts) (sym same)
          (more restart.short restart.tables (store_at life frame) (places_at life frame) (changes_over (file_places restart.short image) (between life restart.redo frame))
          (front_held hold parts restart.short restart.tables next rows life frame is started to)
          (lie parts restart.short restart.tables next rows life restart.redo marks.applied marks.durable m.files image frame is reach.files reach.redo_from reach.redo_to reach.applied reach.start from to (images m image plain)));
      numbers = (reach.prefix frame from to).numbers;
    };
    shows = only parts (store_at life frame).tables (store_at life frame).layouts (store_at life frame).done (done_at restart life frame) (published machine (commits_at restart life frame - machine.before))
        (reach.prefix frame from to).done (publishes frame from to);
    commits_are = refl;
  },
)
  where
    can : CanRestart restart
    can = can_of (image (RestartFile 0)) (image (RestartFile 1)) restart picked

    met : (at : ℕ) × (marks.durable ≤ at) × (at ≤ end_of life) × (scan restart image ≡ map change_text (between life restart.first at))
    met = reach.log.each image plain

    frame : ℕ
    frame = met.0

    from : marks.durable ≤ frame
    from = met.1

    to : frame ≤ end_of life
    to = met.2

    at : life.first + (restart.first - life.first) ≡ restart.first
    at = omega (arith, reach.first)

    within : restart.first - life.first ≤ length life.changes
    within = omega (arith, reach.first, can.marks.first_to, reach.redo_to, reach.applied, from, to)

    started : life.start ≤ frame
    started = omega (arith, reach.start, from)

    scanned_to : restart.redo ≤ frame
    scanned_to = omega (arith, reach.redo_to, reach.applied, from)

    same : drop (restart.redo - restart.first) (between life restart.first frame) ≡ between life restart.redo frame
    same = later_between restart.first restart.redo frame life.first life.changes reach.first can.marks.first_to scanned_to
