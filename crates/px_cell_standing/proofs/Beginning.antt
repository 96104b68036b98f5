-- What is read of a settled site begins a life there, and what stands at each moment of the opening.
use Rattle.std.proofs.Common.{◌≡◌, ℕ, zero, suc, ◌+◌, ◌-◌, List, [], ◌∷◌, length, take, refl, ap, subst, ◌∙◌, arith, length-append}
use Rattle.px_beginning.specs.Found as beginning
use Rattle.px_beginning.specs.Found.{HasNoCells, Reading, life_of}
use Rattle.px_beginning.specs.Tidied.{tidied, with_steps}
use Rattle.px_filed.specs.Filed.{KeepsFiles}
use Rattle.px_history.specs.Steps.{Step, after_steps}
use Rattle.px_history.specs.Store.{Store}
use Rattle.px_history.specs.Written.{change_of}
use Rattle.px_life.specs.Life.{Life, end_of}
use Rattle.px_logged.specs.Recounting.{rows_now}
use Rattle.px_model.specs.Machine.{Machine, commits, fresh, published}
use Rattle.px_model.specs.declared.row.Row.{Row}
use Rattle.px_reached.specs.Reachable.{Marks}
use Rattle.px_restart.specs.declared.restart.Restart.{Restart}
use Rattle.px_shown.specs.Parts.{no_parts}
use Rattle.px_site.specs.Disk.{at_rest}
use Rattle.px_site.specs.State.{Moment, State}
use Rattle.px_standing.specs.Images.{IsPlainImage}
use Rattle.px_standing.specs.Files.{Files}
use Rattle.px_standing.specs.Resting.{ReadsImages}
use Rattle.px_tidy.specs.Steps.{tidying_tables}
use Rattle.px_working.specs.Follows.{last_store, with_step}
use Rattle.px_working.specs.Lasts.{IsValid, Lasts}
use Rattle.px_xlog.specs.Contents.{the_log}
use Rattle.px_cell_standing.specs.Found.{Found, IsReadIn, found_in, machine_of, store_of}
use Rattle.px_cell_standing.specs.Images.{ImagesStandFor, StandsBetween}
use Rattle.px_cell_standing.specs.Settled.{Settled}
use Rattle.px_cell_standing.specs.Standing.{StandsFor}
use Rattle.px_cell_standing.proofs.Lasting.{CrashLeaves}
use Rattle.px_cell_standing.proofs.Resting.{image_is_one}

-- ---- what is used of the laws below

abbrev pub NoCellsRest : Type 0
NoCellsRest = (read : Reading) (s : State) → HasNoCells s
    → KeepsFiles read.restart.short (life_of read s.content) read.restart.redo read.restart.redo s.now.files

-- ---- what begins

-- what reads as no byte there has none on the disk
pub settled_empty : (s : State) (commits : ℕ) (rows : List Row) → Settled s commits rows → HasNoCells s
settled_empty s commits rows settled what table =
    (settled.alone.tables what table, (image_is_one s.now s.content settled.alone settled.plain).cells what table)

pub read_begins : NoCellsRest → (s : State) (commits : ℕ) (rows : List Row) (read : Reading) → Settled s commits rows → IsReadIn s.content read
    → IsValid read.restart s.now → s.now.files the_log ≡ at_rest (s.content the_log) → ReadsImages s → beginning.IsFound no_parts read s
read_begins rest s commits rows read settled reads valid log images =
    let at = settled.alone.begins s.content settled.plain read.restart reads.finds.picked in
    record {
      finds = reads.finds;
      shows = reads.shows;
      number = reads.number.unnamed;
      valid = valid;
      segment = record { known = at.first; segment = at.segment; first = at.first; others = settled.alone.segments };
      log = log;
      files = rest read s (settled_empty s commits rows settled);
      images = images;
    }

-- ---- the frames of the tidying

-- each step has a frame
steps_end : (short : ℕ) (life : Life) (steps : List Step) → end_of (with_steps short life steps) ≡ end_of life + length steps
steps_end short life [] = omega arith
steps_end short life (step ∷ steps) =
    let change = change_of short (last_store life) step in
    let rest = steps_end short (with_step short life step) steps in
    omega (arith, rest, length-append life.changes (change ∷ []))

take_none : {X : Type 0} (n : ℕ) → take {A = X} n [] ≡ []
take_none zero = refl
take_none (suc n) = refl

-- no step was made yet
pub found_store : (read : Reading) (files : Files) → last_store (life_of read files) ≡ store_of read
found_store read files = ap (after_steps (store_of read)) (take_none {X = Step} (end_of (life_of read files) - (life_of read files).start))

pub tidied_end : (read : Reading) (files : Files) → end_of (tidied read.restart (life_of read files)) ≡ (found_in read).frames
tidied_end read files =
    steps_end read.restart.short (life_of read files) (tidying_tables (last_store (life_of read files)) read.restart.tables)
    ∙ ap (λ (store : Store). read.restart.first + length read.changes + length (tidying_tables store read.restart.tables)) (found_store read files)

-- ---- what stands meanwhile

pub between_stands : CrashLeaves → (least : ℕ) (m : Machine) (life : Life) (restart : Restart) (marks : Marks) (before now : Moment)
    → Lasts no_parts least m life restart marks now → now.told ≡ before.told → now.telling ≡ [] → StandsBetween least (commits m) m before now
between_stands leaves least m life restart marks before now lasts told telling = record {
  each = λ image plain. leaves no_parts least m life restart marks now image lasts plain;
  told = told;
  telling = telling;
}

pub all_stands : CrashLeaves → (m : Machine) (life : Life) (restart : Restart) (marks : Marks) (now : Moment) → Lasts no_parts (commits m) m life restart marks now
    → ImagesStandFor (commits m) (rows_now m) now
all_stands leaves m life restart marks now lasts = record { each = stands }
  where
    stands : (image : Files) → IsPlainImage now image → StandsFor image (commits m) (rows_now m)
    stands image plain =
        let has = leaves no_parts (commits m) m life restart marks now image lasts plain in
        let count : has.count ≡ commits m = omega (arith, has.no_less, has.no_more) in
        subst (λ (n : ℕ). StandsFor image n (published m (n - m.before))) count has.stands

fresh_published : (tables short : ℕ) (rows : List Row) (before base count : ℕ) → published (fresh tables short rows before base) count ≡ rows
unfolding fresh published
fresh_published tables short rows before base zero = refl
fresh_published tables short rows before base (suc count) = refl

fresh_commits : (tables short : ℕ) (rows : List Row) (before base : ℕ) → commits (fresh tables short rows before base) ≡ before
unfolding fresh commits
fresh_commits tables short rows before base = omega arith

pub opening_stands : CrashLeaves → (found : Found) (life : Life) (restart : Restart) (marks : Marks) (now : Moment)
    → Lasts no_parts found.commits (machine_of found) life restart marks now → ImagesStandFor found.commits found.rows now
opening_stands leaves found life restart marks now lasts = record { each = stands }
  where
    stands : (image : Files) → IsPlainImage now image → StandsFor image found.commits found.rows
    stands image plain =
        let m = machine_of found in
        let has = leaves no_parts found.commits m life restart marks now image lasts plain in
        let all = fresh_commits found.tables found.short found.rows found.commits found.base in
        let count : has.count ≡ found.commits = omega (arith, has.no_less, has.no_more, all) in
        subst (λ (n : ℕ). StandsFor image n found.rows) count
        (subst (λ (rows : List Row). StandsFor image has.count rows)
        (fresh_published found.tables found.short found.rows found.commits found.base (has.count - m.before)) has.stands)
