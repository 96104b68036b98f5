-- Nothing that can be reached is freed: three parts, each kept by itself.
use Rattle.std.specs.Prelude.{◌≡◌, ℕ, ◌-◌, ◌<◌, ◌≤◌, [], map}
use Rattle.px_site.specs.State.{Moment}
use Rattle.px_site.specs.declared.name.FileName.TheVariants.{Xlog}
use Rattle.px_apply.specs.Contents.{Contents}
use Rattle.px_change.specs.Text.{change_text}
use Rattle.px_model.specs.Machine.{Machine, published}
use Rattle.px_restart.specs.declared.restart.Restart.{Restart}
use Rattle.px_shown.specs.Parts.{Parts}
use Rattle.px_shown.specs.Shown.{Shows}
use Rattle.px_life.specs.Front.{KnowsDone, commits_at}
use Rattle.px_life.specs.Life.{Life, between, end_of, store_at}
use Rattle.px_filed.specs.Filed.{KeepsFiles}
use Rattle.px_reached.specs.Scanned.{last_scanned, scan}

-- ---- marks

-- frames below `durable` are on the disk, those below `applied` in the table files
pub record Marks : Type 0 where
  pub durable : ℕ
  pub applied : ℕ

-- ---- the parts, for a restart

-- Log: whatever a crash leaves is scanned up to a frame that has the durable ones before it, and is what was appended.
pub record KeepsLog (IsPlain : Moment → Contents → Type 0) (restart : Restart) (life : Life) (marks : Marks) (m : Moment) : Type 0 where
  pub each : (image : Contents) → IsPlain m image
      → (frame : ℕ) × (marks.durable ≤ frame) × (frame ≤ end_of life) × (scan restart image ≡ map change_text (between life restart.first frame))
  pub behind : (image : Contents) → IsPlain m image → (segment : ℕ) → last_scanned restart image < segment → image (Xlog segment) ≡ []

-- Prefix: in each front that a crash may leave, the restart takes as done just who is done there.
abbrev pub KeepsPrefix : Restart → Life → Marks → Type 0
KeepsPrefix restart life marks = (frame : ℕ) → marks.durable ≤ frame → frame ≤ end_of life → KnowsDone restart life frame

-- the machine's rows are those of each front, and so many are its commits
abbrev pub PublishesFronts : Parts → Restart → Life → Marks → Machine → Type 0
PublishesFronts parts restart life marks machine =
    (frame : ℕ) → marks.durable ≤ frame → frame ≤ end_of life
    → let store = store_at life frame in
    Shows parts store.tables store.layouts store.done (published machine (commits_at restart life frame - machine.before))

pub record IsReachable (IsPlain : Moment → Contents → Type 0) (short : ℕ) (restart : Restart) (life : Life) (marks : Marks) (m : Moment) : Type 0 where
  pub first : life.first ≤ restart.first
  pub redo_from : life.redo ≤ restart.redo
  pub redo_to : restart.redo ≤ marks.applied
  pub applied : marks.applied ≤ marks.durable
  pub durable : restart.durable ≤ marks.durable
  pub start : life.start ≤ marks.durable
  pub end : marks.durable ≤ end_of life
  pub log : KeepsLog IsPlain restart life marks m
  -- Files: each cell of the store at `redo` rests in its file, unless a frame from there on has it
  pub files : KeepsFiles short life restart.redo marks.applied m.files
  pub prefix : KeepsPrefix restart life marks
