-- What holds at each moment while a machine works on a store: whatever a crash then leaves has all that was acknowledged, and nothing
-- that the machine hasn't made.
use Rattle.std.specs.Prelude.{◌≡◌, ℕ, ◌+◌, ◌-◌, ◌≤◌, false, List, [], length, map, take}
use Rattle.px_apply.specs.Contents.{Contents}
use Rattle.px_change.specs.Text.{change_text}
use Rattle.px_change.specs.declared.change.Change.{Change}
use Rattle.px_life.specs.Front.{commits_at}
use Rattle.px_life.specs.Life.{IsLife, Life, end_of}
use Rattle.px_model.specs.Machine.{Machine, commits, published}
use Rattle.px_reached.specs.Reachable.{IsReachable, Marks, PublishesFronts}
use Rattle.px_reached.specs.Stands.{StandsFor}
use Rattle.px_restart.specs.declared.restart.Restart.{Restart}
use Rattle.px_restart.specs.Restart.{IsPicked}
use Rattle.px_scan.specs.Scan.{frames_of}
use Rattle.px_shown.specs.Parts.{Parts}
use Rattle.px_site.specs.Disk.{FileState, IsImage, at_rest}
use Rattle.px_site.specs.Names.{same_file}
use Rattle.px_site.specs.State.{Moment}
use Rattle.px_site.specs.declared.name.FileName.{FileName}
use Rattle.px_site.specs.declared.name.FileName.TheVariants.{Restart as RestartFile, Xlog}
use Rattle.px_standing.specs.Images.{IsPlainImage}
use Rattle.px_xlog.specs.Contents.{the_log}
use Rattle.px_xlog.specs.Written.{IsPlainLog}

-- ---- the files

-- both restart files are on the disk, and this restart is the one that counts
pub record IsValid (restart : Restart) (now : Moment) : Type 0 where
  pub first : List ℕ
  pub second : List ℕ
  pub first_rests : now.files (RestartFile 0) ≡ at_rest first
  pub second_rests : now.files (RestartFile 1) ≡ at_rest second
  pub picked : IsPicked first second restart

-- until there are segments: all frames are known and stand in the one segment that the restart names, and no other has a byte
pub record IsOneSegment (restart : Restart) (life : Life) (now : Moment) : Type 0 where
  pub known : life.first ≡ 0
  pub segment : restart.segment ≡ 1
  pub first : restart.first ≡ 0
  pub others : (segment : ℕ) → 2 ≤ segment → now.files (Xlog segment) ≡ at_rest []

-- whatever a crash leaves of the log's file is read as a front of these changes that has the durable ones
abbrev pub LeavesFronts : (durable : ℕ) → List Change → FileState → Type 0
LeavesFronts durable changes file =
    (image : List ℕ) → IsImage file image → IsPlainLog file image
    → (kept : ℕ) × (durable ≤ kept) × (kept ≤ length changes) × (frames_of image 0 ≡ map change_text (take kept changes))

-- every file but the log is as it was
abbrev pub HasOthersOf : (before now : Moment) → Type 0
HasOthersOf before now = (name : FileName) → same_file the_log name ≡ false → now.files name ≡ before.files name

-- ---- a moment

-- Of the life of the machine's store, all that can be reached from the restart is kept. Each front that a crash may leave has the rows that the
-- machine published by so many commits: no fewer than `least`, and no more than it has made.
pub record Lasts (parts : Parts) (least : ℕ) (m : Machine) (life : Life) (restart : Restart) (marks : Marks) (now : Moment) : Type 0 where
  pub is_life : IsLife parts restart.short restart.tables (m.base + 1) m.opening life
  pub segment : IsOneSegment restart life now
  pub valid : IsValid restart now
  pub reachable : IsReachable IsPlainImage restart.short restart life marks now
  pub publishes : PublishesFronts parts restart life marks m
  pub acknowledged : (frame : ℕ) → marks.durable ≤ frame → frame ≤ end_of life → least ≤ commits_at restart life frame
  pub made : (frame : ℕ) → marks.durable ≤ frame → frame ≤ end_of life → commits_at restart life frame ≤ commits m
  pub all_commits : commits_at restart life (end_of life) ≡ commits m

-- the files stand for what the machine published by a commit from `least` to `most`
pub record HasBetween (parts : Parts) (least most : ℕ) (m : Machine) (image : Contents) : Type 0 where
  pub count : ℕ
  pub no_less : least ≤ count
  pub no_more : count ≤ most
  pub stands : StandsFor parts image count (published m (count - m.before))
