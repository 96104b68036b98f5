-- Who is done in a front of the frames, and how many commits it has, as a restart that is scanned up to there has both.
use Rattle.std.specs.Prelude.{◌≡◌, ℕ, ◌≤◌, ◌==◌, max, List, [], ◌∷◌, All, if◌then◌else◌}
use Rattle.px_cells.specs.declared.slot.Slot.{Slot}
use Rattle.px_change.specs.declared.change.Change.{Change}
use Rattle.px_chain.specs.Sound.{IsUsedRow}
use Rattle.px_history.specs.Fitting.{IsStoredNumber}
use Rattle.px_history.specs.Steps.{Step}
use Rattle.px_history.specs.Store.{versions_of}
use Rattle.px_restart.specs.declared.restart.Restart.{Restart}
use Rattle.px_shown.specs.Shown.{Done}
use Rattle.px_shown.specs.Tables.{Layouts, Tables, slots_of_row}
use Rattle.px_tidy.specs.Numbers.{done_of}
use Rattle.px_life.specs.Life.{Life, between, committed_by, store_at}

-- ---- by the changes that were scanned

-- the last Commit's number, or this one where there is none
abbrev pub last_number : (last : ℕ) → List Change → ℕ
last_number last [] = last
last_number last (change ∷ changes) = last_number (if change.commit == 0 then last else change.commit) changes

-- how many commits a restart and the changes that were scanned from it stand for
abbrev pub commits_by : Restart → List Change → ℕ
commits_by restart changes = max restart.commits (last_number 0 changes)

-- done is who is below the low mark, and whose Commit was read
abbrev pub done_by : Restart → List Change → Done
done_by restart changes = done_of (record { low = restart.low; added = committed_by changes })

-- ---- in a front

-- where the scan ends at this frame
abbrev pub commits_at : Restart → Life → (frame : ℕ) → ℕ
commits_at restart life frame = commits_by restart (between life restart.first frame)

abbrev pub done_at : Restart → Life → (frame : ℕ) → Done
done_at restart life frame = done_by restart (between life restart.first frame)

abbrev pub HasStoredNumber : Slot → Type 0
HasStoredNumber slot = IsStoredNumber slot.xn

-- and so has each slot in the chains
abbrev pub AreStored : Tables → Layouts → Type 0
AreStored tables layouts = (t row : ℕ) → IsUsedRow (tables t) row → All HasStoredNumber (slots_of_row (tables t) (layouts t) row)

-- the restart takes as done just who is done, among those that have versions there
pub record KnowsDone (restart : Restart) (life : Life) (frame : ℕ) : Type 0 where
  pub done : (t row : ℕ) → IsUsedRow ((store_at life frame).tables t) row
      → All (λ slot. (store_at life frame).done slot.xn ≡ done_at restart life frame slot.xn) (versions_of (store_at life frame) t row)
  pub numbers : AreStored (store_at life frame).tables (store_at life frame).layouts

-- ---- a step more

-- Who puts a version has no number below the low mark: such a number counts as done without a Commit.
abbrev pub IsFrom : (low : ℕ) → Step → Type 0
IsFrom low (Step.put t header slot) = low ≤ slot.xn
IsFrom low (Step.commit xn number) = Unit {0}
IsFrom low (Step.rollback xn) = Unit {0}
IsFrom low (Step.unlink t row from count) = Unit {0}
IsFrom low (Step.move t number log place) = Unit {0}
