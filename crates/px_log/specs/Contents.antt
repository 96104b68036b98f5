-- What the bytes of the log are: the frames of its changes, and where they are damaged.
use Rattle.std.specs.Prelude.{◌≡◌, ◌≢◌, ◌⊎◌, ℕ, ◌<◌, ◌≤◌, true, List, ◌∷◌, ◌++◌, length, map}
use Rattle.px_change.specs.declared.change.Change.{Change}
use Rattle.px_change.specs.Grammar.{may_hold}
use Rattle.px_change.specs.Text.{change_text}
use Rattle.px_restart.specs.declared.restart.Restart.{Restart}
use Rattle.px_scan.specs.Scan.{frames, frames_of}
use Rattle.px_log.specs.MayStand.{MayStand}

-- the bytes of frames of these changes
unfoldable pub log_text : List Change → List ℕ
log_text changes = frames 0 (map change_text changes)

-- the log's frames are these changes, each in a frame that may hold it, and no durable one is missing
pub record Scans (restart : Restart) (bytes : List ℕ) (changes : List Change) : Type 0 where
  pub scanned : frames_of bytes 0 ≡ map change_text changes
  pub held : MayStand restart.tables 0 restart.short changes
  pub reached : restart.durable ≤ length changes

-- ---- where the log is damaged

-- a frame that checks behind these changes holds none
pub record HoldsNone (restart : Restart) (bytes : List ℕ) (place : ℕ) : Type 0 where
  pub before : List Change
  pub payload : List ℕ
  pub others : List (List ℕ)
  pub scanned : frames_of bytes 0 ≡ map change_text before ++ payload ∷ others
  pub held : MayStand restart.tables 0 restart.short before
  pub none : (change : Change) → may_hold restart.tables (length before) restart.short change ≡ true → payload ≢ change_text change
  pub at : place ≡ length (log_text before)

-- all frames hold changes, and they end before those that were durable
pub record StopsShort (restart : Restart) (bytes : List ℕ) (place : ℕ) : Type 0 where
  pub before : List Change
  pub scanned : frames_of bytes 0 ≡ map change_text before
  pub held : MayStand restart.tables 0 restart.short before
  pub below : length before < restart.durable
  pub at : place ≡ length (log_text before)

abbrev pub IsDamage : Restart → List ℕ → ℕ → Type 0
IsDamage restart bytes place = HoldsNone restart bytes place ⊎ StopsShort restart bytes place
