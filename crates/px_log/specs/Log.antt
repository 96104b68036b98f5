-- The log as its owner keeps it, and its file at every moment.
use Rattle.std.specs.Prelude.{◌≡◌, ◌⊎◌, ℕ, ◌+◌, ◌≤◌, nat_lt, List, [], ◌∷◌, length, map, take, drop, Option, Some, None, if◌then◌else◌}
use Rattle.std.specs.List.{AllByRecursion}
use Rattle.px_site.specs.Disk.{Change as DiskChange, Wrote, Cut, FileState, IsImage, pending_more, at_rest}
use Rattle.px_site.specs.State.{State}
use Rattle.px_change.specs.declared.change.Change.{Change}
use Rattle.px_change.specs.Text.{change_text}
use Rattle.px_frame.specs.Frame.{frame}
use Rattle.px_scan.specs.Scan.{frames_of}
use Rattle.px_log.specs.declared.place.TheConstants.{MOST_FRAMES}
use Rattle.px_log.specs.Contents.{log_text}
use Rattle.px_log.specs.MayStand.{MayStand}
use Rattle.px_xlog.specs.Contents.{the_log}
use Rattle.px_xlog.specs.Written.{IsPlainLog, IsBehind}

pub record Log : Type 0 where
  -- the store's: which changes a frame may hold
  pub tables : ℕ
  pub short : ℕ
  -- the number of the next frame; those below `durable` are synced
  pub frames : ℕ
  pub durable : ℕ
  -- where the next frame stands
  pub size : ℕ

-- until there are segments
abbrev pub most_frames : ℕ
most_frames = MOST_FRAMES

abbrev pub full_at : Log → Option ℕ
full_at log = if nat_lt log.frames most_frames then None else Some log.frames

-- the log with one frame more
abbrev pub with_frame : Change → Log → Log
with_frame change log = record log { frames = log.frames + 1; size = log.size + length (frame log.frames (change_text change)) }

-- one write for each frame, each at the end of the one before, the newest first
abbrev pub appended : List DiskChange → ℕ → ℕ → List (List ℕ) → List DiskChange
appended earlier place number [] = earlier
appended earlier place number (payload ∷ payloads) =
    appended (Wrote place (frame number payload) ∷ earlier) (place + length (frame number payload)) (number + 1) payloads

-- frames of these changes, of which the first `durable` are synced and the others appended since
abbrev pub grown_file : ℕ → List Change → FileState
grown_file durable changes = record {
  synced = log_text (take durable changes);
  pending = appended [] (length (log_text (take durable changes))) durable (map change_text (drop durable changes));
}

-- the log has just these changes
pub record IsLogOf (log : Log) (changes : List Change) (s : State) : Type 0 where
  pub held : MayStand log.tables 0 log.short changes
  pub count : log.frames ≡ length changes
  pub durable : log.durable ≤ length changes
  pub size : log.size ≡ length (log_text changes)
  pub content : s.content the_log ≡ log_text changes
  pub file : s.now.files the_log ≡ grown_file log.durable changes

-- whatever a crash leaves of the log's file has the first of these changes, and the durable ones are among them
pub record HasFirst (durable : ℕ) (changes : List Change) (file : FileState) : Type 0 where
  pub each : (image : List ℕ) → IsImage file image → IsPlainLog file image
      → (kept : ℕ) × (durable ≤ kept) × (kept ≤ length changes) × (frames_of image 0 ≡ map change_text (take kept changes))

-- whatever a crash leaves of the file is read as these payloads
pub record ReadsAs (payloads : List (List ℕ)) (file : FileState) : Type 0 where
  pub each : (image : List ℕ) → IsImage file image → IsPlainLog file image → frames_of image 0 ≡ payloads

-- whatever a crash leaves of the file is read as something that a crash before could have left
pub record ReadsAsBefore (before file : FileState) : Type 0 where
  pub each : (image : List ℕ) → IsImage file image → IsPlainLog file image
      → (other : List ℕ) × IsImage before other × IsPlainLog before other × (frames_of image 0 ≡ frames_of other 0)

-- the file's last cut isn't synced, or it is
pub record IsCutting (len : ℕ) (before : FileState) (content : List ℕ) (file : FileState) : Type 0 where
  pub which : (file ≡ pending_more (Cut len) before) ⊎ (file ≡ at_rest (take len content))

-- the log only grew since its last sync, and what is read of it is what a crash could leave
pub record OnlyGrew (file : FileState) (content : List ℕ) : Type 0 where
  pub behind : AllByRecursion (IsBehind file.synced) file.pending
  pub plain : IsPlainLog file content
