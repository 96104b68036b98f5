-- The data logs as their owner sees them, and the parts that lie in them.
use Rattle.std.specs.Prelude.{◌≡◌, ◌≢◌, ℕ, ◌+◌, ◌<◌, ◌≤◌, ◌==◌, max, nat_lt, Bool, true, false, not, ◌&&◌, List, [], ◌∷◌, length, take, drop, ◌++◌, ◌^◌, Option, Some, None, Result, if◌then◌else◌}
use Rattle.std.specs.List.{AllByRecursion, filter}
use Rattle.px_site.specs.Disk.{FileState, touched}
use Rattle.px_site.specs.State.{Moment, State, Syncs}
use Rattle.px_site.specs.declared.error.SiteError.{SiteError}
use Rattle.px_site.specs.declared.name.FileName.{FileName}
use Rattle.px_site.specs.declared.name.FileName.TheVariants.{Dlog}
use Rattle.px_site.specs.Names.{kind, same_file}
use Rattle.px_dlog.specs.declared.part_ref.PartRef.{PartRef}
use Rattle.px_dlog.specs.declared.inventory.TheConstants.{LOG_SIZE}
use Rattle.px_dlog.specs.Part.{CanPart, PartAt, part_size, part_text}

pub record Logs : Type 0 where
  -- the length of each data log; 0 where there is none
  pub len : ℕ → ℕ
  -- the log that parts are appended to; each other one is closed
  pub current : Option ℕ
  -- it may have a part that isn't synced
  pub unsynced : Bool
  -- the number of the log that is begun next
  pub next : ℕ

-- ---- where the next part goes

-- the number of its log: the current one until it is full, and then the next one
abbrev pub log_for : Logs → Option ℕ → ℕ
log_for logs None = logs.next
log_for logs (Some n) = if nat_lt (logs.len n) LOG_SIZE then n else logs.next

abbrev pub part_log : Logs → ℕ
part_log logs = log_for logs logs.current

-- the number that the next part's log would have, where no log may have it
abbrev pub full_at : Logs → Option ℕ
full_at logs = if nat_lt (part_log logs) (2 ^ 32) then None else Some (part_log logs)

-- so many bytes more in this log, which parts are now appended to
pub record IsGrown (log size : ℕ) (before now : Logs) : Type 0 where
  pub len : (n : ℕ) → now.len n ≡ (if n == log then before.len log + size else before.len n)
  pub current : now.current ≡ Some log
  pub unsynced : now.unsynced ≡ true
  pub next : now.next ≡ max before.next (log + 1)

-- the log that may have a part which isn't synced
abbrev pub to_sync_in : Option ℕ → Bool → Option ℕ
to_sync_in None unsynced = None
to_sync_in (Some n) unsynced = if unsynced then Some n else None

abbrev pub to_sync : Logs → Option ℕ
to_sync logs = to_sync_in logs.current logs.unsynced

-- that log, where the next part begins another one
abbrev pub to_close : Logs → (place : ℕ) → Option ℕ
to_close logs place = if place == 0 then to_sync logs else None

-- the next part goes to this place of this log
pub record IsEnd (logs : Logs) (log place : ℕ) : Type 0 where
  pub from_one : 1 ≤ log
  pub place_is : place ≡ logs.len log
  pub fresh : place ≡ 0 → log ≡ logs.next
  pub current : 1 ≤ place → logs.current ≡ Some log

-- each part is synced
abbrev pub all_synced : Logs → Logs
all_synced logs = record logs { unsynced = false }

-- the log that is synced before the next part is written, where that begins another one
abbrev pub full_log : Logs → Option ℕ
full_log logs = to_close logs (logs.len (part_log logs))

-- this log is gone
pub record IsWithout (log : ℕ) (before now : Logs) : Type 0 where
  pub len : (n : ℕ) → now.len n ≡ (if n == log then 0 else before.len n)
  pub current : now.current ≡ before.current
  pub unsynced : now.unsynced ≡ before.unsynced
  pub next : now.next ≡ before.next

-- ---- which logs there are

-- there is such a log, and it takes no part any more
pub record IsClosed (logs : Logs) (log : ℕ) : Type 0 where
  pub there : 1 ≤ logs.len log
  pub other : logs.current ≢ Some log

abbrev pub is_current : Option ℕ → ℕ → Bool
is_current None log = false
is_current (Some n) log = log == n

-- the bytes of a log, and whether it is closed; None where there is no such log
abbrev pub extent_of : Logs → ℕ → Option (ℕ × Bool)
extent_of logs log = if logs.len log == 0 then None else Some (logs.len log, not (is_current logs.current log))

-- ---- parts in them

-- a part that was appended: its reference and its bytes
pub record Stored : Type 0 where
  pub part : PartRef
  pub bytes : List ℕ

abbrev pub with_part : PartRef → List ℕ → List Stored → List Stored
with_part part bytes parts = record { part = part; bytes = bytes } ∷ parts

-- where it ends in its log
abbrev pub end_of : PartRef → ℕ
end_of part = part.place + part_size part.length

-- its bytes may be those of a part with this reference
pub record IsPart (stored : Stored) : Type 0 where
  pub can : CanPart stored.part.table stored.part.slot stored.bytes
  pub length_is : length stored.bytes ≡ stored.part.length

-- it lies in this content at its place
pub record LiesIn (content : List ℕ) (stored : Stored) : Type 0 where
  pub is_part : IsPart stored
  pub there : take (part_size stored.part.length) (drop stored.part.place content) ≡ part_text stored.part.table stored.part.slot stored.bytes

-- the file has it on the disk, and nothing touches it
pub record RestsIn (file : FileState) (stored : Stored) : Type 0 where
  pub synced : LiesIn file.synced stored
  pub untouched : (at : ℕ) → stored.part.place ≤ at → at < end_of stored.part → touched file.pending at ≡ false

abbrev pub log_of : Stored → FileName
log_of stored = Dlog stored.part.log

-- whatever a crash leaves of this moment has it
abbrev pub Rests : Moment → Stored → Type 0
Rests m stored = RestsIn (m.files (log_of stored)) stored

-- this log may have a part that doesn't rest
abbrev pub is_unsynced_in : Option ℕ → Bool → ℕ → Bool
is_unsynced_in None unsynced log = false
is_unsynced_in (Some n) unsynced log = unsynced && (n == log)

abbrev pub is_unsynced : Logs → ℕ → Bool
is_unsynced logs log = is_unsynced_in logs.current logs.unsynced log

-- The logs have these parts: each log has its length, each part lies at its place, and each one rests but for those of the
-- current log, where it may have one that isn't synced. Other bytes may lie between the parts.
pub record IsDlogOf (logs : Logs) (parts : List Stored) (s : State) : Type 0 where
  pub lengths : (n : ℕ) → 1 ≤ n → length (s.content (Dlog n)) ≡ logs.len n
  pub lie : AllByRecursion (λ stored. LiesIn (s.content (log_of stored)) stored) parts
  pub rest : AllByRecursion (λ stored. is_unsynced logs stored.part.log ≡ false → Rests s.now stored) parts

-- ---- what calls leave

-- only data logs changed since this moment, and whatever part rested then rests yet
pub record KeepsParts (before m : Moment) : Type 0 where
  pub rest : (stored : Stored) → Rests before stored → Rests m stored
  pub others : (name : FileName) → kind name ≢ 2 → m.files name ≡ before.files name
  pub told : m.told ≡ before.told
  pub telling : m.telling ≡ []

-- the least number past this one and past each log that there is
pub record IsPast (named : ℕ) (logs : Logs) : Type 0 where
  pub named_below : named < logs.next
  pub logs_below : (n : ℕ) → logs.next ≤ n → logs.len n ≡ 0
  pub least : (n : ℕ) → named < n → ((m : ℕ) → n ≤ m → logs.len m ≡ 0) → logs.next ≤ n

-- the next log past a number
pub record IsLogPast (after : ℕ) (logs : Logs) (n : ℕ) : Type 0 where
  pub past : after < n
  pub there : 1 ≤ logs.len n
  pub least : (m : ℕ) → after < m → m < n → logs.len m ≡ 0

-- there is none
abbrev pub HasNonePast : ℕ → Logs → Type 0
HasNonePast after logs = (n : ℕ) → after < n → logs.len n ≡ 0

-- the parts that lie in other logs
abbrev pub outside : ℕ → List Stored → List Stored
outside log parts = filter (λ stored. not (stored.part.log == log)) parts

-- only this log changed since this moment, and whatever part of another one rested then rests yet
pub record KeepsOutside (log : ℕ) (before m : Moment) : Type 0 where
  pub rest : (stored : Stored) → stored.part.log ≢ log → Rests before stored → Rests m stored
  pub others : (name : FileName) → same_file (Dlog log) name ≡ false → m.files name ≡ before.files name
  pub told : m.told ≡ before.told
  pub telling : m.telling ≡ []

-- the bytes that a part has in this content were put behind others
pub record Reads (part : PartRef) (content before after : List ℕ) : Type 0 where
  pub bytes : List ℕ
  pub checks : PartAt (drop part.place content) part.table part.slot bytes
  pub length_is : length bytes ≡ part.length
  pub behind : after ≡ before ++ bytes

-- the file of this log was synced; where there is none, nothing was done
abbrev pub SyncsLog : {T : Type 0} → Option ℕ → State → State → Result T SiteError → Type 0
SyncsLog None before now result = now ≡ before
SyncsLog (Some log) before now result = Syncs (Dlog log) before now result
