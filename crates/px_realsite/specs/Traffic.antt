-- What a site has asked of the system, and how the counts of it go on.
use Rattle.std.specs.Prelude.{◌≡◌, ℕ, ◌+◌, ◌-◌, ◌^◌, ◌<◌, ◌≤◌, ◌==◌, ◌⊎◌, min, cond, Bool, true, false, Result, Ok, Err, is_ok, Option, Some, None}
use Rattle.px_site.specs.Cause.{one_more, Rose}
use Rattle.px_site.specs.declared.name.FileName.{FileName}
use Rattle.px_realsite.specs.declared.system.traffic.Syncs.{Syncs}
use Rattle.px_realsite.specs.declared.system.traffic.Traffic.{Traffic}

-- each count is a u64
pub record IsCounted (traffic : Traffic) : Type 0 where
  pub calls : traffic.calls < 2 ^ 64
  pub absent : traffic.absent < 2 ^ 64
  pub ends : traffic.ends < 2 ^ 64
  pub read : traffic.bytes_read < 2 ^ 64
  pub written : traffic.bytes_written < 2 ^ 64
  pub told : traffic.bytes_told < 2 ^ 64
  pub files : traffic.syncs.files < 2 ^ 64

-- before the first call: nothing is known to be durable
abbrev pub no_traffic : Traffic
no_traffic = record {
  calls = 0;
  absent = 0;
  ends = 0;
  bytes_read = 0;
  bytes_written = 0;
  bytes_told = 0;
  is_held = false;
  syncs = record { files = 0; last = None; are_names_durable = false; is_folder_durable = false; has_failed = false };
}

-- a count after so many more; at the greatest u64 it stands still
abbrev pub more_by : ℕ → ℕ → ℕ
more_by n count = min (count + n) (2 ^ 64 - 1)

-- something was asked of the system in between
abbrev pub Asked : Traffic → Traffic → Type 0
Asked before now = Rose before.calls now.calls

-- in between the system said that the file that was asked for isn't there, or the folder
pub record FoundNone (before now : Traffic) : Type 0 where
  pub asked : Asked before now
  pub absent : Rose before.absent now.absent

-- the folder is locked, or in between the system said that it isn't there
abbrev pub IsLocked : Traffic → Traffic → Type 0
IsLocked before now = (now.is_held ≡ true) ⊎ FoundNone before now

-- a read that gave n bytes has all that there was room for, or was told that the file ends there, or that it isn't there
abbrev pub IsWhole : ℕ → ℕ → Traffic → Traffic → Type 0
IsWhole n room before now = (n ≡ room) ⊎ Rose before.ends now.ends ⊎ FoundNone before now

-- so many bytes went over in between
abbrev pub Moved : ℕ → ℕ → ℕ → Type 0
Moved before now n = now ≡ more_by n before

-- no count fell in between, the lock that was held is held, and a sync that failed isn't forgotten
pub record GoesOn (before now : Traffic) : Type 0 where
  pub calls : before.calls ≤ now.calls
  pub absent : before.absent ≤ now.absent
  pub ends : before.ends ≤ now.ends
  pub files : before.syncs.files ≤ now.syncs.files
  pub held : before.is_held ≡ true → now.is_held ≡ true
  pub failed : before.syncs.has_failed ≡ true → now.syncs.has_failed ≡ true

-- no byte went over in between
pub record NoBytes (before now : Traffic) : Type 0 where
  pub goes_on : GoesOn before now
  pub read : now.bytes_read ≡ before.bytes_read
  pub written : now.bytes_written ≡ before.bytes_written
  pub told : now.bytes_told ≡ before.bytes_told

-- bytes were read at most
pub record OnlyReads (before now : Traffic) : Type 0 where
  pub goes_on : GoesOn before now
  pub read : before.bytes_read ≤ now.bytes_read
  pub written : now.bytes_written ≡ before.bytes_written
  pub told : now.bytes_told ≡ before.bytes_told

-- bytes were written at most
pub record OnlyWrites (before now : Traffic) : Type 0 where
  pub goes_on : GoesOn before now
  pub read : now.bytes_read ≡ before.bytes_read
  pub written : before.bytes_written ≤ now.bytes_written
  pub told : now.bytes_told ≡ before.bytes_told

-- bytes were told at most
pub record OnlyTells (before now : Traffic) : Type 0 where
  pub goes_on : GoesOn before now
  pub read : now.bytes_read ≡ before.bytes_read
  pub written : now.bytes_written ≡ before.bytes_written
  pub told : before.bytes_told ≤ now.bytes_told

-- a sync of this file was asked in between and answered as done, and it was the last of a file
pub record SyncedFile (file : FileName) (before now : Traffic) : Type 0 where
  pub rose : Rose before.syncs.files now.syncs.files
  pub last : now.syncs.last ≡ Some file

-- a file is durable: a sync of it was asked in between and answered as done, or it isn't there; where the folder is there, one of the
-- names in it and one of its own since these last changed; and none ever failed
pub record IsDurable (file : FileName) (before now : Traffic) : Type 0 where
  pub content : SyncedFile file before now ⊎ FoundNone before now
  pub names : now.is_held ≡ true → now.syncs.are_names_durable ≡ true
  pub folder : now.is_held ≡ true → now.syncs.is_folder_durable ≡ true
  pub none_failed : now.syncs.has_failed ≡ false

-- after one call more
abbrev pub asked : Traffic → Traffic
asked traffic = record traffic { calls = one_more traffic.calls }

-- where what was asked for isn't there
abbrev pub absent : Traffic → Traffic
absent traffic = record traffic { absent = one_more traffic.absent }

-- where the lock was given
abbrev pub held : Traffic → Traffic
held traffic = record traffic { is_held = true }

-- where a read gave so many bytes: none says that the file ends there
abbrev pub given : ℕ → Traffic → Traffic
given n traffic = record traffic { bytes_read = more_by n traffic.bytes_read; ends = cond (n == 0) (one_more traffic.ends) traffic.ends }

-- after a call that was to open something and answered this
abbrev pub asked_for : {T E : Type 0} → Result (Option T) E → Traffic → Traffic
asked_for (Ok None) traffic = absent (asked traffic)
asked_for (Ok (Some _)) traffic = asked traffic
asked_for (Err _) traffic = asked traffic

-- after one that was to read
abbrev pub asked_to_read : {E : Type 0} → Result ℕ E → Traffic → Traffic
asked_to_read (Ok n) traffic = given n (asked traffic)
asked_to_read (Err _) traffic = asked traffic

-- after one that was to write
abbrev pub asked_to_write : {E : Type 0} → Result ℕ E → Traffic → Traffic
asked_to_write (Ok n) traffic = record (asked traffic) { bytes_written = more_by n traffic.bytes_written }
asked_to_write (Err _) traffic = asked traffic

-- after one that was to tell
abbrev pub asked_to_tell : {E : Type 0} → Result ℕ E → Traffic → Traffic
asked_to_tell (Ok n) traffic = record (asked traffic) { bytes_told = more_by n traffic.bytes_told }
asked_to_tell (Err _) traffic = asked traffic

-- after one that made or removed a name, whatever it answered
abbrev pub asked_to_name : Traffic → Traffic
asked_to_name traffic = record (asked traffic) { syncs = record traffic.syncs { are_names_durable = false } }

-- after one that was to make the folder
abbrev pub asked_for_folder : Traffic → Traffic
asked_for_folder traffic = record (asked traffic) { syncs = record traffic.syncs { is_folder_durable = false } }

-- what is known of syncs after one that was answered as done, or as failed: one of a file, of the names in the folder, and of those in
-- the folder above
abbrev pub synced_file : FileName → Bool → Syncs → Syncs
synced_file file true syncs = record syncs { files = one_more syncs.files; last = Some file }
synced_file file false syncs = record syncs { has_failed = true }

abbrev pub synced_names : Bool → Syncs → Syncs
synced_names true syncs = record syncs { are_names_durable = true }
synced_names false syncs = record syncs { has_failed = true }

abbrev pub synced_folder : Bool → Syncs → Syncs
synced_folder true syncs = record syncs { is_folder_durable = true }
synced_folder false syncs = record syncs { has_failed = true }

-- after a call that was to sync this file, the names in the folder, or those in the folder above
abbrev pub asked_to_sync : {T E : Type 0} → FileName → Result T E → Traffic → Traffic
asked_to_sync file result traffic = record (asked traffic) { syncs = synced_file file (is_ok result) traffic.syncs }

abbrev pub asked_to_sync_names : {T E : Type 0} → Result T E → Traffic → Traffic
asked_to_sync_names result traffic = record (asked traffic) { syncs = synced_names (is_ok result) traffic.syncs }

abbrev pub asked_to_sync_above : {T E : Type 0} → Result T E → Traffic → Traffic
asked_to_sync_above result traffic = record (asked traffic) { syncs = synced_folder (is_ok result) traffic.syncs }
