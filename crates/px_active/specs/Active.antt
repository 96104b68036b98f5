-- What the sessions have, and the machine whose it is.
use Rattle.std.specs.Prelude.{◌≡◌, ◌≢◌, ◌⊎◌, ℕ, ◌+◌, ◌==◌, ◌&&◌, ◌-◌, Bool, true, false, All, List, [], length, Option, Some, None, is_none, is_some, if◌then◌else◌, slice_get}
use Rattle.std.specs.List.{list_any}
use Rattle.px_active.specs.declared.active.Active.{Active}
use Rattle.px_active.specs.declared.active.writing.NewWrite.{NewWrite}
use Rattle.px_answers.specs.Keeping.{KeepsTickets}
use Rattle.px_calls.specs.declared.call.Call.{Call}
use Rattle.px_calls.specs.declared.call.Call.TheVariants.{Commit, Fetch, Find, Get, Rollback, Scan}
use Rattle.px_calls.specs.declared.reply.Reply.{Reply}
use Rattle.px_calls.specs.declared.reply.Reply.TheVariants.{Committed, EndedEmpty, RolledBack}
use Rattle.px_calls.specs.Steps.{open_of}
use Rattle.px_history.specs.Fitting.{IsStoredNumber}
use Rattle.px_locks.specs.Holders.{Holders, holder_of, unless_held_by}
use Rattle.px_locks_laws.specs.Keys.{HoldsKeys}
use Rattle.px_model.specs.declared.machine.Open.{Open}
use Rattle.px_model.specs.Machine.{Machine, commits as commits_of}
use Rattle.px_model.specs.Rows.{Key, same_key}
use Rattle.px_xacts.specs.declared.transaction.Transaction.{Transaction}
use Rattle.px_xacts.specs.declared.transaction.Unswept.{Unswept}
use Rattle.px_xacts.specs.declared.write.WriteAt.{WriteAt}
use Rattle.px_xacts.specs.Transactions as transactions
use Rattle.px_xacts.specs.Transactions.{Transactions, with_write}
use Rattle.px_xacts_laws.specs.Mirrors.{Mirrors, key_at}

-- It is what the machine's sessions have.
pub record IsActiveOf (m : Machine) (active : Active) : Type 0 where
  pub mirrors : Mirrors m active.xacts
  pub holders : HoldsKeys m active.locks
  pub kept : KeepsTickets active.tickets m
  pub commits : active.commits ≡ commits_of m

-- the transaction of each unswept write has a stored number
abbrev pub AreStored : Transactions → Type 0
AreStored all = All (λ (entry : Unswept). IsStoredNumber (all.base + entry.number)) all.queue

-- ---- a write

abbrev pub new_key : NewWrite → Key
new_key write = (write.table, write.key.now)

-- where the version stands
abbrev pub place_of : NewWrite → WriteAt
place_of write = record { table = write.table; row = write.row; slot = write.slot; key = write.key.now }

-- the transaction of that number may take the key
abbrev pub MayTake : Key → (number : ℕ) → Holders → Type 0
MayTake key number holders = (holder_of key holders ≡ None) ⊎ (holder_of key holders ≡ Some number)

-- the key is taken by the transaction of that number
abbrev pub IsTaken : Key → (number : ℕ) → (old new : Holders) → Type 0
IsTaken taken number old new = (key : Key) → holder_of key new ≡ (if same_key key taken then Some number else holder_of key old)

-- The session's transaction of that number has one write more, and holds its key, which nobody held before where it was free.
pub record Noted (session number : ℕ) (at : WriteAt) (free : Bool) (old new : Active) : Type 0 where
  pub xacts : new.xacts ≡ with_write old.xacts session at
  pub holders : IsTaken (key_at at) number old.locks new.locks
  pub may_take : MayTake (key_at at) number old.locks
  pub free_is : free ≡ is_none (holder_of (key_at at) old.locks)
  pub tickets : new.tickets ≡ old.tickets
  pub commits : new.commits ≡ old.commits

-- the write that a transaction made last
abbrev pub last_of : Option Transaction → Option WriteAt
last_of None = None
last_of (Some transaction) = slice_get transaction.writes (length transaction.writes - 1)

-- nobody holds the key any more, where it was free before
abbrev pub IsGivenBack : Key → (free : Bool) → (old new : Holders) → Type 0
IsGivenBack freed free old new = (key : Key) → holder_of key new ≡ (if free && same_key key freed then None else holder_of key old)

-- ---- who writes

abbrev pub writing_in : (base : ℕ) → Option Transaction → Option ℕ
writing_in base None = None
writing_in base (Some transaction) = if length transaction.writes == 0 then None else Some (base + transaction.number)

-- the stored number of the session's open transaction, where it has writes
abbrev pub writer_in : Transactions → (session : ℕ) → Option ℕ
writer_in all session = writing_in all.base (transactions.open_of all session)

-- the session's open transaction, if it has one, has no writes
abbrev pub HasNoWrites : Machine → (session : ℕ) → Type 0
HasNoWrites m session = (xact : Open) → open_of m session ≡ Some xact → xact.writes ≡ []

-- it has writes, and this stored number
pub record IsWriterIn (m : Machine) (session xn : ℕ) : Type 0 where
  pub xact : Open
  pub is_open : open_of m session ≡ Some xact
  pub has_writes : xact.writes ≢ []
  pub stored : xn ≡ m.base + xact.number

-- ---- an end

abbrev pub end_call : (committed : Bool) → Call
end_call true = Commit
end_call false = Rollback

-- how many commits there are, once a transaction that has writes or none has ended: one with writes that commits is counted
abbrev pub counted : (committed has_writes : Bool) → (commits : ℕ) → ℕ
counted committed has_writes commits = if committed && has_writes then commits + 1 else commits

abbrev pub commits_after : Active → (session : ℕ) → (committed : Bool) → ℕ
commits_after active session committed = counted committed (is_some (writer_in active.xacts session)) active.commits

-- what its end is answered, where there were so many commits before it
abbrev pub end_reply : (committed has_writes : Bool) → (commits : ℕ) → Reply
end_reply true true commits = Committed (commits + 1)
end_reply true false commits = EndedEmpty
end_reply false has_writes commits = RolledBack

-- some of the writes is of the key
abbrev pub has_key : Key → List WriteAt → Bool
has_key key writes = list_any (λ write. same_key key (key_at write)) writes

-- the keys of these writes are taken from the transaction of that number, where it holds them
abbrev pub AreReleased : List WriteAt → (number : ℕ) → (old new : Holders) → Type 0
AreReleased writes number old new = (key : Key) → holder_of key new
    ≡ (if has_key key writes then unless_held_by number (holder_of key old) else holder_of key old)

-- ---- calls that change nothing here

abbrev pub only_reads : Call → Bool
only_reads (Get table key) = true
only_reads (Fetch ticket) = true
only_reads (Find table tag) = true
only_reads (Scan table) = true
only_reads _ = false
