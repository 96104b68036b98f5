-- The transactions of a machine, without their rows.
use Rattle.std.specs.Prelude.{◌≡◌, ◌≤◌, ℕ, Bool, List, map, length, drop, Option, Some, None}
use Rattle.px_model.specs.declared.machine.Ended.{Ended}
use Rattle.px_model.specs.declared.machine.Flat.{Flat}
use Rattle.px_model.specs.declared.machine.Open.{Open}
use Rattle.px_model.specs.Rows.{Key, key_written}
use Rattle.px_model.specs.Machine.{Machine, flat}
use Rattle.px_xacts.specs.declared.write.WriteAt.{WriteAt}
use Rattle.px_xacts.specs.declared.transaction.Transaction.{Transaction}
use Rattle.px_xacts.specs.declared.transaction.Outcome.{Outcome}
use Rattle.px_xacts.specs.declared.transaction.Unswept.{Unswept}
use Rattle.px_xacts.specs.declared.answers.Begun.{Begun}
use Rattle.px_xacts.specs.declared.answers.Begun.TheVariants.{Number, OpenAlready, LimitBegins}
use Rattle.px_xacts.specs.declared.answers.Due.{Due}
use Rattle.px_xacts.specs.Transactions.{Transactions}
use Rattle.px_calls.specs.declared.reply.Reply.{Reply}
use Rattle.px_calls.specs.declared.reply.Reply.TheVariants.{Began, Swept, Idle, OpenAlready as ReplyOpenAlready, LimitBegins as ReplyLimitBegins}

abbrev pub key_at : WriteAt → Key
key_at write = (write.table, write.key)

-- what both know of an open transaction: its number, its snapshot and the keys of its writes
abbrev pub Known : Type 0
Known = ℕ × (ℕ × List Key)

abbrev pub known_of_transaction : Option Transaction → Option Known
known_of_transaction None = None
known_of_transaction (Some x) = Some (x.number, (x.snap, map key_at x.writes))

abbrev pub known_of_open : Option Open → Option Known
known_of_open None = None
known_of_open (Some x) = Some (x.number, (x.snap, map key_written x.writes))

abbrev pub outcome_of : Ended → Outcome
outcome_of e = record { number = e.number; committed = e.committed }

-- what both know of an unswept write: place, number and outcome of its transaction, and its key
abbrev pub KnownWrite : Type 0
KnownWrite = ℕ × (ℕ × (Bool × Key))

abbrev pub known_of_unswept : Unswept → KnownWrite
known_of_unswept entry = (entry.place, (entry.number, (entry.committed, key_at entry.write)))

abbrev pub known_of_flat : Flat → KnownWrite
known_of_flat f = (f.place, (f.number, (f.committed, key_written f.write)))

-- these are the machine's transactions; where their writes stand and how many frames the log had is left open
pub record Mirrors (m : Machine) (all : Transactions) : Type 0 where
  pub base : all.base ≡ m.base
  pub begun : all.begun ≡ m.begun
  pub outcomes : all.outcomes ≡ map outcome_of m.ended
  pub queue : map known_of_unswept all.queue ≡ map known_of_flat (drop m.swept (flat m))
  pub active : map known_of_transaction all.active ≡ map known_of_open m.active
  pub swept : m.swept ≤ length (flat m)

-- what the machine replies to a begin
abbrev pub begun_reply : Begun → Reply
begun_reply (Number number) = Began number
begun_reply OpenAlready = ReplyOpenAlready
begun_reply LimitBegins = ReplyLimitBegins

-- what the machine's sweeper replies
abbrev pub due_reply : Option Due → Reply
due_reply None = Idle
due_reply (Some due) = Swept due.number
