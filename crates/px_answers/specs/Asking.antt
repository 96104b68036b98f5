-- Who calls, and what is known of its transaction.
use Rattle.std.specs.Prelude.{◌≡◌, ℕ, ◌+◌, true, List, length, not, Some, if◌then◌else◌}
use Rattle.px_answers.specs.declared.caller.Caller.{Caller}
use Rattle.px_answers.specs.declared.caller.Opened.{Opened}
use Rattle.px_calls.specs.declared.reply.Reply.{Reply}
use Rattle.px_calls.specs.declared.reply.Reply.TheVariants.{LimitKey, NoTable}
use Rattle.px_calls.specs.Steps.{fits_key, has_table, if_open, open_of}
use Rattle.px_held.specs.Serving.{HeldTables}
use Rattle.px_model.specs.declared.machine.Open.{Open}
use Rattle.px_model.specs.Machine.{Machine}
use Rattle.px_xacts.specs.declared.transaction.Transaction.{Transaction}
use Rattle.px_xacts.specs.Transactions.{Transactions}
use Rattle.px_xacts_laws.specs.Mirrors.{Mirrors}

-- what is known of an open transaction
abbrev pub opened_of : Transactions → Transaction → Opened
opened_of all x = record { number = x.number; stored = all.base + x.number; snapshot = x.snap; writes = length x.writes }

-- the same, as the machine has it
abbrev pub opened_in : Machine → Open → Opened
opened_in m x = record { number = x.number; stored = m.base + x.number; snapshot = x.snap; writes = length x.writes }

-- what the caller says of the tables is so
pub record IsCallerOn (held : HeldTables) (caller : Caller) : Type 0 where
  pub tables : caller.tables ≡ length held.tables
  pub short : caller.short ≡ held.short

-- its transactions, its tables and its short length are the machine's
pub record IsCallerOf (m : Machine) (caller : Caller) : Type 0 where
  pub mirrors : Mirrors m caller.xacts.now
  pub tables : caller.tables ≡ m.tables
  pub short : caller.short ≡ m.short

-- the session's open transaction, and this is what is known of it
pub record IsOpenIn (m : Machine) (session : ℕ) (xact : Open) (opened : Opened) : Type 0 where
  pub is_open : open_of m session ≡ Some xact
  pub known : opened ≡ opened_in m xact

-- it is open, and may read rows of the table
pub record MayReadTable (m : Machine) (session table : ℕ) (opened : Opened) : Type 0 where
  pub xact : Open
  pub opened_is : IsOpenIn m session xact opened
  pub has : has_table m table ≡ true

-- and that of the key
pub record MayReadKey (m : Machine) (session table : ℕ) (key : List ℕ) (opened : Opened) : Type 0 where
  pub of_table : MayReadTable m session table opened
  pub fits : fits_key key ≡ true

-- a call that reads rows of the table is answered so, whatever it would be answered else
abbrev pub IsTableRefusal : (m : Machine) (session table : ℕ) → Reply → Type 0
IsTableRefusal m session table reply =
    (done : Open → Reply) → if_open (open_of m session) (λ xact. if not (has_table m table) then NoTable else done xact) ≡ reply

abbrev pub IsKeyRefusal : (m : Machine) (session table : ℕ) (key : List ℕ) → Reply → Type 0
IsKeyRefusal m session table key reply =
    (done : Open → Reply) → if_open (open_of m session) (λ xact.
    if not (has_table m table) then NoTable else (if not (fits_key key) then LimitKey else done xact)) ≡ reply
