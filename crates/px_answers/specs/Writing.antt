-- Who may write, and what a write is answered before its version has a place.
use Rattle.std.specs.Prelude.{Bool, nat_le, is_some, not, ◌≡◌, ◌⊎◌, ◌<◌, ◌≤◌, ℕ, ◌-◌, nat_lt, true, false, List, length, ◌+◌, Option, Some, None, option_map, IfSome, MatchOption, if◌then◌else◌}
use Rattle.px_answers.specs.Asking.{IsOpenIn, opened_of}
use Rattle.px_answers.specs.declared.caller.Caller.{Caller}
use Rattle.px_answers.specs.declared.caller.Opened.{Opened}
use Rattle.px_answers.specs.declared.writing.Asked.{Asked}
use Rattle.px_answers.specs.declared.writing.Wants.{Wants}
use Rattle.px_answers.specs.declared.writing.Wants.TheVariants.{Absent, Present}
use Rattle.px_answers.specs.declared.writing.Writer.{Writer}
use Rattle.px_calls.specs.declared.call.Call.{Call}
use Rattle.px_calls.specs.declared.call.Call.TheVariants.{Delete, Insert, Update}
use Rattle.px_calls.specs.declared.reply.Reply.{Reply}
use Rattle.px_calls.specs.declared.reply.Reply.TheVariants.{Deleted, Duplicate, Inserted, Missing, NoRow, TableFull, Updated}
use Rattle.px_calls.specs.Steps.{fits_body, fits_key, has_table, if_open, is_full, open_of, reply_of, unless_refused, write_refusal}
use Rattle.px_chain.specs.declared.views.SlotView.{SlotView}
use Rattle.px_chain.specs.Table.{Table}
use Rattle.px_locks.specs.Holders.{Holders, holder_of}
use Rattle.px_model.specs.declared.limits.TheConstants.{MOST_VARIATIONS, MOST_WRITES}
use Rattle.px_model.specs.declared.machine.Open.{Open}
use Rattle.px_model.specs.declared.standing.Standing.{Standing}
use Rattle.px_model.specs.declared.standing.Standing.TheVariants.{Before, Committed, Open as OpenYet, RolledBack}
use Rattle.px_model.specs.Machine.{Machine, view}
use Rattle.px_model.specs.Rows.{row_at}
use Rattle.px_tables.specs.Keys.{HasNoRow, IsRowOf}
use Rattle.px_tables.specs.Linking.{IsKey}
use Rattle.px_xacts.specs.declared.transaction.Transaction.{Transaction}
use Rattle.px_xacts.specs.Transactions as xacts

-- ---- what is asked

abbrev pub body_asked : Asked → Option (List ℕ)
body_asked asked = option_map (λ body. body.now) asked.body

pub record IsAsked (asked : Asked) (table : ℕ) (key : List ℕ) (body : Option (List ℕ)) (wants : Wants) : Type 0 where
  pub its_table : asked.table ≡ table
  pub its_key : asked.key.now ≡ key
  pub its_body : body_asked asked ≡ body
  pub its_wants : asked.wants ≡ wants

-- the call asks for it
abbrev pub Asks : Call → Asked → Type 0
Asks (Insert table key tag body) asked = IsAsked asked table key (Some body) Absent
Asks (Update table key tag body) asked = IsAsked asked table key (Some body) Present
Asks (Delete table key) asked = IsAsked asked table key None Present
Asks _ asked = ⊥

-- what the call is answered where its version has a place
abbrev pub reply_done : Call → Reply
reply_done (Insert table key tag body) = Inserted
reply_done (Update table key tag body) = Updated
reply_done (Delete table key) = Deleted
reply_done _ = NoRow

-- whether a write may have the body; a deletion has none
abbrev pub fits_asked : Machine → Option (List ℕ) → Bool
fits_asked m None = true
fits_asked m (Some body) = fits_body m body

-- what refuses a write: that a row is there, or that none is
abbrev pub is_wrong : Wants → (is_there : Bool) → Bool
is_wrong Absent is_there = is_there
is_wrong Present is_there = not is_there

abbrev pub refusal_of : Wants → Reply
refusal_of Absent = Duplicate
refusal_of Present = Missing

-- what is answered to who asks for it
abbrev pub reply_asked : Machine → (session table : ℕ) (key : List ℕ) → (body : Option (List ℕ)) → Wants → (done : Reply) → Reply
reply_asked m session table key body wants done = if_open (open_of m session) (λ xact.
    unless_refused (write_refusal m session xact table key (fits_asked m body)) (
    if is_wrong wants (is_some (row_at (table, key) (view m xact))) then refusal_of wants
    else (if is_full m table then TableFull MOST_VARIATIONS else done)))

-- it is answered so, whatever would be answered where it is done
abbrev pub IsAnswered : Machine → (session : ℕ) → Asked → Reply → Type 0
IsAnswered m session asked reply =
    (done : Reply) → reply_asked m session asked.table asked.key.now (body_asked asked) asked.wants done ≡ reply

-- ---- who may write

-- The session's transaction is the writer. The call is answered as done where the table isn't full, and else refused for that.
pub record MayWrite (m : Machine) (session : ℕ) (call : Call) (table : ℕ) (writer : Writer) : Type 0 where
  pub xact : Open
  pub is_open : open_of m session ≡ Some xact
  pub number : writer.number ≡ xact.number
  pub stored : writer.stored ≡ m.base + xact.number
  pub done : is_full m table ≡ false → reply_of m session call ≡ reply_done call
  pub full : is_full m table ≡ true → reply_of m session call ≡ TableFull MOST_VARIATIONS

-- what is asked fits a slot of the table, and one more write may be added to those of the caller's transaction
pub record FitsIn (caller : Caller) (asked : Asked) (opened : Opened) : Type 0 where
  pub from_one : 1 ≤ asked.table
  pub within : asked.table ≤ caller.tables
  pub its_key : IsKey asked.key.now
  pub its_body : IfSome (body_asked asked) (λ body. length body ≤ caller.short)
  pub transaction : Transaction
  pub is_open : xacts.open_of caller.xacts.now caller.session ≡ Some transaction
  pub known : opened ≡ opened_of caller.xacts.now transaction
  pub few : length transaction.writes < MOST_WRITES

-- What is asked fits a slot of the table, and one more write of the key may be added to those of the writer, the caller's
-- transaction. It is so over a site that tells nothing, too.
pub record IsAdmitted (caller : Caller) (holders : Holders) (asked : Asked) (writer : Writer) : Type 0 where
  pub opened : Opened
  pub fits : FitsIn caller asked opened
  pub number : writer.number ≡ opened.number
  pub stored : writer.stored ≡ opened.stored
  pub holder : (holder_of (asked.table, asked.key.now) holders ≡ None) ⊎ (holder_of (asked.table, asked.key.now) holders ≡ Some writer.number)

-- the transaction is open, and nothing refuses it the write but another writer, what is there, and a full table
pub record MayAsk (m : Machine) (session : ℕ) (asked : Asked) (opened : Opened) : Type 0 where
  pub xact : Open
  pub opened_is : IsOpenIn m session xact opened
  pub has : has_table m asked.table ≡ true
  pub its_key : fits_key asked.key.now ≡ true
  pub its_body : fits_asked m (body_asked asked) ≡ true
  pub few : nat_le MOST_WRITES (length xact.writes) ≡ false

-- ---- whom a write meets

-- this is the row of the key, if it has one
abbrev pub IsFound : Table → (key : List ℕ) → Option ℕ → Type 0
IsFound table key row = MatchOption row (HasNoRow table key) (λ row. IsRowOf table key row)

-- the number of a transaction that committed at or past the snapshot
abbrev pub number_since : (base snapshot xn : ℕ) → Standing → Option ℕ
number_since base snapshot xn Before = None
number_since base snapshot xn OpenYet = None
number_since base snapshot xn RolledBack = None
number_since base snapshot xn (Committed place) = if nat_lt place snapshot then None else Some (xn - base)

abbrev pub committed_since : (base snapshot : ℕ) → Option SlotView → Option ℕ
committed_since base snapshot None = None
committed_since base snapshot (Some view) = number_since base snapshot view.xn view.standing
