-- The transactions of an opened store: those that are open, what became of those that ended, and what of them is still
-- to be swept.
use Rattle.std.specs.Prelude.{◌≡◌, ℕ, ◌+◌, ◌-◌, Bool, true, false, ◌||◌, ◌==◌, nat_lt, nat_le, List, [], ◌∷◌, ◌++◌, map, length, take, Option, Some, None, is_some, option_map, unwrap_or, if◌then◌else◌, slice_get, slice_index_or, slice_set}
use Rattle.px_model.specs.declared.limits.TheConstants.{MOST_BEGINS, STORED_NUMBERS_END}
use Rattle.px_model.specs.Machine.{lower_of}
use Rattle.px_model.specs.declared.standing.Standing.{Standing}
use Rattle.px_model.specs.declared.standing.Standing.TheVariants.{Before, Open, RolledBack, Committed}
use Rattle.px_xacts.specs.declared.write.WriteAt.{WriteAt}
use Rattle.px_xacts.specs.declared.transaction.Transaction.{Transaction}
use Rattle.px_xacts.specs.declared.transaction.Start.{Start}
use Rattle.px_xacts.specs.declared.transaction.Outcome.{Outcome}
use Rattle.px_xacts.specs.declared.transaction.Unswept.{Unswept}
use Rattle.px_xacts.specs.declared.answers.Begun.{Begun}
use Rattle.px_xacts.specs.declared.answers.Begun.TheVariants.{Number, OpenAlready, LimitBegins}
use Rattle.px_xacts.specs.declared.answers.Due.{Due}

pub record Transactions : Type 0 where
  -- the stored number before that of the first transaction, and how many have begun
  pub base : ℕ
  pub begun : ℕ
  -- the transactions that ended with writes, in the order of their ends
  pub outcomes : List Outcome
  -- the writes of these that aren't swept yet, in order
  pub queue : List Unswept
  -- for each session its open transaction
  pub active : List (Option Transaction)

abbrev pub no_session : List (Option Transaction)
no_session = None ∷ None ∷ None ∷ None ∷ None ∷ None ∷ None ∷ None ∷ None ∷ None ∷ None ∷ None ∷ None ∷ None ∷ None ∷ None ∷ []

abbrev pub fresh : (base : ℕ) → Transactions
fresh base = record { base = base; begun = 0; outcomes = []; queue = []; active = no_session }

-- the session's open transaction
abbrev pub open_of : Transactions → ℕ → Option Transaction
open_of all session = slice_index_or all.active session None

-- the session's transaction becomes this one, or none
abbrev pub with_slot : Transactions → ℕ → Option Transaction → Transactions
with_slot all session slot = record all { active = slice_set all.active session slot }

-- ---- a begin

unfoldable pub begins_spent : Transactions → Bool
begins_spent all = (all.begun == MOST_BEGINS) || (all.base + all.begun + 1 == STORED_NUMBERS_END)

unfoldable pub begin_answer : Transactions → (session : ℕ) → Begun
begin_answer all session =
    if is_some (open_of all session) then OpenAlready
    else (if begins_spent all then LimitBegins else Number (all.begun + 1))

-- the session's transaction begins
abbrev pub opened : Transactions → (session frames : ℕ) → Transactions
opened all session frames = record all {
  begun = all.begun + 1;
  active = slice_set all.active session (Some (record { number = all.begun + 1; snap = length all.outcomes; frames = frames; writes = [] }));
}

abbrev pub when_answered : Begun → (unchanged next : Transactions) → Transactions
when_answered (Number number) unchanged next = next
when_answered OpenAlready unchanged next = unchanged
when_answered LimitBegins unchanged next = unchanged

-- what a begin leaves
abbrev pub after_begin : Transactions → (session frames : ℕ) → Transactions
after_begin all session frames = when_answered (begin_answer all session) all (opened all session frames)

-- what is left where a begin is taken back
abbrev pub without_begin : Transactions → (session : ℕ) → Transactions
without_begin all session = record all { begun = all.begun - 1; active = slice_set all.active session None }

-- the session's transaction began last, and it has no writes
pub record BeganLast (all : Transactions) (session : ℕ) : Type 0 where
  pub transaction : Transaction
  pub is : open_of all session ≡ Some transaction
  pub last : transaction.number ≡ all.begun
  pub empty : transaction.writes ≡ []

-- ---- writes

abbrev pub plus_write : WriteAt → Transaction → Transaction
plus_write write transaction = record transaction { writes = transaction.writes ++ write ∷ [] }

abbrev pub with_write : Transactions → (session : ℕ) → WriteAt → Transactions
with_write all session write = with_slot all session (option_map (plus_write write) (open_of all session))

abbrev pub minus_last : Transaction → Transaction
minus_last transaction = record transaction { writes = take (length transaction.writes - 1) transaction.writes }

abbrev pub without_last : Transactions → (session : ℕ) → Transactions
without_last all session = with_slot all session (option_map minus_last (open_of all session))

-- ---- an end

-- what becomes of a transaction: nothing is kept of one without writes
abbrev pub outcomes_of : (committed : Bool) → Option Transaction → List Outcome
outcomes_of committed None = []
outcomes_of committed (Some transaction) =
    if length transaction.writes == 0 then []
    else record { number = transaction.number; committed = committed } ∷ []

abbrev pub unswept : (place : ℕ) (committed : Bool) → Transaction → WriteAt → Unswept
unswept place committed transaction write =
    record { place = place; number = transaction.number; committed = committed; frames = transaction.frames; write = write }

abbrev pub unswept_of : (place : ℕ) (committed : Bool) → Option Transaction → List Unswept
unswept_of place committed None = []
unswept_of place committed (Some transaction) = map (unswept place committed transaction) transaction.writes

-- the session's transaction ends
abbrev pub ended : Transactions → (session : ℕ) (committed : Bool) → Transactions
ended all session committed = record all {
  outcomes = all.outcomes ++ outcomes_of committed (open_of all session);
  queue = all.queue ++ unswept_of (length all.outcomes) committed (open_of all session);
  active = slice_set all.active session None;
}

-- ---- the horizon, and what is due

-- the least of the open transactions' snapshots and of the least so far
abbrev pub least_snap : Option ℕ → List (Option Transaction) → Option ℕ
least_snap least [] = least
least_snap least (None ∷ slots) = least_snap least slots
least_snap least (Some transaction ∷ slots) = least_snap (Some (lower_of least transaction.snap)) slots

-- the least snapshot of the open transactions, else the number of ended ones
unfoldable pub horizon : Transactions → ℕ
horizon all = unwrap_or (least_snap None all.active) (length all.outcomes)

abbrev pub due_from : Unswept → Due
due_from entry =
    record { number = entry.number; committed = entry.committed; table = entry.write.table; row = entry.write.row; slot = entry.write.slot }

-- the first of these writes, if its transaction's place is below a horizon
abbrev pub due_below : ℕ → List Unswept → Option Due
due_below end [] = None
due_below end (entry ∷ queue) = if nat_lt entry.place end then Some (due_from entry) else None

unfoldable pub due : Transactions → Option Due
due all = due_below (horizon all) all.queue

-- ---- the low mark

-- the one with the lower number of a start and of the oldest so far, if there is one
abbrev pub older_of : Option Start → Start → Start
older_of None start = start
older_of (Some oldest) start = if nat_lt start.number oldest.number then start else oldest

-- the oldest of the open transactions and of the oldest so far
abbrev pub oldest_open : Option Start → List (Option Transaction) → Option Start
oldest_open oldest [] = oldest
oldest_open oldest (None ∷ slots) = oldest_open oldest slots
oldest_open oldest (Some transaction ∷ slots) =
    oldest_open (Some (older_of oldest (record { number = transaction.number; frames = transaction.frames }))) slots

-- the oldest of the rolled-back transactions of these writes and of the oldest so far
abbrev pub oldest_undone : Option Start → List Unswept → Option Start
oldest_undone oldest [] = oldest
oldest_undone oldest (entry ∷ queue) =
    if entry.committed then oldest_undone oldest queue
    else oldest_undone (Some (older_of oldest (record { number = entry.number; frames = entry.frames }))) queue

-- the oldest of the open transactions and of the rolled-back ones with an unswept write
unfoldable pub oldest : Transactions → Option Start
oldest all = oldest_undone (oldest_open None all.active) all.queue

-- its stored number, else the next one
unfoldable pub low : Transactions → ℕ
low all = all.base + unwrap_or (option_map (λ start. start.number) (oldest all)) (all.begun + 1)

-- how many frames the log had when that one began
unfoldable pub floor : Transactions → Option ℕ
floor all = option_map (λ start. start.frames) (oldest all)

-- ---- what became of a transaction

abbrev pub standing_at : (place : ℕ) (committed : Bool) → Standing
standing_at place true = Committed place
standing_at place false = RolledBack

-- that of the transaction with this number, where the first outcome stands at this place; one that has no outcome is open
abbrev pub standing_from : (place : ℕ) → List Outcome → (number : ℕ) → Standing
standing_from place [] number = Open
standing_from place (outcome ∷ outcomes) number =
    if outcome.number == number then standing_at place outcome.committed
    else standing_from (place + 1) outcomes number

-- that of the transaction with this stored number, which is open where nobody was given the number
unfoldable pub standing : Transactions → (xn : ℕ) → Standing
standing all xn = if nat_le xn all.base then Before else standing_from 0 all.outcomes (xn - all.base)

-- the session's open transaction has this stored number
pub record IsOpenAs (all : Transactions) (session xn : ℕ) : Type 0 where
  pub transaction : Transaction
  pub is : open_of all session ≡ Some transaction
  pub stored : all.base + transaction.number ≡ xn

-- the outcome of the transaction with this stored number stands at this place
pub record IsEndedAs (all : Transactions) (place : ℕ) (committed : Bool) (xn : ℕ) : Type 0 where
  pub outcome : Outcome
  pub is : slice_get all.outcomes place ≡ Some outcome
  pub so : outcome.committed ≡ committed
  pub stored : all.base + outcome.number ≡ xn
