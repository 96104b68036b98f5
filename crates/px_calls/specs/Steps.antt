-- What the machine replies to a session's call, and the state that the call leaves.
use Rattle.std.specs.Prelude.{ℕ, ◌+◌, ◌-◌, Bool, true, false, not, ◌&&◌, ◌||◌, ◌==◌, nat_le, List, [], ◌∷◌, ◌++◌, length, drop, filter, Option, Some, None, is_some, is_none, option_map, option_to_list, if◌then◌else◌, slice_get, slice_index_or, slice_set}
use Rattle.std.specs.Option.{option_or}
use Rattle.px_model.specs.declared.row.Row.{Row}
use Rattle.px_model.specs.declared.write.Write.{Write}
use Rattle.px_model.specs.declared.write.Write.TheVariants.{Put, Delete}
use Rattle.px_model.specs.declared.machine.Ended.{Ended}
use Rattle.px_model.specs.declared.machine.Open.{Open}
use Rattle.px_calls.specs.declared.call.Call.{Call}
use Rattle.px_calls.specs.declared.call.Call.TheVariants.{Begin, Get, Hold, Fetch, Find, Scan, Insert, Update, Delete as DeleteCall, Commit, Rollback}
use Rattle.px_calls.specs.declared.reply.Reply.{Reply}
use Rattle.px_calls.specs.declared.reply.Reply.TheVariants.{Began, RowIs, NoRow, Held, Rows, Inserted, Updated, Deleted, Committed, EndedEmpty, RolledBack, NoTransaction, OpenAlready, LimitBegins, NoTable, LimitKey, LimitBody, LimitWrites, LimitTickets, NoTicket, Conflict, Duplicate, Missing, TableFull}
use Rattle.px_model.specs.declared.limits.TheConstants.{LONGEST_KEY, MOST_WRITES, MOST_TICKETS, MOST_BEGINS, MOST_VARIATIONS, STORED_NUMBERS_END}
use Rattle.px_model.specs.Rows.{Key, row_at, has_write_of}
use Rattle.px_model.specs.Machine.{Machine, view, commits}
use Rattle.px_model.specs.Chains.{variations_of_table}

-- the session's open transaction
abbrev pub open_of : Machine → ℕ → Option Open
open_of m session = slice_index_or m.active session None

-- ---- the conditions of the refusals

unfoldable pub begins_spent : Machine → Bool
begins_spent m = (m.begun == MOST_BEGINS) || (m.base + m.begun + 1 == STORED_NUMBERS_END)

unfoldable pub has_table : Machine → ℕ → Bool
has_table m table = nat_le 1 table && nat_le table m.tables

unfoldable pub fits_key : List ℕ → Bool
fits_key key = nat_le 1 (length key) && nat_le (length key) LONGEST_KEY

-- the longest body that a write may have: until there are data logs, what a slot holds of it
unfoldable pub longest_body : Machine → ℕ
longest_body m = m.short

unfoldable pub fits_body : Machine → List ℕ → Bool
fits_body m body = nat_le (length body) (longest_body m)

-- the number of an open transaction that has written the key
abbrev pub open_writer : Key → List (Option Open) → Option ℕ
open_writer key [] = None
open_writer key (None ∷ slots) = open_writer key slots
open_writer key (Some xact ∷ slots) = if has_write_of key xact.writes then Some xact.number else open_writer key slots

-- the number of the last committed transaction that has written the key
abbrev pub last_writer : Key → List Ended → Option ℕ
last_writer key [] = None
last_writer key (e ∷ ended) =
    option_or (last_writer key ended) (if e.committed && has_write_of key e.writes then Some e.number else None)

-- another open transaction that has written the key, else the last one at or past the snapshot that did
unfoldable pub conflict_of : Machine → ℕ → Open → Key → Option ℕ
conflict_of m session xact key =
    option_or (open_writer key (slice_set m.active session None)) (last_writer key (drop xact.snap m.ended))

-- a table is full where it has as many versions as it may: those that its chains stand on, and the writes since, of the ended transactions that
-- are not swept and of the open ones
unfoldable pub is_full : Machine → ℕ → Bool
is_full m table = nat_le MOST_VARIATIONS (variations_of_table m table)

-- ---- the reply

abbrev pub if_open : Option Open → (Open → Reply) → Reply
if_open None reply = NoTransaction
if_open (Some xact) reply = reply xact

abbrev pub row_reply : Option Row → Reply
row_reply None = NoRow
row_reply (Some row) = RowIs row

abbrev pub unless_refused : Option Reply → Reply → Reply
unless_refused None reply = reply
unless_refused (Some refusal) reply = refusal

-- the refusals of a write that need no row
unfoldable pub write_refusal : Machine → ℕ → Open → (table : ℕ) (key : List ℕ) → (fits : Bool) → Option Reply
write_refusal m session xact table key fits =
    if not (has_table m table) then Some NoTable
    else (if not (fits_key key) then Some LimitKey
    else (if not fits then Some LimitBody
    else (if nat_le MOST_WRITES (length xact.writes) then Some LimitWrites
    else option_map Conflict (conflict_of m session xact (table, key)))))

unfoldable pub kept_row : Open → ℕ → Option Row
kept_row xact ticket = if ticket == 0 then None else slice_get xact.kept (ticket - 1)

abbrev pub ticket_reply : Option Row → Reply
ticket_reply None = NoTicket
ticket_reply (Some row) = RowIs row

unfoldable pub rows_of_table : ℕ → List Row → List Row
rows_of_table table rows = filter (λ row. row.table == table) rows

unfoldable pub rows_with_tag : ℕ → ℕ → List Row → List Row
rows_with_tag table tag rows = filter (λ row. (row.table == table) && (row.tag == tag)) rows

unfoldable pub reply_of : Machine → ℕ → Call → Reply
reply_of m session Begin =
    if is_some (open_of m session) then OpenAlready
    else (if begins_spent m then LimitBegins else Began (m.begun + 1))
reply_of m session (Get table key) = if_open (open_of m session) (λ xact.
    if not (has_table m table) then NoTable
    else (if not (fits_key key) then LimitKey
    else row_reply (row_at (table, key) (view m xact))))
reply_of m session (Hold table key) = if_open (open_of m session) (λ xact.
    if not (has_table m table) then NoTable
    else (if not (fits_key key) then LimitKey
    else (if nat_le MOST_TICKETS (length xact.kept) then LimitTickets
    else (if is_none (row_at (table, key) (view m xact)) then Missing
    else Held (length xact.kept + 1)))))
reply_of m session (Fetch ticket) = if_open (open_of m session) (λ xact. ticket_reply (kept_row xact ticket))
reply_of m session (Find table tag) = if_open (open_of m session) (λ xact.
    if not (has_table m table) then NoTable
    else Rows (rows_with_tag table tag (view m xact)))
reply_of m session (Scan table) = if_open (open_of m session) (λ xact.
    if not (has_table m table) then NoTable
    else Rows (rows_of_table table (view m xact)))
reply_of m session (Insert table key tag body) = if_open (open_of m session) (λ xact.
    unless_refused (write_refusal m session xact table key (fits_body m body)) (
    if is_some (row_at (table, key) (view m xact)) then Duplicate
    else (if is_full m table then TableFull MOST_VARIATIONS else Inserted)))
reply_of m session (Update table key tag body) = if_open (open_of m session) (λ xact.
    unless_refused (write_refusal m session xact table key (fits_body m body)) (
    if is_none (row_at (table, key) (view m xact)) then Missing
    else (if is_full m table then TableFull MOST_VARIATIONS else Updated)))
reply_of m session (DeleteCall table key) = if_open (open_of m session) (λ xact.
    unless_refused (write_refusal m session xact table key true) (
    if is_none (row_at (table, key) (view m xact)) then Missing
    else (if is_full m table then TableFull MOST_VARIATIONS else Deleted)))
reply_of m session Commit = if_open (open_of m session) (λ xact.
    if length xact.writes == 0 then EndedEmpty else Committed (commits m + 1))
reply_of m session Rollback = if_open (open_of m session) (λ xact. RolledBack)

-- ---- the next state

abbrev pub is_refusal : Reply → Bool
is_refusal NoTransaction = true
is_refusal OpenAlready = true
is_refusal LimitBegins = true
is_refusal NoTable = true
is_refusal LimitKey = true
is_refusal LimitBody = true
is_refusal LimitWrites = true
is_refusal LimitTickets = true
is_refusal NoTicket = true
is_refusal (Conflict number) = true
is_refusal Duplicate = true
is_refusal Missing = true
is_refusal (TableFull variations) = true
is_refusal _ = false

-- the session's transaction becomes this one, or none
abbrev pub with_slot : Machine → ℕ → Option Open → Machine
with_slot m session slot = record m { active = slice_set m.active session slot }

abbrev pub plus_write : Write → Open → Open
plus_write write xact = record xact { writes = xact.writes ++ write ∷ [] }

abbrev pub plus_kept : Option Row → Open → Open
plus_kept row xact = record xact { kept = xact.kept ++ option_to_list row }

abbrev pub with_write : Machine → ℕ → Write → Machine
with_write m session write = with_slot m session (option_map (plus_write write) (open_of m session))

abbrev pub entry_of : Bool → Open → List Ended
entry_of committed xact =
    if length xact.writes == 0 then []
    else record { number = xact.number; committed = committed; snap = xact.snap; writes = xact.writes } ∷ []

abbrev pub entries_of : Bool → Option Open → List Ended
entries_of committed None = []
entries_of committed (Some xact) = entry_of committed xact

-- the session's transaction ends
abbrev pub closed : Machine → ℕ → Bool → Machine
closed m session committed = record m {
  ended = m.ended ++ entries_of committed (open_of m session);
  active = slice_set m.active session None;
}

-- the transaction that begins now
abbrev pub new_transaction : Machine → Open
new_transaction m = record { number = m.begun + 1; snap = length m.ended; writes = []; kept = [] }

-- the state that a call leaves which is not refused
unfoldable pub state_when_done : Machine → ℕ → Call → Machine
state_when_done m session Begin = record m {
  begun = m.begun + 1;
  active = slice_set m.active session (Some (new_transaction m));
}
state_when_done m session (Get table key) = m
state_when_done m session (Hold table key) = with_slot m session
    (option_map (λ xact. plus_kept (row_at (table, key) (view m xact)) xact) (open_of m session))
state_when_done m session (Fetch ticket) = m
state_when_done m session (Find table tag) = m
state_when_done m session (Scan table) = m
state_when_done m session (Insert table key tag body) =
    with_write m session (Put (record { table = table; key = key; tag = tag; body = body }))
state_when_done m session (Update table key tag body) =
    with_write m session (Put (record { table = table; key = key; tag = tag; body = body }))
state_when_done m session (DeleteCall table key) = with_write m session (Delete table key)
state_when_done m session Commit = closed m session true
state_when_done m session Rollback = closed m session false

unfoldable pub state_after : Machine → ℕ → Call → Machine
state_after m session call = if is_refusal (reply_of m session call) then m else state_when_done m session call
