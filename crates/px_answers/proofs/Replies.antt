-- The machine's replies to calls that read.
use Rattle.std.proofs.Common.{◌≡◌, ℕ, ◌+◌, ◌-◌, ◌==◌, length, true, false, cond, ◌&&◌, List, [], ◌∷◌, Option, Some, None, refl, sym, ap, ◌∙◌}
use Rattle.std.specs.Prelude.{filter, is_none, nat_le, slice_get}
use Rattle.px_calls.specs.declared.call.Call.TheVariants.{Fetch, Get, Hold}
use Rattle.px_calls.specs.declared.reply.Reply.{Reply}
use Rattle.px_calls.specs.declared.reply.Reply.TheVariants.{Held, LimitTickets, Missing, NoTicket, NoTransaction, Rows}
use Rattle.px_calls.specs.Steps.{if_open, kept_row, open_of, reply_of, row_reply, rows_of_table, rows_with_tag, ticket_reply}
use Rattle.px_model.specs.declared.limits.TheConstants.{MOST_TICKETS}
use Rattle.px_model.specs.declared.machine.Open.{Open}
use Rattle.px_model.specs.declared.row.Row.{Row}
use Rattle.px_model.specs.Machine.{Machine, view}
use Rattle.px_model.specs.Rows.{row_at}
use Rattle.px_answers.specs.declared.caller.Opened.{Opened}
use Rattle.px_answers.specs.Asking.{IsKeyRefusal, IsTableRefusal, MayReadKey, MayReadTable}
use Rattle.px_answers.specs.Reading.{call_for, has_tag, rows_wanted}
use Rattle.px_answers.proofs.Opened.{key_read, table_read}

-- ---- get

pub get_refused : (m : Machine) (session table : ℕ) (key : List ℕ) (reply : Reply) → IsKeyRefusal m session table key reply → reply ≡ reply_of m session (Get table key)
unfolding reply_of
get_refused m session table key reply refused = sym (refused (λ xact. row_reply (row_at (table, key) (view m xact))))

pub get_read : {m : Machine} {session table : ℕ} {key : List ℕ} {opened : Opened} (row : Option Row) (may : MayReadKey m session table key opened)
    → row ≡ row_at (table, key) (view m may.of_table.xact) → row_reply row ≡ reply_of m session (Get table key)
unfolding reply_of
get_read {m} {session} {table} {key} row may is =
    ap row_reply is ∙ sym (key_read (λ xact. row_reply (row_at (table, key) (view m xact))) may)

-- ---- hold

abbrev hold_reply : Machine → (table : ℕ) (key : List ℕ) → Open → Reply
hold_reply m table key xact =
    cond (nat_le MOST_TICKETS (length xact.kept)) LimitTickets (cond (is_none (row_at (table, key) (view m xact))) Missing (Held (length xact.kept + 1)))

pub hold_refused : (m : Machine) (session table : ℕ) (key : List ℕ) (reply : Reply) → IsKeyRefusal m session table key reply → reply ≡ reply_of m session (Hold table key)
unfolding reply_of
hold_refused m session table key reply refused = sym (refused (hold_reply m table key))

hold_is : {m : Machine} {session table : ℕ} {key : List ℕ} {opened : Opened} (may : MayReadKey m session table key opened)
    → reply_of m session (Hold table key) ≡ hold_reply m table key may.of_table.xact
unfolding reply_of
hold_is {m} {session} {table} {key} may = key_read (hold_reply m table key) may

pub hold_many : {m : Machine} {session table : ℕ} {key : List ℕ} {opened : Opened} (may : MayReadKey m session table key opened)
    → nat_le MOST_TICKETS (length may.of_table.xact.kept) ≡ true → LimitTickets ≡ reply_of m session (Hold table key)
hold_many {m} {session} {table} {key} may many =
    sym (hold_is may ∙ ap (λ b. cond b LimitTickets (cond (is_none (row_at (table, key) (view m may.of_table.xact))) Missing (Held (length may.of_table.xact.kept + 1)))) many)

pub hold_read : {m : Machine} {session table : ℕ} {key : List ℕ} {opened : Opened} (may : MayReadKey m session table key opened) (row : Option Row)
    → nat_le MOST_TICKETS (length may.of_table.xact.kept) ≡ false → row ≡ row_at (table, key) (view m may.of_table.xact)
    → cond (is_none row) Missing (Held (length may.of_table.xact.kept + 1)) ≡ reply_of m session (Hold table key)
hold_read {m} {session} {table} {key} may row few is =
    ap (λ (o : Option Row). cond (is_none o) Missing (Held (length may.of_table.xact.kept + 1))) is
    ∙ sym (hold_is may ∙ ap (λ b. cond b LimitTickets (cond (is_none (row_at (table, key) (view m may.of_table.xact))) Missing (Held (length may.of_table.xact.kept + 1)))) few)

-- ---- fetch

pub fetch_unopened : (m : Machine) (session ticket : ℕ) → open_of m session ≡ None → NoTransaction ≡ reply_of m session (Fetch ticket)
unfolding reply_of
fetch_unopened m session ticket none = sym (ap (λ (o : Option Open). if_open o (λ xact. ticket_reply (kept_row xact ticket))) none)

pub fetch_zero : (m : Machine) (session ticket : ℕ) (x : Open) → open_of m session ≡ Some x → ticket == 0 ≡ true → NoTicket ≡ reply_of m session (Fetch ticket)
unfolding reply_of kept_row
fetch_zero m session ticket x at zero =
    sym (ap (λ (o : Option Open). if_open o (λ xact. ticket_reply (cond (ticket == 0) None (slice_get xact.kept (ticket - 1))))) at
    ∙ ap (λ b. ticket_reply (cond b None (slice_get x.kept (ticket - 1)))) zero)

pub fetch_row : (m : Machine) (session ticket : ℕ) (x : Open) (kept : List Row) (row : Option Row) → open_of m session ≡ Some x → ticket == 0 ≡ false → kept ≡ x.kept
    → slice_get kept (ticket - 1) ≡ row → ticket_reply row ≡ reply_of m session (Fetch ticket)
unfolding reply_of kept_row
fetch_row m session ticket x kept row at some same is =
    ap ticket_reply (sym is ∙ ap (λ (l : List Row). slice_get l (ticket - 1)) same)
    ∙ sym (ap (λ (o : Option Open). if_open o (λ xact. ticket_reply (cond (ticket == 0) None (slice_get xact.kept (ticket - 1))))) at
    ∙ ap (λ b. ticket_reply (cond b None (slice_get x.kept (ticket - 1)))) some)

-- ---- find and scan

pub rows_refused : (m : Machine) (session table : ℕ) (tag : Option ℕ) (reply : Reply) → IsTableRefusal m session table reply → reply ≡ reply_of m session (call_for table tag)
unfolding reply_of
rows_refused m session table None reply refused = sym (refused (λ xact. Rows (rows_of_table table (view m xact))))
rows_refused m session table (Some tag) reply refused = sym (refused (λ xact. Rows (rows_with_tag table tag (view m xact))))

all_tags : (rows : List Row) → filter (has_tag None) rows ≡ rows
all_tags [] = refl
all_tags (r ∷ rows) = ap (λ l. r ∷ l) (all_tags rows)

one_tag : (table tag : ℕ) (rows : List Row) → filter (has_tag (Some tag)) (rows_of_table table rows) ≡ rows_with_tag table tag rows
unfolding rows_of_table rows_with_tag
one_tag table tag [] = refl
one_tag table tag (r ∷ rows) =
    let left = filter (λ (row : Row). row.table == table) rows in
    let both = filter (λ (row : Row). (row.table == table) && (row.tag == tag)) rows in
    elim (r.table == table) as (λ b. filter (has_tag (Some tag)) (cond b (r ∷ left) left) ≡ cond (b && (r.tag == tag)) (r ∷ both) both) [
      | true ↦ ap (λ l. cond (r.tag == tag) (r ∷ l) l) (one_tag table tag rows)
      | false ↦ one_tag table tag rows
    ]

pub rows_read : {m : Machine} {session table : ℕ} {opened : Opened} (tag : Option ℕ) (rows : List Row) (may : MayReadTable m session table opened)
    → rows ≡ rows_wanted table tag (view m may.xact) → Rows rows ≡ reply_of m session (call_for table tag)
unfolding reply_of
rows_read {m} {session} {table} None rows may is =
    ap (λ l. Rows l) (is ∙ all_tags (rows_of_table table (view m may.xact)))
    ∙ sym (table_read (λ xact. Rows (rows_of_table table (view m xact))) may)
rows_read {m} {session} {table} (Some tag) rows may is =
    ap (λ l. Rows l) (is ∙ one_tag table tag (view m may.xact))
    ∙ sym (table_read (λ xact. Rows (rows_with_tag table tag (view m xact))) may)
