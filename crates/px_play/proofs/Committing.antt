-- Which requests make a commit, and what they are answered.
use Rattle.std.proofs.Common.{◌≡◌, ◌⊎◌, ℕ, ◌+◌, ◌==◌, not, leb, Bool, true, false, cond, List, [], ◌∷◌, length, Option, Some, None, option_map, is_some, is_none, refl, ap, ◌∙◌, inl, inr, arith}
use Rattle.std.specs.Prelude.{nat_lt, slice_get}
use Rattle.std.proofs.lemmas.Bool.{cases_Bool}
use Rattle.px_model.specs.declared.limits.TheConstants.{MOST_WRITES, MOST_TICKETS, MOST_VARIATIONS}
use Rattle.px_model.specs.declared.machine.Ended.{Ended}
use Rattle.px_model.specs.declared.machine.Flat.{Flat}
use Rattle.px_model.specs.declared.machine.Open.{Open}
use Rattle.px_model.specs.declared.row.Row.{Row}
use Rattle.px_model.specs.Rows.{row_at}
use Rattle.px_model.specs.Machine.{Machine, commits, flat, horizon, view}
use Rattle.px_calls.specs.declared.call.Call.{Call}
use Rattle.px_calls.specs.declared.call.Call.TheVariants.{Begin, Get, Hold, Fetch, Find, Scan, Insert, Update, Delete, Commit, Rollback}
use Rattle.px_calls.specs.declared.reply.Reply.{Reply}
use Rattle.px_calls.specs.declared.reply.Reply.TheVariants.{Began, Held, Rows, Inserted, Updated, Deleted, Committed, EndedEmpty, OpenAlready, LimitBegins, NoTable, LimitKey, LimitBody, LimitWrites, LimitTickets, Conflict, Duplicate, Missing, TableFull, Swept, Idle}
use Rattle.px_calls.specs.Steps.{open_of, if_open, row_reply, ticket_reply, unless_refused, write_refusal, begins_spent, has_table, fits_key, fits_body, is_full, kept_row, rows_of_table, rows_with_tag, reply_of, state_after, entries_of}
use Rattle.px_calls.specs.Histories.{by, sweep}
use Rattle.px_calls.specs.Sweeps.{due_below, sweep_reply, swept_state}
use Rattle.px_calls.specs.Texts.{reply_text}
use Rattle.px_logged.proofs.Grown.{committing, call_grows, grown_commits}
use Rattle.px_engine.specs.Counts.{census_of, marks_at}
use Rattle.px_engine.specs.Engine.{Engine}
use Rattle.px_engine.specs.Requests.{Request, Ask, Stat, after_request, answer_text}
use Rattle.px_play.proofs.Replies.{IsQuiet, reply_quiet, stat_quiet, tells_commit}

-- ---- replies that tell no commit

begin_none : (opened spent : Bool) (n : ℕ) → tells_commit (cond opened OpenAlready (cond spent LimitBegins (Began n))) ≡ false
begin_none true spent n = refl
begin_none false true n = refl
begin_none false false n = refl

get_none : (has fits : Bool) (row : Option Row) → tells_commit (cond (not has) NoTable (cond (not fits) LimitKey (row_reply row))) ≡ false
get_none false fits row = refl
get_none true false row = refl
get_none true true None = refl
get_none true true (Some row) = refl

hold_none : (has fits full none : Bool) (n : ℕ) → tells_commit (cond (not has) NoTable (cond (not fits) LimitKey (cond full LimitTickets (cond none Missing (Held n))))) ≡ false
hold_none false fits full none n = refl
hold_none true false full none n = refl
hold_none true true true none n = refl
hold_none true true false true n = refl
hold_none true true false false n = refl

rows_none : (has : Bool) (rows : List Row) → tells_commit (cond (not has) NoTable (Rows rows)) ≡ false
rows_none false rows = refl
rows_none true rows = refl

done_none : (refused full : Bool) (refusal done : Reply) → tells_commit refusal ≡ false → tells_commit done ≡ false → tells_commit (cond refused refusal (cond full (TableFull MOST_VARIATIONS) done)) ≡ false
done_none true full refusal done first second = first
done_none false true refusal done first second = refl
done_none false false refusal done first second = second

none_open : (slot : Option Open) (reply : Open → Reply) → ((x : Open) → tells_commit (reply x) ≡ false) → tells_commit (if_open slot reply) ≡ false
none_open None reply none = refl
none_open (Some x) reply none = none x

none_ticket : (row : Option Row) → tells_commit (ticket_reply row) ≡ false
none_ticket None = refl
none_ticket (Some row) = refl

none_write : (m : Machine) (session : ℕ) (x : Open) (table : ℕ) (key : List ℕ) (fits : Bool) (reply : Reply) → tells_commit reply ≡ false
    → tells_commit (unless_refused (write_refusal m session x table key fits) reply) ≡ false
unfolding write_refusal
none_write m session x table key fits reply none = each (has_table m table) (fits_key key) fits (leb MOST_WRITES (length x.writes)) _
  where
    each : (a b c d : Bool) (o : Option ℕ)
        → tells_commit (unless_refused (cond (not a) (Some NoTable) (cond (not b) (Some LimitKey) (cond (not c) (Some LimitBody) (cond d (Some LimitWrites) (option_map Conflict o))))) reply) ≡ false
    each false b c d o = refl
    each true false c d o = refl
    each true true false d o = refl
    each true true true true o = refl
    each true true true false None = none
    each true true true false (Some n) = refl

-- ---- each call

-- the call makes a commit and replies so, or it makes none and doesn't
abbrev pub RepliesCommit : Machine → ℕ → Call → Type 0
RepliesCommit m session call =
    ((reply_of m session call ≡ Committed (commits m + 1)) × (commits (state_after m session call) ≡ commits m + 1))
    ⊎ ((tells_commit (reply_of m session call) ≡ false) × (commits (state_after m session call) ≡ commits m))

counts : (m : Machine) (session : ℕ) (call : Call) → commits (state_after m session call) ≡ commits m + length (committing m session call)
counts m session call = grown_commits m (state_after m session call) (committing m session call) (call_grows m session call)

other_call : (m : Machine) (session : ℕ) (call : Call) → length (committing m session call) ≡ 0 → tells_commit (reply_of m session call) ≡ false → RepliesCommit m session call
other_call m session call none other = inr (other, omega (arith, counts m session call, none))

commit_call : (m : Machine) (session : ℕ) (slot : Option Open) → open_of m session ≡ slot → RepliesCommit m session Commit
unfolding reply_of
commit_call m session None is =
    other_call m session Commit (ap (λ (s : Option Open). length (entries_of true s)) is)
    (ap (λ (s : Option Open). tells_commit (if_open s (λ xact. cond (length xact.writes == 0) EndedEmpty (Committed (commits m + 1))))) is)
commit_call m session (Some x) is =
    let e : Ended = record { number = x.number; committed = true; snap = x.snap; writes = x.writes } in
    let reply : reply_of m session Commit ≡ cond (length x.writes == 0) EndedEmpty (Committed (commits m + 1)) =
    ap (λ (s : Option Open). if_open s (λ xact. cond (length xact.writes == 0) EndedEmpty (Committed (commits m + 1)))) is in
    let entries : committing m session Commit ≡ cond (length x.writes == 0) [] (e ∷ []) = ap (entries_of true) is in
    elim (cases_Bool (length x.writes == 0)) [
      | inl empty ↦
          other_call m session Commit (ap length (entries ∙ ap (λ (b : Bool). cond b [] (e ∷ [])) empty))
          (ap tells_commit (reply ∙ ap (λ (b : Bool). cond b EndedEmpty (Committed (commits m + 1))) empty))
      | inr some ↦
          inl (
            reply ∙ ap (λ (b : Bool). cond b EndedEmpty (Committed (commits m + 1))) some,
            omega (arith, counts m session Commit, ap length (entries ∙ ap (λ (b : Bool). cond b [] (e ∷ [])) some)),
          )
    ]

pub replies_commit : (m : Machine) (session : ℕ) (call : Call) → RepliesCommit m session call
unfolding reply_of
replies_commit m session Begin = other_call m session Begin refl (begin_none (is_some (open_of m session)) (begins_spent m) (m.begun + 1))
replies_commit m session (Get table key) =
    other_call m session (Get table key) refl (none_open (open_of m session) _ (λ x. get_none (has_table m table) (fits_key key) (row_at (table, key) (view m x))))
replies_commit m session (Hold table key) =
    other_call m session (Hold table key) refl
    (none_open (open_of m session) _ (λ x. hold_none (has_table m table) (fits_key key) (leb MOST_TICKETS (length x.kept)) (is_none (row_at (table, key) (view m x))) (length x.kept + 1)))
replies_commit m session (Fetch ticket) = other_call m session (Fetch ticket) refl (none_open (open_of m session) _ (λ x. none_ticket (kept_row x ticket)))
replies_commit m session (Find table tag) =
    other_call m session (Find table tag) refl (none_open (open_of m session) _ (λ x. rows_none (has_table m table) (rows_with_tag table tag (view m x))))
replies_commit m session (Scan table) =
    other_call m session (Scan table) refl (none_open (open_of m session) _ (λ x. rows_none (has_table m table) (rows_of_table table (view m x))))
replies_commit m session (Insert table key tag body) =
    other_call m session (Insert table key tag body) refl
    (none_open (open_of m session) _ (λ x. none_write m session x table key (fits_body m body) _ (done_none (is_some (row_at (table, key) (view m x))) (is_full m table) Duplicate Inserted refl refl)))
replies_commit m session (Update table key tag body) =
    other_call m session (Update table key tag body) refl
    (none_open (open_of m session) _ (λ x. none_write m session x table key (fits_body m body) _ (done_none (is_none (row_at (table, key) (view m x))) (is_full m table) Missing Updated refl refl)))
replies_commit m session (Delete table key) =
    other_call m session (Delete table key) refl
    (none_open (open_of m session) _ (λ x. none_write m session x table key true _ (done_none (is_none (row_at (table, key) (view m x))) (is_full m table) Missing Deleted refl refl)))
replies_commit m session Commit = commit_call m session (open_of m session) refl
replies_commit m session Rollback = other_call m session Rollback refl (none_open (open_of m session) _ (λ x. refl))

-- ---- each request

sweep_none : (m : Machine) → tells_commit (sweep_reply m) ≡ false
unfolding sweep_reply
sweep_none m = by_next (slice_get (flat m) m.swept)
  where
    by_due : (due : Bool) (n : ℕ) → tells_commit (cond due (Swept n) Idle) ≡ false
    by_due true n = refl
    by_due false n = refl

    by_next : (next : Option Flat) → tells_commit (due_below (horizon m) next) ≡ false
    by_next None = refl
    by_next (Some w) = by_due (nat_lt w.place (horizon m)) w.number

-- the text says that one commit was made, or it says nothing of one and none was
abbrev pub SaysCommit : (m next : Machine) → (text : List ℕ) → Type 0
SaysCommit m next text =
    ((text ≡ reply_text (Committed (commits m + 1))) × (commits next ≡ commits m + 1)) ⊎ (IsQuiet text × (commits next ≡ commits m))

pub says_commit : (e : Engine) (request : Request) → SaysCommit e.machine (after_request e request).machine (answer_text e request)
unfolding swept_state commits
says_commit e (Ask (by session call)) =
    elim (replies_commit e.machine session call) [
      | inl commit ↦ inl (ap reply_text commit.0, commit.1)
      | inr other ↦ inr (reply_quiet (reply_of e.machine session call) other.0, other.1)
    ]
says_commit e (Ask sweep) = inr (reply_quiet (sweep_reply e.machine) (sweep_none e.machine), refl)
says_commit e Stat = inr (stat_quiet (census_of e.machine) (marks_at e.frames e.durable), refl)
