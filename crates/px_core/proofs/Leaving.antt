-- Calls of the machine that leave the cells as they are, and add nothing to the log.
use Rattle.std.proofs.Common.{◌≡◌, ℕ, true, false, [], Option, Some, None, refl, sym, ap}
use Rattle.std.proofs.lemmas.Bool.{true≢false}
use Rattle.std.specs.Prelude.{length, cond, ◌+◌, ◌==◌}
use Rattle.px_active.specs.Active.{HasNoWrites}
use Rattle.px_calls.specs.declared.call.Call.{Call}
use Rattle.px_calls.specs.declared.call.Call.TheVariants.{Begin, Get, Hold, Fetch, Find, Scan, Insert, Update, Delete, Commit, Rollback}
use Rattle.px_calls.specs.declared.reply.Reply.{Reply}
use Rattle.px_calls.specs.Steps.{if_open, is_refusal, open_of, reply_of, state_after}
use Rattle.px_cell_laws.proofs.Calling.{empty_end_leaves, reads_leave}
use Rattle.px_cell_laws.specs.Writing.{is_end}
use Rattle.px_chain_laws.proofs.Keeping.{kept_call}
use Rattle.px_chain_laws.specs.Writing.{write_of}
use Rattle.px_life.specs.Life.{Life}
use Rattle.px_logged.proofs.Adding.{begin_adds_nothing, empty_commit_adds_nothing, empty_rollback_adds_nothing, fetch_adds_nothing, find_adds_nothing, get_adds_nothing, hold_adds_nothing, refused_adds_nothing, scan_adds_nothing}
use Rattle.px_logged.specs.Logged.{logged}
use Rattle.px_model.specs.declared.machine.Open.{Open}
use Rattle.px_model.specs.Machine.{Machine, commits}
use Rattle.px_reached.specs.Reachable.{Marks}
use Rattle.px_restart.specs.declared.restart.Restart.{Restart}
use Rattle.px_shown.specs.Parts.{no_parts}
use Rattle.px_site.specs.State.{Moment}
use Rattle.px_working.proofs.Going.{empty_ends_last, empty_ends_work, reads_last, reads_work, refused_lasts, refused_works}
use Rattle.px_working.specs.Lasts.{Lasts}
use Rattle.px_working.specs.Works.{Works}
use Rattle.px_core.specs.Core.{adds_nothing}

-- the machine works on in the same cells, its store lasts in the same frames, and nothing is logged
pub record LeavesCells (m : Machine) (session : ℕ) (call : Call) : Type 0 where
  pub works : (life : Life) (restart : Restart) → Works no_parts m life restart → Works no_parts (state_after m session call) life restart
  pub lasts : (least : ℕ) (life : Life) (restart : Restart) (marks : Marks) (now : Moment) → Lasts no_parts least m life restart marks now
      → Lasts no_parts least (state_after m session call) life restart marks now
  pub none : logged m session call ≡ []

pub writes_none : (call : Call) → adds_nothing call ≡ true → write_of call ≡ None
writes_none Begin silent = refl
writes_none (Get table key) silent = refl
writes_none (Hold table key) silent = refl
writes_none (Fetch ticket) silent = refl
writes_none (Find table tag) silent = refl
writes_none (Scan table) silent = refl
writes_none (Insert table key tag body) silent = absurd (true≢false (sym silent))
writes_none (Update table key tag body) silent = absurd (true≢false (sym silent))
writes_none (Delete table key) silent = absurd (true≢false (sym silent))
writes_none Commit silent = absurd (true≢false (sym silent))
writes_none Rollback silent = absurd (true≢false (sym silent))

pub ends_none : (call : Call) → adds_nothing call ≡ true → is_end call ≡ false
ends_none Commit silent = absurd (true≢false (sym silent))
ends_none Rollback silent = absurd (true≢false (sym silent))
ends_none Begin silent = refl
ends_none (Get table key) silent = refl
ends_none (Hold table key) silent = refl
ends_none (Fetch ticket) silent = refl
ends_none (Find table tag) silent = refl
ends_none (Scan table) silent = refl
ends_none (Insert table key tag body) silent = refl
ends_none (Update table key tag body) silent = refl
ends_none (Delete table key) silent = refl

logs_none : (m : Machine) (session : ℕ) (call : Call) → adds_nothing call ≡ true → logged m session call ≡ []
logs_none m session Begin silent = begin_adds_nothing m session
logs_none m session (Get table key) silent = get_adds_nothing m session table key
logs_none m session (Hold table key) silent = hold_adds_nothing m session table key
logs_none m session (Fetch ticket) silent = fetch_adds_nothing m session ticket
logs_none m session (Find table tag) silent = find_adds_nothing m session table tag
logs_none m session (Scan table) silent = scan_adds_nothing m session table
logs_none m session (Insert table key tag body) silent = absurd (true≢false (sym silent))
logs_none m session (Update table key tag body) silent = absurd (true≢false (sym silent))
logs_none m session (Delete table key) silent = absurd (true≢false (sym silent))
logs_none m session Commit silent = absurd (true≢false (sym silent))
logs_none m session Rollback silent = absurd (true≢false (sym silent))

pub read_leaves : (m : Machine) (session : ℕ) (call : Call) → adds_nothing call ≡ true → LeavesCells m session call
read_leaves m session call silent =
    let none = writes_none call silent in
    let no_end = ends_none call silent in
    record {
      works = λ life restart works. reads_work reads_leave kept_call no_parts m life restart session call works none no_end;
      lasts = λ least life restart marks now lasts. reads_last no_parts least m life restart marks now session call lasts none no_end;
      none = logs_none m session call silent;
    }

pub refused_leaves : (m : Machine) (session : ℕ) (call : Call) → is_refusal (reply_of m session call) ≡ true → LeavesCells m session call
refused_leaves m session call refused = record {
  works = λ life restart works. refused_works no_parts m life restart session call works refused;
  lasts = λ least life restart marks now lasts. refused_lasts no_parts least m life restart marks now session call lasts refused;
  none = refused_adds_nothing m session call refused;
}

-- ---- an end without writes

empty_leaves : (m : Machine) (session : ℕ) (call : Call) (x : Open) → is_end call ≡ true → open_of m session ≡ Some x → x.writes ≡ []
    → logged m session call ≡ [] → LeavesCells m session call
empty_leaves m session call x ends at none logs = record {
  works = λ life restart works. empty_ends_work empty_end_leaves kept_call no_parts m life restart session call x works ends at none;
  lasts = λ least life restart marks now lasts. empty_ends_last no_parts least m life restart marks now session call x lasts ends at none;
  none = logs;
}

commit_unopened : (m : Machine) (session : ℕ) → open_of m session ≡ None → is_refusal (reply_of m session Commit) ≡ true
unfolding reply_of
commit_unopened m session none =
    ap (λ (slot : Option Open). is_refusal (if_open slot (λ x. cond (length x.writes == 0) Reply.EndedEmpty (Reply.Committed (commits m + 1))))) none

rollback_unopened : (m : Machine) (session : ℕ) → open_of m session ≡ None → is_refusal (reply_of m session Rollback) ≡ true
unfolding reply_of
rollback_unopened m session none = ap (λ (slot : Option Open). is_refusal (if_open slot (λ x. Reply.RolledBack))) none

pub empty_commit_leaves : (m : Machine) (session : ℕ) → HasNoWrites m session → LeavesCells m session Commit
empty_commit_leaves m session none = by_slot (open_of m session) refl
  where
    by_slot : (slot : Option Open) → open_of m session ≡ slot → LeavesCells m session Commit
    by_slot None at = refused_leaves m session Commit (commit_unopened m session at)
    by_slot (Some x) at = empty_leaves m session Commit x refl at (none x at) (empty_commit_adds_nothing m session x at (ap length (none x at)))

pub empty_rollback_leaves : (m : Machine) (session : ℕ) → HasNoWrites m session → LeavesCells m session Rollback
empty_rollback_leaves m session none = by_slot (open_of m session) refl
  where
    by_slot : (slot : Option Open) → open_of m session ≡ slot → LeavesCells m session Rollback
    by_slot None at = refused_leaves m session Rollback (rollback_unopened m session at)
    by_slot (Some x) at = empty_leaves m session Rollback x refl at (none x at) (empty_rollback_adds_nothing m session x at (ap length (none x at)))
