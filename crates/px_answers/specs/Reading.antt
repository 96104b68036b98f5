-- What a call that reads leaves, and what it answers.
use Rattle.std.specs.Prelude.{◌≡◌, ℕ, ◌==◌, ◌&&◌, ◌+◌, Bool, true, false, not, List, filter, Option, Some, None, Result, IfErr, IfOk}
use Rattle.std.specs.Cmp.Lexicographic.{slice_cmp}
use Rattle.std.specs.Ordering.{is_lt, nat_cmp}
use Rattle.px_answers.specs.declared.caller.Caller.{Caller}
use Rattle.px_answers.specs.Asking.{IsCallerOn}
use Rattle.px_answers.specs.Seeing.{Sees}
use Rattle.px_calls.specs.declared.call.Call.{Call}
use Rattle.px_calls.specs.declared.call.Call.TheVariants.{Find, Scan}
use Rattle.px_calls.specs.declared.reply.Reply.{Reply}
use Rattle.px_calls.specs.Steps.{open_of, reply_of, rows_of_table}
use Rattle.px_held.specs.declared.error.HeldError.{HeldError}
use Rattle.px_held.specs.declared.reader.Reader.{Reader}
use Rattle.px_held.specs.Errors.{HasReadCause, IsPassing}
use Rattle.px_held.specs.Serving.{HasSameForm, HeldTables, Serves}
use Rattle.px_history.specs.Store.{Store}
use Rattle.px_locks.specs.Holders.{Holders}
use Rattle.px_model.specs.declared.machine.Open.{Open}
use Rattle.px_model.specs.declared.row.Row.{Row}
use Rattle.px_model.specs.Machine.{Machine}
use Rattle.px_model.specs.Rows.{Key, key_of}
use Rattle.px_shown.specs.Tables.{AreSound}
use Rattle.px_site.specs.Cause.{Counts, NoneFell}
use Rattle.px_site.specs.State.{State}

-- the site is as it was, and the tables serve what they served
pub record Stays {W : Type 0} (tells : Type 0) (state : W → State) (counts : W → Counts) (site_old site_new : W) (held_old held_new : HeldTables)
    : Type 0 where
  pub form : HasSameForm held_old held_new
  pub keeps : (store : Store) → Serves (state site_old) held_old store → Serves (state site_new) held_new store
  pub same : tells → state site_new ≡ state site_old
  pub none_fell : NoneFell (counts site_old) (counts site_new)

-- An error is want of memory, or a fault of a read that was counted; where the tables serve a store, no cell is damaged.
pub record HasCause {W T : Type 0} (tells : Type 0) (state : W → State) (counts : W → Counts) (site_old site_new : W) (held_old : HeldTables)
    (result : Result T HeldError) : Type 0 where
  pub fault : IfErr result (HasReadCause (counts site_old) (counts site_new))
  pub sound : tells → (short : ℕ) (store : Store) → Serves (state site_old) held_old store → AreSound short store.tables store.layouts
      → IfErr result IsPassing

-- a call that only reads: what it leaves, and why it gives up
pub record ReadsOnly {W T : Type 0} (tells : Type 0) (state : W → State) (counts : W → Counts) (site_old site_new : W) (held_old held_new : HeldTables)
    (result : Result T HeldError) : Type 0 where
  pub stays : Stays tells state counts site_old site_new held_old held_new
  pub cause : HasCause tells state counts site_old site_new held_old result

-- what is answered is the reply of the machine, whichever it is whose chains the store's cells hold
abbrev pub Answers : State → HeldTables → Caller → Call → Result Reply HeldError → Type 0
Answers site held caller call result =
    IsCallerOn held caller → (holders : Holders) (m : Machine) (store : Store) → Sees site held caller.xacts.now holders m store
    → IfOk result (λ reply. reply ≡ reply_of m caller.session call)

-- the reader is the session's open transaction
pub record IsReaderOf (m : Machine) (session : ℕ) (xact : Open) (reader : Reader) : Type 0 where
  pub is_open : open_of m session ≡ Some xact
  pub own : reader.own ≡ m.base + xact.number
  pub snapshot : reader.snapshot ≡ xact.snap

-- what the machine has for each of its transactions that reads these cells
abbrev pub ForReader : State → HeldTables → Reader → (Store → Machine → Open → Type 0) → Type 0
ForReader site held reader fact =
    (holders : Holders) (m : Machine) (store : Store) (session : ℕ) (xact : Open) → Sees site held reader.xacts.now holders m store
    → IsReaderOf m session xact reader → fact store m xact

-- every tag, or one
abbrev pub has_tag : Option ℕ → Row → Bool
has_tag None row = true
has_tag (Some tag) row = row.tag == tag

-- the rows of a table with such a tag
abbrev pub rows_wanted : (table : ℕ) → Option ℕ → List Row → List Row
rows_wanted table tag rows = filter (has_tag tag) (rows_of_table table rows)

-- the call that asks for them
abbrev pub call_for : (table : ℕ) → Option ℕ → Call
call_for table None = Scan table
call_for table (Some tag) = Find table tag

-- ---- the rows of a table up to a key

-- the key isn't past that one; none is up to None
abbrev pub is_up_to : Option (List ℕ) → (key : List ℕ) → Bool
is_up_to None key = false
is_up_to (Some last) key = not (is_lt (slice_cmp nat_cmp last key))

abbrev pub is_within : (table : ℕ) → Option (List ℕ) → Key → Bool
is_within table last key = (key.0 == table) && is_up_to last key.1

abbrev pub rows_to : (table : ℕ) → Option (List ℕ) → List Row → List Row
rows_to table last rows = filter (λ row. is_within table last (key_of row)) rows
