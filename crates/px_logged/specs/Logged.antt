-- What a session's call adds to the log.
use Rattle.std.specs.Prelude.{ℕ, ◌+◌, ◌==◌, List, [], ◌∷◌, ◌++◌, length, Option, Some, None, if◌then◌else◌}
use Rattle.px_model.specs.declared.write.Write.{Write}
use Rattle.px_model.specs.declared.write.Write.TheVariants.{Put as PutRow, Delete as DeleteRow}
use Rattle.px_model.specs.declared.machine.Open.{Open}
use Rattle.px_model.specs.Machine.{Machine, commits}
use Rattle.px_calls.specs.declared.call.Call.{Call}
use Rattle.px_calls.specs.declared.call.Call.TheVariants.{Begin, Get, Hold, Fetch, Find, Scan, Insert, Update, Delete, Commit, Rollback}
use Rattle.px_calls.specs.Steps.{open_of, is_refusal, reply_of, state_after}
use Rattle.px_told.specs.declared.change.Change.{Change}
use Rattle.px_told.specs.declared.change.Change.TheVariants.{Put, Commit as CommitChange, Rollback as RollbackChange}

-- a write of the open transaction, by its stored number
abbrev pub put_of : Machine → Option Open → Write → List Change
put_of m None write = []
put_of m (Some xact) write = Put (m.base + xact.number) write ∷ []

-- its end, where it has writes
abbrev pub end_of : Machine → Option Open → (ℕ → Change) → List Change
end_of m None change = []
end_of m (Some xact) change = if length xact.writes == 0 then [] else change (m.base + xact.number) ∷ []

-- what a call adds that is not refused
abbrev pub logged_when_done : Machine → Option Open → Call → List Change
logged_when_done m slot Begin = []
logged_when_done m slot (Get table key) = []
logged_when_done m slot (Hold table key) = []
logged_when_done m slot (Fetch ticket) = []
logged_when_done m slot (Find table tag) = []
logged_when_done m slot (Scan table) = []
logged_when_done m slot (Insert table key tag body) = put_of m slot (PutRow (record { table = table; key = key; tag = tag; body = body }))
logged_when_done m slot (Update table key tag body) = put_of m slot (PutRow (record { table = table; key = key; tag = tag; body = body }))
logged_when_done m slot (Delete table key) = put_of m slot (DeleteRow table key)
logged_when_done m slot Commit = end_of m slot (λ xn. CommitChange xn (commits m + 1))
logged_when_done m slot Rollback = end_of m slot RollbackChange

unfoldable pub logged : Machine → ℕ → Call → List Change
logged m session call = if is_refusal (reply_of m session call) then [] else logged_when_done m (open_of m session) call

-- what calls add, in order
abbrev pub logged_by_all : Machine → List (ℕ × Call) → List Change
logged_by_all m [] = []
logged_by_all m (c ∷ calls) = logged m c.0 c.1 ++ logged_by_all (state_after m c.0 c.1) calls
