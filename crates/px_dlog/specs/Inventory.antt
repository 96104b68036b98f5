-- Which data logs there are, as they are kept.
use Rattle.std.specs.Prelude.{◌≡◌, ℕ, ◌+◌, ◌^◌, ◌<◌, ◌≤◌, ◌==◌, Bool, false, List, [], ◌∷◌, Option, Some, None, option_map, vec_len, vec_capacity, if◌then◌else◌}
use Rattle.px_dlog.specs.declared.inventory.ClosedLog.{ClosedLog}
use Rattle.px_dlog.specs.declared.inventory.CurrentLog.{CurrentLog}
use Rattle.px_dlog.specs.declared.inventory.Inventory.{Inventory}
use Rattle.px_dlog.specs.Logs.{Logs}

-- the length of a closed log; 0 where there is none
abbrev pub closed_len : List ClosedLog → ℕ → ℕ
closed_len [] n = 0
closed_len (log ∷ logs) n = if n == log.number then log.len else closed_len logs n

-- that of any log
abbrev pub len_in : List ClosedLog → Option CurrentLog → ℕ → ℕ
len_in closed None n = closed_len closed n
len_in closed (Some log) n = if n == log.number then log.len else closed_len closed n

abbrev pub unsynced_in : Option CurrentLog → Bool
unsynced_in None = false
unsynced_in (Some log) = log.unsynced

-- what is kept of the logs: the closed ones, the current one, and the number of the next one
pub record Kept : Type 0 where
  pub closed : List ClosedLog
  pub current : Option CurrentLog
  pub next : ℕ

-- the logs that it stands for
abbrev pub logs_of : Kept → Logs
logs_of kept = record {
  len = len_in kept.closed kept.current;
  current = option_map (λ log. log.number) kept.current;
  unsynced = unsynced_in kept.current;
  next = kept.next;
}

abbrev pub kept_of : Inventory → Kept
kept_of inventory = record { closed = inventory.closed.items; current = inventory.current; next = inventory.next }

-- logs with a byte or more whose numbers rise from this one on, and stay below another
abbrev pub Rise : (from to : ℕ) → List ClosedLog → Type 0
Rise from to [] = from ≤ to
Rise from to (log ∷ logs) = (from ≤ log.number) × (1 ≤ log.len) × Rise (log.number + 1) to logs

-- the closed logs come before the current one, and all before the next one
abbrev pub AreInOrder : List ClosedLog → Option CurrentLog → (next : ℕ) → Type 0
AreInOrder closed None next = Rise 1 next closed
AreInOrder closed (Some log) next = Rise 1 log.number closed × (1 ≤ log.len) × (log.number < next)

pub record IsSound (kept : Kept) : Type 0 where
  pub order : AreInOrder kept.closed kept.current kept.next
  pub last : kept.next ≤ 2 ^ 32

-- the first of them with this number or a later one
pub record IsFirstFrom (number : ℕ) (closed : List ClosedLog) (log : ClosedLog) : Type 0 where
  pub from : number ≤ log.number
  pub there : closed_len closed log.number ≡ log.len
  pub some : 1 ≤ log.len
  pub none_before : (n : ℕ) → number ≤ n → n < log.number → closed_len closed n ≡ 0

-- none of them has one
abbrev pub HasNoneFrom : ℕ → List ClosedLog → Type 0
HasNoneFrom number closed = (n : ℕ) → number ≤ n → closed_len closed n ≡ 0

-- there is room for one more closed log
abbrev pub HasRoom : Inventory → Type 0
HasRoom inventory = vec_len inventory.closed < vec_capacity inventory.closed
