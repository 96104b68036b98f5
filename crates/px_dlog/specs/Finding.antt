-- Data logs as a listing of the site finds them.
use Rattle.std.specs.Prelude.{◌≡◌, ℕ, ◌<◌, ◌≤◌, ◌==◌, List, [], ◌∷◌, ◌++◌, length, Option, Some, None, if◌then◌else◌}
use Rattle.px_site.specs.declared.name.FileName.{FileName}
use Rattle.px_site.specs.declared.name.FileName.TheVariants.{Dlog}
use Rattle.px_dlog.specs.declared.inventory.ClosedLog.{ClosedLog}
use Rattle.px_dlog.specs.Inventory.{closed_len}

-- up to this next log no log past a number has a byte; at None none has
abbrev pub IsNextLog : (FileName → List ℕ) → (after : ℕ) → Option ℕ → Type 0
IsNextLog content after None = (n : ℕ) → after < n → content (Dlog n) ≡ []
IsNextLog content after (Some next) = (n : ℕ) → after < n → n < next → content (Dlog n) ≡ []

-- the logs are those of these contents
abbrev pub AreLogsOf : (FileName → List ℕ) → List ClosedLog → Type 0
AreLogsOf content logs = (n : ℕ) → 1 ≤ n → length (content (Dlog n)) ≡ closed_len logs n

-- one more behind them, where it has a byte
abbrev pub with_log : List ClosedLog → ClosedLog → List ClosedLog
with_log logs log = if log.len == 0 then logs else logs ++ log ∷ []
