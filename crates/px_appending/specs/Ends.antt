-- The ends of transactions.
use Rattle.std.specs.Prelude.{ℕ, ◌+◌, ◌≤◌, Option, Some, None}
use Rattle.px_history.specs.Steps.{Step}
use Rattle.px_log.specs.Log.{Log}

-- a commit with this number among the commits, or else a rollback
abbrev pub end_step : (xn : ℕ) → (commit : Option ℕ) → Step
end_step xn None = Step.rollback xn
end_step xn (Some number) = Step.commit xn number

-- the next frame may have a commit with this number
pub record IsDue (log : Log) (number : ℕ) : Type 0 where
  pub some : 1 ≤ number
  pub within : number ≤ log.frames + 1
