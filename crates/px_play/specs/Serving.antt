-- What a core makes of a step.
use Rattle.std.specs.Prelude.{◌≡◌, ⊤, Result, Ok, Err}
use Rattle.px_site.specs.State.{State, EachMoment}
use Rattle.px_site.specs.Cause.{Counts}
use Rattle.px_model.specs.Machine.{Machine, commits}
use Rattle.px_calls.specs.declared.reply.Reply.{Reply}
use Rattle.px_calls.specs.declared.reply.Reply.TheVariants.{Idle}
use Rattle.px_calls.specs.declared.status.Status.{Status}
use Rattle.px_calls.specs.declared.status.Status.TheVariants.{Damaged, DiskFault, OutOfMemory, LogFull}
use Rattle.px_calls.specs.Histories.{Step, step_reply, step_state}
use Rattle.px_cell_standing.specs.Images.{StandsBetween}
use Rattle.px_standing.specs.Images.{acked}
use Rattle.px_core.specs.declared.error.CoreError.{CoreError}
use Rattle.px_core.specs.declared.error.CoreError.TheVariants.{Damaged as DamagedAt}
use Rattle.px_core.specs.declared.state.Kept.{Kept}
use Rattle.px_core.specs.Errors.{status_of}
use Rattle.px_engine.specs.Engine.{Engine}
use Rattle.px_engine.specs.Requests.{Ask}
use Rattle.px_play.specs.Turns.{FoundFull, FoundShort, WasMade}

-- the statuses by which a step ends a run
abbrev pub HasStepEnd : Status → Type 0
HasStepEnd (Damaged file place) = ⊤
HasStepEnd (DiskFault fault) = ⊤
HasStepEnd (LogFull n) = ⊤
HasStepEnd OutOfMemory = ⊤
HasStepEnd _ = ⊥

-- a sweep that meets a cell that no store may have there leaves the sweeper idle; any other error ends a run
abbrev pub idle_where_damaged : CoreError → Result Reply Status
idle_where_damaged (DamagedAt file place) = Ok Idle
idle_where_damaged error = Err (status_of error)

-- the step was made, and this is its reply
pub record Replied {W : Type 0} (state : W → State) (e : Engine) (step : Step) (old new : Kept W) (reply : Reply) : Type 0 where
  pub made : WasMade state e (Ask step) new
  pub reply_is : reply ≡ step_reply e.machine step
  pub told : (state new.site).now.told ≡ (state old.site).now.told

-- the reply to a step, or what its error leaves
abbrev pub ServesRight : {W : Type 0} → (W → State) → (W → Counts) → Engine → Step → (old new : Kept W) → Result Reply Status → Type 0
ServesRight state counts e step old new (Ok reply) = Replied state e step old new reply
ServesRight state counts e step old new (Err (LogFull n)) = FoundFull state e (Ask step) old new n
ServesRight state counts e step old new (Err OutOfMemory) = FoundShort state counts e (Ask step) old new
ServesRight state counts e step old new (Err _) = (state new.site).now.told ≡ (state old.site).now.told

-- whatever a crash within the step leaves stands for what was published by an acknowledged commit or a later one, up to what the step commits
abbrev pub StepStands : {W : Type 0} → (W → State) → Machine → Step → Kept W → Kept W → Type 0
StepStands state m step old new =
    EachMoment (StandsBetween (acked m) (commits (step_state m step)) (step_state m step) (state old.site).now) (state old.site) (state new.site)
